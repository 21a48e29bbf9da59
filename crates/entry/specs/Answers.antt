-- The answers of this crate as the paper counts them: the refusal's number, and the values beside it. Kinds: 0 cannot unwind, 1 compact in the
-- index, 2 compact in the table, 3 generic, 4 leads to the table. A field that its kind does not use is 0.
use Rattle.std.specs.Prelude.{ℕ, List, [], ◌∷◌, length, slice_index}
use Rattle.section.specs.Answer.{Answer, counted}
use Rattle.section.specs.Check.{Answered}
use Rattle.section.specs.declared.Addr.{Addr}
use Rattle.entry.specs.Parts.{language_in}
use Rattle.entry.specs.declared.Personality.{Personality}
use Rattle.entry.specs.declared.Content.{Content}
use Rattle.entry.specs.declared.IndexEntry.{IndexEntry}
use Rattle.entry.specs.declared.TableEntry.{TableEntry}

-- a selector, or the address of a personality
abbrev pub personality_value : Personality → ℕ
personality_value (Personality.Compact n) = n
personality_value (Personality.Generic a) = a.0

-- kind, selector or table address, offset of the words, words, skip
abbrev pub content_row : Content → List ℕ
content_row Content.CannotUnwind = 0 ∷ 0 ∷ 0 ∷ 0 ∷ 0 ∷ []
content_row (Content.Compact p s) = 1 ∷ personality_value p ∷ s.at.0 ∷ s.words ∷ s.skip ∷ []
content_row (Content.Table a) = 4 ∷ a.0 ∷ 0 ∷ 0 ∷ 0 ∷ []

abbrev pub table_kind : Personality → ℕ
table_kind (Personality.Compact n) = 2
table_kind (Personality.Generic a) = 3

-- kind, selector or personality address, offset of the words, words, skip, offset of the language data
abbrev pub table_row : TableEntry → List ℕ
table_row e =
    table_kind e.personality ∷ personality_value e.personality ∷ e.span.at.0 ∷ e.span.words ∷ e.span.skip ∷ e.language.0 ∷ []

-- function
abbrev pub function_answer : Answered Addr → Answer
function_answer x = counted 1 (λ f. f.0 ∷ []) x

abbrev pub content_answer : Answered Content → Answer
content_answer x = counted 5 content_row x

-- function, and the content's row
abbrev pub index_answer : Answered IndexEntry → Answer
index_answer x = counted 6 (λ e. e.function.0 ∷ content_row e.content) x

abbrev pub table_answer : Answered TableEntry → Answer
table_answer x = counted 6 table_row x

-- of the language data in a table: how many bytes it has, and the one at a position, 0 past its end
abbrev pub language_answer : List ℕ → ℕ → Answered TableEntry → Answer
language_answer ys at x = counted 2 (λ e. length (language_in ys e.language) ∷ slice_index (language_in ys e.language) at ∷ []) x
