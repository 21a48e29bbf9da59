-- An image: an index and a table, where they stand, and what an entry leads to. Lookup, step and audit are made of `entry_at`.
use Rattle.std.specs.Prelude.{ℕ, List, length, Option, Ok, ok_or}
use Rattle.std.specs.Result.{result_and}
use Rattle.section.specs.Check.{Answered, Check, and_then}
use Rattle.section.specs.Rule.{table_most, index_rule, table_rule, Section, IndexSection}
use Rattle.section.specs.Place.{offset_of}
use Rattle.section.specs.declared.Addr.{Addr}
use Rattle.section.specs.declared.Off.{Off}
use Rattle.section.specs.declared.Refusal.{Refusal}
use Rattle.entry.specs.Index.{entries, content_at, index_entry_of}
use Rattle.entry.specs.Table.{table_entry_of}
use Rattle.entry.specs.Parts.{held_words, language_in}
use Rattle.entry.specs.declared.Span.{Span}
use Rattle.entry.specs.declared.Personality.{Personality}
use Rattle.entry.specs.declared.Content.{Content}
use Rattle.entry.specs.declared.TableEntry.{TableEntry}
use Rattle.image.specs.declared.Found.{Found}
use Rattle.image.specs.declared.Image as lent

pub record Image : Type 0 where
  pub index : List ℕ
  pub index_at : Addr
  pub table : List ℕ
  pub table_at : Addr

abbrev pub image : List ℕ → Addr → List ℕ → Addr → Image
image xs a ys b = record { index = xs; index_at = a; table = ys; table_at = b }

-- what is lent, as it stands
abbrev pub seen : lent.Image → Image
seen i = image i.index.bytes.now i.index.at i.table.bytes.now i.table.at

abbrev pub count_of : Image → ℕ
count_of i = entries i.index

-- ---- the section rules, the index's first
unfoldable pub sections_of : Image → Check
sections_of i = result_and (index_rule (length i.index) i.index_at) (table_rule (length i.table) i.table_at)

-- what passes, in words
pub record Sections (i : Image) : Type 0 where
  pub index : IndexSection (length i.index) i.index_at
  pub table : Section table_most (length i.table) i.table_at

-- ---- what an entry leads to
abbrev pub by_personality : Addr → TableEntry → Personality → Found
by_personality f e (Personality.Compact n) = Found.Compact f n e.span
by_personality f e (Personality.Generic a) = Found.Generic f a e.span e.language

abbrev pub from_table : Addr → Answered TableEntry → Answered Found
from_table f x = and_then x (λ e. Ok (by_personality f e e.personality))

-- outside the table 5; inside it, the entry there
abbrev pub from_place : Addr → List ℕ → Addr → Option Off → Answered Found
from_place f ys b p = and_then (ok_or p Refusal.Place) (λ o. from_table f (table_entry_of ys b o))

-- a compact content has a selector, and no other personality
abbrev pub selector_in : Personality → ℕ
selector_in (Personality.Compact n) = n
selector_in (Personality.Generic a) = 0

abbrev pub from_content : Addr → List ℕ → Addr → Content → Answered Found
from_content f ys b Content.CannotUnwind = Ok (Found.CannotUnwind f)
from_content f ys b (Content.Compact p s) = Ok (Found.Compact f (selector_in p) s)
from_content f ys b (Content.Table a) = from_place f ys b (offset_of b (length ys) a)

-- entry k with what it leads to: sections, then the entry, then the place, then the table's entry
unfoldable pub entry_at : Image → ℕ → Answered Found
entry_at i k = result_and (sections_of i) (and_then (index_entry_of i.index i.index_at k) (λ e. from_content e.function i.table i.table_at e.content))

-- the same for an entry whose function is known
unfoldable pub led_in : Image → ℕ → Addr → Answered Found
led_in i k f = and_then (content_at i.index i.index_at k) (from_content f i.table i.table_at)

unfoldable pub led_by : Image → ℕ → Addr → Answered Found
led_by i k f = result_and (sections_of i) (led_in i k f)

-- ---- the bytes that an entry names
-- of its instruction words, from whichever section holds them
abbrev pub words_of : Image → Span → List ℕ
words_of i n = held_words i.index i.table n

-- of its language data, from an offset of the table on
abbrev pub language_of : Image → Off → List ℕ
language_of i o = language_in i.table o
