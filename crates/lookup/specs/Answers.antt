-- The paper's number and values of a lookup's answer: entry, function, kind, selector or personality address, start, end, pad, has action, action.
-- Kinds: 0 cannot unwind, 1 compact in the index, 2 compact in the table, 3 generic. A field that its kind does not use is 0.
use Rattle.std.specs.Prelude.{ℕ, List, [], ◌∷◌}
use Rattle.section.specs.Answer.{Answer, counted}
use Rattle.section.specs.Check.{Answered}
use Rattle.entry.specs.Parts.{chosen}
use Rattle.lsda.specs.Answers.{site_row}
use Rattle.lookup.specs.declared.Looked.{Looked}

abbrev pub looked_row : Looked → List ℕ
looked_row (Looked.CannotUnwind k f) = k ∷ f.0 ∷ 0 ∷ 0 ∷ 0 ∷ 0 ∷ 0 ∷ 0 ∷ 0 ∷ []
looked_row (Looked.Compact k f h n) = k ∷ f.0 ∷ chosen h 1 2 ∷ n ∷ 0 ∷ 0 ∷ 0 ∷ 0 ∷ 0 ∷ []
looked_row (Looked.Generic k f p site) = k ∷ f.0 ∷ 3 ∷ p.0 ∷ site_row site

abbrev pub looked_answer : Answered Looked → Answer
looked_answer x = counted 9 looked_row x
