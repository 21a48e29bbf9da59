-- What an entry leads to as the paper counts it: function, kind, selector or personality address, offset of the words, words, skip, offset of the
-- language data. Kinds: 0 cannot unwind, 1 compact in the index, 2 compact in the table, 3 generic. A field that its kind does not use is 0.
use Rattle.std.specs.Prelude.{ℕ, List, [], ◌∷◌}
use Rattle.section.specs.Answer.{Answer, counted}
use Rattle.section.specs.Check.{Answered}
use Rattle.entry.specs.Parts.{chosen}
use Rattle.image.specs.declared.Found.{Found}

abbrev pub found_row : Found → List ℕ
found_row (Found.CannotUnwind f) = f.0 ∷ 0 ∷ 0 ∷ 0 ∷ 0 ∷ 0 ∷ 0 ∷ []
found_row (Found.Compact f n s) = f.0 ∷ chosen s.held 1 2 ∷ n ∷ s.at.0 ∷ s.words ∷ s.skip ∷ 0 ∷ []
found_row (Found.Generic f a s o) = f.0 ∷ 3 ∷ a.0 ∷ s.at.0 ∷ s.words ∷ s.skip ∷ o.0 ∷ []

abbrev pub found_answer : Answered Found → Answer
found_answer x = counted 7 found_row x
