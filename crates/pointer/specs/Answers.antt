-- The paper's number and values of a reader's answer: the value, and the next position.
use Rattle.std.specs.Prelude.{[], ◌∷◌}
use Rattle.section.specs.Answer.{Answer, counted}
use Rattle.pointer.specs.Number.{Read}

abbrev pub read_answer : Read → Answer
read_answer x = counted 2 (λ p. p.0 ∷ p.1.0 ∷ []) x
