-- The paper's number and values of a step's answer: kind (0 the next frame, 1 cannot unwind) and count; the registers stand beside it.
use Rattle.std.specs.Prelude.{ℕ, List, [], ◌∷◌}
use Rattle.section.specs.Answer.{Answer, counted}
use Rattle.section.specs.Check.{Answered}
use Rattle.step.specs.declared.Arrival.{Arrival}
use Rattle.step.specs.declared.Stepped.{Stepped}

abbrev pub arrival_row : Arrival → List ℕ
arrival_row (Arrival.Frame n) = 0 ∷ n ∷ []
arrival_row Arrival.CannotUnwind = 1 ∷ 0 ∷ []

abbrev pub arrival_answer : Answered Arrival → Answer
arrival_answer x = counted 2 arrival_row x

abbrev pub step_answer : Stepped → Answer
step_answer x = arrival_answer x.arrival
