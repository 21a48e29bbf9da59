-- A step for C: the registers go in and come out beside the row.
use Rattle.std.specs.Prelude.{ℕ, ◌≡◌, List}
use Rattle.section.specs.Answer.{Told}
use Rattle.step.specs.Answers.{step_answer}
use Rattle.step.specs.declared.Stepped.{Stepped}

-- the answer's number and row, and all 48 registers
pub record StepTold (x : Stepped) (returned : ℕ) (core vfp row : List ℕ) : Type 0 where
  pub answer : Told (step_answer x) returned row
  pub core_is : core ≡ x.registers.core
  pub vfp_is : vfp ≡ x.registers.vfp
