-- An answer as the paper counts it: the refusal's number, 0 for none, and the values beside it, all zero at a refusal.
use Rattle.std.specs.Prelude.{◌≡◌, ℕ, List, replicate, Ok, Err}
use Rattle.section.specs.Check.{Answered}
use Rattle.section.specs.Number.{number}
use Rattle.section.specs.declared.Refusal.{Refusal}

pub record Answer : Type 0 where
  pub number : ℕ
  pub row : List ℕ

abbrev pub given : List ℕ → Answer
given row = record { number = 0; row = row }

-- a refusal, with n zeros beside it
abbrev pub refused : ℕ → Refusal → Answer
refused n r = record { number = number r; row = replicate n 0 }

-- of n values, which stand in a row
abbrev pub counted : {A : Type 0} → ℕ → (A → List ℕ) → Answered A → Answer
counted n row (Ok x) = given (row x)
counted n row (Err r) = refused n r

-- a call that returns the number and fills the row gave this answer
pub record Told (a : Answer) (returned : ℕ) (filled : List ℕ) : Type 0 where
  pub number : returned ≡ a.number
  pub row : filled ≡ a.row
