-- A call that was told leaves one answer, and 0 is no refusal's number. Assumes nothing.
use Rattle.std.proofs.Common.{◌≡◌, ℕ, List, sym, ◌∙◌, arith}
use Rattle.section.specs.Answer.{Answer, Told}
use Rattle.section.specs.Number.{number}
use Rattle.section.specs.declared.Refusal.{Refusal}

pub told_one : (a : Answer) (n m : ℕ) (x y : List ℕ) → Told a n x → Told a m y → (n ≡ m) × (x ≡ y)
told_one a n m x y p q = (p.number ∙ sym q.number, p.row ∙ sym q.row)

-- no refusal's number is 0
pub number_some : (r : Refusal) → number r ≡ 0 → ⊥
number_some Refusal.Section e = omega arith
number_some Refusal.NoEntry e = omega arith
number_some Refusal.Corrupt e = omega arith
number_some Refusal.Unsorted e = omega arith
number_some Refusal.Place e = omega arith
number_some Refusal.Truncated e = omega arith
number_some Refusal.Selector e = omega arith
number_some Refusal.Encoding e = omega arith
number_some Refusal.Value e = omega arith
number_some Refusal.Sum e = omega arith
number_some Refusal.NoSite e = omega arith
number_some Refusal.Refused e = omega arith
number_some Refusal.Reserved e = omega arith
number_some Refusal.Unsupported e = omega arith
number_some Refusal.Malformed e = omega arith
number_some Refusal.Regs e = omega arith
number_some Refusal.Stack e = omega arith
number_some Refusal.Bundle e = omega arith
