-- The paper's number and values for each answer of this crate.
use Rattle.std.specs.Prelude.{ℕ, [], ◌∷◌, Option}
use Rattle.std.specs.Option.{ok_or}
use Rattle.section.specs.Answer.{Answer, counted}
use Rattle.section.specs.Check.{Check}
use Rattle.section.specs.declared.Addr.{Addr}
use Rattle.section.specs.declared.Off.{Off}
use Rattle.section.specs.declared.Refusal.{Refusal}

-- a test has no values
abbrev pub check_answer : Check → Answer
check_answer c = counted 0 (λ _. []) c

-- the offset of an address; below the section, or at or past its end 5
abbrev pub offset_answer : Option Off → Answer
offset_answer o = counted 1 (λ x. x.0 ∷ []) (ok_or o Refusal.Place)

-- a sum; over 0xFFFFFFFF 10
abbrev pub sum_answer : Option Addr → Answer
sum_answer o = counted 1 (λ x. x.0 ∷ []) (ok_or o Refusal.Sum)

-- a word; where it runs past the end 6
abbrev pub word_answer : Option ℕ → Answer
word_answer o = counted 1 (λ x. x ∷ []) (ok_or o Refusal.Truncated)
