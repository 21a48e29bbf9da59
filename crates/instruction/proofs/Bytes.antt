-- Laws of instruction bytes: one for each way to an answer, and what an answer says of the words. Assumes nothing.
use Rattle.std.proofs.Common.{◌≡◌, ℕ, ◌+◌, ◌≤◌, ◌<◌, List, length, ltb, refl, arith, ltb-true, ltb-false, lt-ltb, le-ltb, Some, None, Ok, Err}
use Rattle.section.specs.Pick.{pick}
use Rattle.section.specs.Check.{Check, fine, and_then}
use Rattle.section.specs.Rule.{words_rule, WholeWords}
use Rattle.section.specs.declared.Refusal.{Refusal}
use Rattle.section.proofs.Picks.{pick_each}
use Rattle.section.proofs.Rules.{words_exact}
use Rattle.instruction.specs.Bytes.{Byte, instruction_byte, byte_of, WithinWords}

module _ (w : List ℕ) (k : ℕ) where
  pub byte_refused : (r : Refusal) → words_rule (length w) ≡ Err r → byte_of w k ≡ Err r
  unfolding byte_of
  byte_refused r e = rw e

  pub byte_past : WholeWords (length w) → length w ≤ k → byte_of w k ≡ Ok None
  unfolding byte_of
  byte_past x h = rw ((words_exact (length w)).1 x, le-ltb k (length w) h)

  pub byte_here : WholeWords (length w) → k < length w → byte_of w k ≡ Ok (Some (instruction_byte w k))
  unfolding byte_of
  byte_here x h = rw ((words_exact (length w)).1 x, lt-ltb k (length w) h)

  -- what holds of a byte that is there, of the end and of each refusal holds of what stands at a position
  pub byte_each : (P : Byte → Type 0) → (WholeWords (length w) → k < length w → P (Ok (Some (instruction_byte w k)))) → (WholeWords (length w) → length w ≤ k → P (Ok None)) → ((r : Refusal) → words_rule (length w) ≡ Err r → P (Err r)) → P (byte_of w k)
  unfolding byte_of
  byte_each P is end refused = go (words_rule (length w)) refl
    where
      go : (x : Check) → words_rule (length w) ≡ x → P (and_then x (λ _. Ok (pick (ltb k (length w)) (Some (instruction_byte w k)) None)))
      go fine e =
          let x = (words_exact (length w)).0 e in
          pick_each (λ o. P (Ok o)) (ltb k (length w)) (Some (instruction_byte w k)) None (λ t. is x (ltb-true _ _ t)) (λ t. end x (ltb-false _ _ t))
      go (Err r) e = refused r e

  -- a byte that is there lies within words that pass
  pub byte_inside : (b : ℕ) → byte_of w k ≡ Ok (Some b) → WithinWords w (k + 1)
  byte_inside b = byte_each (λ x. x ≡ Ok (Some b) → WithinWords w (k + 1))
      (λ x h e. record { within = omega arith; words = x })
      (λ x h e. let z : ◌≡◌ {A = ℕ} 0 1 = cc in absurd (omega arith))
      (λ r h e. let z : ◌≡◌ {A = ℕ} 0 1 = cc in absurd (omega arith))
