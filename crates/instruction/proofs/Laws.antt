-- Laws of the instructions: one for each way to an answer, and what is known of an instruction that was decoded. Assumes nothing.
use Rattle.std.proofs.Common.{◌≡◌, ℕ, ◌+◌, ◌-◌, ◌*◌, ◌%◌, ◌≤◌, ◌<◌, Bool, List, length, eqb, leb, refl, sym, ap, ◌∙◌, arith, le-leb, eq-eqb, ne_eqb, Some, None, Ok, Err}
use Rattle.std.specs.Option.{option_map_or}
use native.Mathlib.Nat.{le_refl}
use borrow.Author.Tests.{lt-leb}
use Rattle.section.specs.Pick.{pick}
use Rattle.section.specs.Check.{and_then}
use Rattle.section.specs.Digits.{digits, End, end_of}
use Rattle.section.specs.Rule.{words_rule, WholeWords}
use Rattle.section.specs.declared.Refusal.{Refusal}
use Rattle.section.proofs.Picks.{pick_both}
use Rattle.section.proofs.Checks.{no_fault}
use Rattle.section.proofs.Ends.{end_each}
use Rattle.section.proofs.Rules.{words_exact}
use Rattle.instruction.specs.Bytes.{byte_of, WithinWords}
use Rattle.instruction.specs.Decode.{Step, step, error_at, with_second, size_of, pop_mask, to_sp, pop_run, low_mask, bytes_from, long_of, ended_long, pop_long, vfp_pop, single_of, opcode_of, Decoded, decode_of, Named}
use Rattle.instruction.specs.declared.Instruction.{Instruction}
use Rattle.instruction.proofs.Bytes.{byte_each}

-- ---- a second byte c
module _ (w : List ℕ) (n c : ℕ) (e : byte_of w n ≡ Ok (Some c)) where
  pub mask_refused : (b : ℕ) → b % 16 * 256 + c ≡ 0 → pop_mask w n b ≡ step Instruction.Refused (n + 1)
  unfolding pop_mask
  mask_refused b h = rw (e, eq-eqb (b % 16 * 256 + c) 0 h)

  pub mask_pop : (b : ℕ) → 0 < b % 16 * 256 + c → pop_mask w n b ≡ step (Instruction.RegPop ((b % 16 * 256 + c) * 16)) (n + 1)
  unfolding pop_mask
  mask_pop b h = rw (e, ne_eqb (b % 16 * 256 + c) 0 (λ z. omega arith))

  pub low_zero : c ≡ 0 → low_mask w n ≡ step Instruction.Reserved (n + 1)
  unfolding low_mask
  low_zero h = rw (e, eq-eqb c 0 h)

  pub low_high : 0x10 ≤ c → low_mask w n ≡ step Instruction.Reserved (n + 1)
  unfolding low_mask
  low_high h = rw (e, ne_eqb c 0 (λ z. omega arith), le-leb 0x10 c h)

  pub low_pop : 0 < c → c < 0x10 → low_mask w n ≡ step (Instruction.RegPop c) (n + 1)
  unfolding low_mask
  low_pop h g = rw (e, ne_eqb c 0 (λ z. omega arith), lt-leb 0x10 c g)

-- ---- the value of a ULEB
module _ (w : List ℕ) (n v : ℕ) where
  pub long_in : v ≤ 0x3FFFFF7E → long_of w n v ≡ step (Instruction.DataPop (4 * v + 0x204)) n
  unfolding long_of
  long_in h = rw (le-leb v 0x3FFFFF7E h)

  pub long_over : 0x3FFFFF7E < v → long_of w n v ≡ error_at w
  unfolding long_of
  long_over h = rw (lt-leb v 0x3FFFFF7E h)

-- B2, by how its ULEB ends
module _ (w : List ℕ) (n : ℕ) where
  pub long_by : (e : End) → end_of (bytes_from w n) (length w - n) ≡ e → pop_long w n ≡ ended_long w n e
  unfolding pop_long
  long_by e h = rw h

  pub long_after : (k : ℕ) {m v : ℕ} → m ≡ n + k → v ≡ digits 128 (bytes_from w n) k → long_of w m v ≡ ended_long w n (End.after k)
  long_after k p q = rw (p, q)

-- ---- the ranges of a first byte b
module _ (w : List ℕ) (n b : ℕ) where
  pub is_pop : b ≤ 0x3F → opcode_of w n b ≡ step (Instruction.DataPop (size_of b)) n
  unfolding opcode_of
  is_pop h = rw (le-leb b 0x3F h)

  pub is_push : 0x3F < b → b ≤ 0x7F → opcode_of w n b ≡ step (Instruction.DataPush (size_of b)) n
  unfolding opcode_of
  is_push g h = rw (lt-leb b 0x3F g, le-leb b 0x7F h)

  pub is_mask : 0x7F < b → b ≤ 0x8F → opcode_of w n b ≡ pop_mask w n b
  unfolding opcode_of
  is_mask g h = rw (lt-leb b 0x3F (omega arith), lt-leb b 0x7F g, le-leb b 0x8F h)

  pub is_to_sp : 0x8F < b → b ≤ 0x9F → opcode_of w n b ≡ to_sp n b
  unfolding opcode_of
  is_to_sp g h = rw (lt-leb b 0x3F (omega arith), lt-leb b 0x7F (omega arith), lt-leb b 0x8F g, le-leb b 0x9F h)

  pub is_run : 0x9F < b → b ≤ 0xAF → opcode_of w n b ≡ pop_run n b
  unfolding opcode_of
  is_run g h = rw (lt-leb b 0x3F (omega arith), lt-leb b 0x7F (omega arith), lt-leb b 0x8F (omega arith), lt-leb b 0x9F g, le-leb b 0xAF h)

  pub is_single : 0xAF < b → opcode_of w n b ≡ single_of w n b
  unfolding opcode_of
  is_single g = rw (lt-leb b 0x3F (omega arith), lt-leb b 0x7F (omega arith), lt-leb b 0x8F (omega arith), lt-leb b 0x9F (omega arith), lt-leb b 0xAF g)

-- ---- each instruction takes a byte: the next position is not before n
data Taken (n : ℕ) : Step → Type 0 where
  taken : {i : Instruction} {m : ℕ} → n ≤ m → Named i → Taken n (step i m)

module _ (w : List ℕ) (n : ℕ) (inside : WithinWords w n) where
  either : (t : Bool) {a b : Step} → Taken n a → Taken n b → Taken n (pick t a b)
  either t p q = pick_both (Taken n) t _ _ p q

  error_taken : Taken n (error_at w)
  error_taken = taken inside.within tt

  second_taken : (f : ℕ → Step) → ((c : ℕ) → Taken n (f c)) → Taken n (with_second w n f)
  second_taken f t =
      byte_each w n (λ x. Taken n (and_then x (λ o. option_map_or f o (error_at w))))
      (λ _ _. t _)
      (λ _ _. error_taken)
      (λ r e. no_fault r (sym e ∙ (words_exact (length w)).1 inside.words))

  long_taken : Taken n (pop_long w n)
  unfolding pop_long long_of
  long_taken =
      end_each (bytes_from w n) (length w - n) (λ e. Taken n (ended_long w n e))
      (λ k h. either (leb (digits 128 (bytes_from w n) (k + 1)) 0x3FFFFF7E) (taken (omega arith) tt) error_taken)
      error_taken
      error_taken

  opcode_taken : (b : ℕ) → Taken n (opcode_of w n b)
  unfolding opcode_of pop_mask to_sp pop_run low_mask vfp_pop single_of
  opcode_taken b =
      let here : n ≤ n = le_refl n in
      let next : n ≤ n + 1 = omega arith in
      either (leb b 0x3F) (taken here tt)
      (either (leb b 0x7F) (taken here tt)
      (either (leb b 0x8F) (second_taken _ (λ c. either (eqb (b % 16 * 256 + c) 0) (taken next tt) (taken next tt)))
      (either (leb b 0x9F) (either (eqb b 0x9D) (taken here tt) (either (eqb b 0x9F) (taken here tt) (taken here (omega arith))))
      (either (leb b 0xAF) (taken here tt)
      (either (eqb b 0xB0) (taken here tt)
      (either (eqb b 0xB1) (second_taken _ (λ c. either (eqb c 0) (taken next tt) (either (leb 0x10 c) (taken next tt) (taken next tt))))
      (either (eqb b 0xB2) long_taken
      (either (eqb b 0xC8) (second_taken _ (λ c. taken next tt))
      (either (eqb b 0xC9) (second_taken _ (λ c. taken next tt))
      (taken here tt))))))))))

-- a step that is decoded is one instruction with one next position
pub same_step : {i j : Instruction} {m n : ℕ} → Path Decoded (Ok (Some (i, m))) (Ok (Some (j, n))) → (i ≡ j) × (m ≡ n)
same_step {i} {j} {m} {n} e = let s : Path (Instruction × ℕ) (i, m) (j, n) = cc in (ap (λ x. x.0) s, ap (λ x. x.1) s)

-- what is known of an instruction that was decoded at k, with the next position m
pub record Read (w : List ℕ) (k : ℕ) (i : Instruction) (m : ℕ) : Type 0 where
  pub words : WholeWords (length w)
  pub within : k < length w
  pub onward : k < m
  pub register : Named i

module _ (w : List ℕ) (k : ℕ) where
  -- what holds of each instruction, of the end and of each refusal holds of what is decoded
  pub decode_each : (P : Decoded → Type 0) → ((i : Instruction) (m : ℕ) → Read w k i m → P (Ok (Some (i, m)))) → (WholeWords (length w) → length w ≤ k → P (Ok None)) → ((r : Refusal) → words_rule (length w) ≡ Err r → P (Err r)) → P (decode_of w k)
  unfolding decode_of
  decode_each P step_case end-case refused-case =
      byte_each w k (λ x. P (and_then x (λ o. option_map_or (λ b. and_then (opcode_of w (k + 1) b) (λ s. Ok (Some s))) o (Ok None))))
      (λ x h. go x h (opcode_taken w (k + 1) (record { within = omega arith; words = x }) _))
      end-case
      refused-case
    where
      go : {d : Step} → WholeWords (length w) → k < length w → Taken (k + 1) d → P (and_then d (λ s. Ok (Some s)))
      go x h (Taken.taken {i = i} {m = m} g t) = step_case i m (record { words = x; within = h; onward = omega arith; register = t })

  -- an instruction that is decoded starts within words that pass, and the walk goes on
  pub decode_inside : (i : Instruction) (m : ℕ) → decode_of w k ≡ Ok (Some (i, m)) → Read w k i m
  decode_inside i m =
      decode_each (λ d. d ≡ Ok (Some (i, m)) → Read w k i m)
      (λ j l r e. let p = same_step e in rw (← p.0, ← p.1) r)
      (λ x h e. let z : ◌≡◌ {A = ℕ} 0 1 = cc in absurd (omega arith))
      (λ r x e. let z : ◌≡◌ {A = ℕ} 0 1 = cc in absurd (omega arith))

  -- whole words are never refused
  pub decode_whole : {X : Type 0} → WholeWords (length w) → (r : Refusal) → decode_of w k ≡ Err r → X
  decode_whole {X} x r =
      decode_each (λ d. d ≡ Err r → X)
      (λ i m h e. let z : ◌≡◌ {A = ℕ} 0 1 = cc in absurd (omega arith))
      (λ _ _ e. let z : ◌≡◌ {A = ℕ} 0 1 = cc in absurd (omega arith))
      (λ q e _. no_fault q (sym e ∙ (words_exact (length w)).1 x))

  -- past the last byte of whole words is the end
  pub decode_past : WholeWords (length w) → length w ≤ k → decode_of w k ≡ Ok None
  decode_past x h =
      decode_each (λ d. d ≡ Ok None)
      (λ i m r. absurd (omega arith))
      (λ _ _. refl)
      (λ r e. no_fault r (sym e ∙ (words_exact (length w)).1 x))
