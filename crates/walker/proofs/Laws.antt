-- Where a walk may start, one law for each way to an answer, and what a walk answers at a position; and that the contracts leave one answer. Assumes nothing.
use Rattle.std.proofs.Common.{◌≡◌, ℕ, ◌≤◌, ◌<◌, List, length, refl, sym, ap, ◌∙◌, le-leb, Option, Err}
use lib.Seq.{take-length}
use borrow.Author.Tests.{lt-leb}
use denote.Ref.{Bor}
use Rattle.section.specs.Check.{Answered, Check, fine}
use Rattle.section.specs.Rule.{words_rule}
use Rattle.section.specs.View.{bytes_of, Part}
use Rattle.section.specs.declared.Refusal.{Refusal}
use Rattle.section.proofs.Views.{part_one}
use Rattle.instruction.specs.Bytes.{byte_of}
use Rattle.instruction.specs.Decode.{decode_of}
use Rattle.instruction.specs.declared.Instruction.{Instruction}
use Rattle.walker.specs.Walker.{start_rule, start_spot, start_pos, pos_after_byte, pos_after_instruction, Starts, Steps, StepsByte, StepsInstruction, got_or_refused, walked_byte, walked_instruction}
use Rattle.walker.specs.declared.UnwindByteIter.{UnwindByteIter}
use Rattle.walker.specs.declared.Started.{Started}
use Rattle.walker.specs.declared.Next.{Next}

module _ (w : List ℕ) (skip : ℕ) where
  -- whether it may start
  pub start_refused : (r : Refusal) → words_rule (length w) ≡ Err r → start_rule w skip ≡ Err r
  unfolding start_rule
  start_refused r e = rw e

  pub start_skip : words_rule (length w) ≡ fine → 2 < skip → start_rule w skip ≡ Err Refusal.Section
  unfolding start_rule
  start_skip e h = rw (e, lt-leb skip 2 h)

  pub start_fine : words_rule (length w) ≡ fine → skip ≤ 2 → start_rule w skip ≡ fine
  unfolding start_rule
  start_fine e h = rw (e, le-leb skip 2 h)

  -- where it starts
  pub spot_all : start_rule w skip ≡ fine → start_spot w skip ≡ (0, length w)
  unfolding start_spot
  spot_all e = rw e

  pub spot_none : (r : Refusal) → start_rule w skip ≡ Err r → start_spot w skip ≡ (0, 0)
  unfolding start_spot
  spot_none r e = rw e

  pub pos_skip : start_rule w skip ≡ fine → start_pos w skip ≡ skip
  unfolding start_pos
  pos_skip e = rw e

  pub pos_none : (r : Refusal) → start_rule w skip ≡ Err r → start_pos w skip ≡ 0
  unfolding start_pos
  pos_none r e = rw e

-- where a walk may start, its part is all of the bytes
pub start_all : (s r : Bor (List ℕ)) (skip : ℕ) → Part s r (start_spot s.now skip) → start_rule s.now skip ≡ fine → r.now ≡ s.now
start_all s r skip p e = p.bytes ∙ ap (bytes_of s.now) (spot_all s.now skip e) ∙ take-length s.now

-- what a walk answers at a position, by what each step answers: `read` there, the position `after` it, and `answer` of the check and these, which at a refusal sees the check alone
module _ {B Y : Type 0} (read : List ℕ → ℕ → B) (after : List ℕ → ℕ → ℕ) (answer : Check → B → ℕ → Y) (refuses : (q : Refusal) (b d : B) (m n : ℕ) → answer (Err q) b m ≡ answer (Err q) d n) where
  pub walked : (s r : Bor (List ℕ)) (skip k n : ℕ) (c : Check) (b : B) (y : Y)
      → c ≡ start_rule s.now skip → Part s r (start_spot s.now skip) → b ≡ read r.now k → n ≡ after r.now k → y ≡ answer c b n → y ≡ answer (start_rule s.now skip) (read s.now k) (after s.now k)
  walked s r skip k n c b y e p f g h = go (start_rule s.now skip) refl
    where
      go : (x : Check) → start_rule s.now skip ≡ x → y ≡ answer (start_rule s.now skip) (read s.now k) (after s.now k)
      go fine k' =
          let all = start_all s r skip p k' in
          h ∙ (ap (λ x. answer x b n) e ∙ (ap (λ x. answer (start_rule s.now skip) x n) (f ∙ ap (λ x. read x k) all) ∙ ap (answer (start_rule s.now skip) (read s.now k)) (g ∙ ap (λ x. after x k) all)))
      go (Err q) k' = rw k' (h ∙ (ap (λ x. answer x b n) (e ∙ k') ∙ refuses q b (read s.now k) n (after s.now k)))

-- with what stands there in the part, and the position after it
module _ {T : Type 0} (read : List ℕ → ℕ → Answered (Option T)) (after : List ℕ → ℕ → ℕ) (s r : Bor (List ℕ)) (skip k : ℕ) (p : Part s r (start_spot s.now skip)) where
  got_walked : got_or_refused (start_rule s.now skip) (read s.now k) (after s.now k) ≡ got_or_refused (start_rule s.now skip) (read r.now k) (after r.now k)
  got_walked = sym (walked read after (λ c b n. got_or_refused c b n) (λ q b d m n. refl) s r skip k _ _ _ _ refl p refl refl refl)

module _ (s r : Bor (List ℕ)) (skip k : ℕ) (p : Part s r (start_spot s.now skip)) where
  pub byte_walked : walked_byte s.now skip k ≡ got_or_refused (start_rule s.now skip) (byte_of r.now k) (pos_after_byte r.now k)
  unfolding walked_byte
  byte_walked = got_walked byte_of pos_after_byte s r skip k p

  pub instruction_walked : walked_instruction s.now skip k ≡ got_or_refused (start_rule s.now skip) (decode_of r.now k) (pos_after_instruction r.now k)
  unfolding walked_instruction
  instruction_walked = got_walked decode_of pos_after_instruction s r skip k p

-- ---- the contracts leave one answer
-- two starts have the same check, the same part and the same position
pub started_one : (s : Bor (List ℕ)) (skip : ℕ) (r q : Started) → Starts s skip r → Starts s skip q → (r.check ≡ q.check) × (((r.bytes.ref_ptr ≡ q.bytes.ref_ptr) × (r.bytes.now ≡ q.bytes.now)) × (r.pos ≡ q.pos))
started_one s skip r q a b = (a.0 ∙ sym b.0, (part_one a.1.0 b.1.0, a.1.1 ∙ sym b.1.1))

-- two steps are the same
next_one : {T : Type 0} (read : List ℕ → ℕ → Answered (Option T)) (after : List ℕ → ℕ → ℕ) (it : UnwindByteIter) (r q : Next T) → Steps read after it r → Steps read after it q → r ≡ q
next_one read after it r q a b = rw (a.0, a.1.0, a.1.1, b.0, b.1.0, b.1.1)

pub next_byte_one : (it : UnwindByteIter) (r q : Next ℕ) → StepsByte it r → StepsByte it q → r ≡ q
next_byte_one it r q a b = next_one byte_of pos_after_byte it r q a b

pub next_instruction_one : (it : UnwindByteIter) (r q : Next (Instruction × ℕ)) → StepsInstruction it r → StepsInstruction it q → r ≡ q
next_instruction_one it r q a b = next_one decode_of pos_after_instruction it r q a b
