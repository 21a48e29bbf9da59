-- The walker keeps the part that holds the instruction bytes and a position, as `UnwindByteIter` does. Running out is the end.
use Rattle.std.specs.Prelude.{ℕ, ◌+◌, ◌≡◌, List, length, nat_le, Option, Err}
use Rattle.std.specs.Option.{option_map_or}
use Rattle.std.specs.Result.{result_and}
use Rattle.std.specs.Borrow.{Bor}
use Rattle.section.specs.Check.{Answered, Check, need, on_answer}
use Rattle.section.specs.Rule.{words_rule}
use Rattle.section.specs.View.{Spot, Part}
use Rattle.section.specs.declared.Refusal.{Refusal}
use Rattle.instruction.specs.Bytes.{byte_of}
use Rattle.instruction.specs.Decode.{decode_of}
use Rattle.instruction.specs.declared.Instruction.{Instruction}
use Rattle.walker.specs.declared.UnwindByteIter.{UnwindByteIter}
use Rattle.walker.specs.declared.Started.{Started}
use Rattle.walker.specs.declared.Next.{Next}
use Rattle.walker.specs.declared.Walked.{Walked}

-- a walk may start on instruction words, with a skip of at most 2
unfoldable pub start_rule : List ℕ → ℕ → Check
start_rule w skip = result_and (words_rule (length w)) (need (nat_le skip 2) Refusal.Section)

-- then the walker is over all of them, at the skip; else over the empty part at their start, at 0
unfoldable pub start_spot : List ℕ → ℕ → Spot
start_spot w skip = on_answer (start_rule w skip) (λ _. (0, length w)) (λ _. (0, 0))

unfoldable pub start_pos : List ℕ → ℕ → ℕ
start_pos w skip = on_answer (start_rule w skip) (λ _. skip) (λ _. 0)

-- what stands there moves the walker from k to the next position; at the end, and over no instruction words, it stays
abbrev pub pos_after : {T : Type 0} → Answered (Option T) → (T → ℕ) → ℕ → ℕ
pos_after got next k = on_answer got (λ o. option_map_or next o k) (λ _. k)

-- a byte moves it by one
unfoldable pub pos_after_byte : List ℕ → ℕ → ℕ
pos_after_byte w k = pos_after (byte_of w k) (λ _. k + 1) k

-- an instruction moves it to the position after it, which after Error is the end
unfoldable pub pos_after_instruction : List ℕ → ℕ → ℕ
pos_after_instruction w k = pos_after (decode_of w k) (λ s. s.1) k

-- ---- what is said of the three
-- of a start: whether it may be, the part to walk, and the position
abbrev pub Starts : Bor (List ℕ) → ℕ → Started → Type 0
Starts s skip r = (r.check ≡ start_rule s.now skip) × (Part s r.bytes (start_spot s.now skip) × (r.pos ≡ start_pos s.now skip))

-- of a step: what stands at the walker, and the walker after it, over the same bytes
abbrev pub Steps : {T : Type 0} → (List ℕ → ℕ → Answered (Option T)) → (List ℕ → ℕ → ℕ) → UnwindByteIter → Next T → Type 0
Steps read after it r = (r.got ≡ read it.bytes.now it.pos) × ((r.bytes ≡ it.bytes) × (r.pos ≡ after it.bytes.now it.pos))

abbrev pub StepsByte : UnwindByteIter → Next ℕ → Type 0
StepsByte it r = Steps byte_of pos_after_byte it r

abbrev pub StepsInstruction : UnwindByteIter → Next (Instruction × ℕ) → Type 0
StepsInstruction it r = Steps decode_of pos_after_instruction it r

-- ---- a walk at a position
-- what a walk got and the position after it, where the walk may start; else why not, and 0
abbrev pub got_or_refused : {T : Type 0} → Check → Answered (Option T) → ℕ → Walked T
got_or_refused c got k = on_answer c (λ _. record { got = got; pos = k }) (λ r. record { got = Err r; pos = 0 })

-- a walk that has come to a position: the byte there, the instruction there
unfoldable pub walked_byte : List ℕ → ℕ → ℕ → Walked ℕ
walked_byte w skip k = got_or_refused (start_rule w skip) (byte_of w k) (pos_after_byte w k)

unfoldable pub walked_instruction : List ℕ → ℕ → ℕ → Walked (Instruction × ℕ)
walked_instruction w skip k = got_or_refused (start_rule w skip) (decode_of w k) (pos_after_instruction w k)
