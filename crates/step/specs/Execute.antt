-- What one instruction does to the registers: 16 of 32 bits, where 13 is sp, 14 the link and 15 the counter, and 32 VFP registers of 64 bits.
use Rattle.std.specs.Prelude.{ℕ, zero, suc, ◌+◌, ◌-◌, ◌/◌, ◌%◌, ◌^◌, Bool, true, false, List, ◌==◌, nat_le, slice_index, slice_set, Option, Some, Ok, Err}
use Rattle.std.specs.Option.{option_and_then, ok_or}
use Rattle.section.specs.Pick.{pick}
use Rattle.section.specs.Check.{Answered, and_then}
use Rattle.section.specs.declared.Addr.{Addr}
use Rattle.section.specs.declared.Refusal.{Refusal}
use Rattle.instruction.specs.declared.Instruction.{Instruction}
use Rattle.step.specs.Stack.{stack_word, stack_double}
use Rattle.step.specs.declared.Registers.{Registers}
use Rattle.step.specs.declared.execute.Outcome.{Outcome}

abbrev pub registers : List ℕ → List ℕ → Registers
registers core vfp = record { core = core; vfp = vfp }

-- what an instruction leads to: the next one, and whether 15 was loaded, or the end of the frame, with these registers; or a refusal
abbrev pub Effect : Type 0
Effect = Answered (Outcome × Registers)

abbrev pub next : Registers → Bool → Effect
next r pc = Ok (Outcome.Next pc, r)

abbrev pub finished : Registers → Effect
finished r = Ok (Outcome.Finished, r)

abbrev pub sp_of : List ℕ → ℕ
sp_of core = slice_index core 13

abbrev pub with_sp : List ℕ → ℕ → List ℕ
with_sp core sp = slice_set core 13 sp

-- all sp sums wrap
abbrev pub up : ℕ → ℕ → ℕ
up sp n = (sp + n) % 2 ^ 32

abbrev pub down : ℕ → ℕ → ℕ
down sp n = (sp + (2 ^ 32 - n)) % 2 ^ 32

-- data pop adds to sp, push takes off
abbrev pub raised : List ℕ → ℕ → List ℕ
raised core n = with_sp core (up (sp_of core) n)

abbrev pub lowered : List ℕ → ℕ → List ℕ
lowered core n = with_sp core (down (sp_of core) n)

-- sp from a register
abbrev pub from_register : List ℕ → ℕ → List ℕ
from_register core n = with_sp core (slice_index core n)

-- registers that were loaded and the sp after them; none where a word lies outside the stack
abbrev pub Popped : Type 0
Popped = Option (List ℕ × ℕ)

abbrev pub bit : ℕ → ℕ → Bool
bit mask j = mask / 2 ^ j % 2 == 1

-- register j: where its bit of the mask is set it takes the word at sp, which then rises by 4
abbrev pub pop_one : Bool → Option ℕ → ℕ → List ℕ → ℕ → (ℕ → List ℕ → Popped) → Popped
pop_one true w sp core j go = option_and_then (λ v. go (up sp 4) (slice_set core j v)) w
pop_one false w sp core j go = go sp core

-- k registers from j on, in register order
unfoldable pub pop_from : ℕ → List ℕ → Addr → ℕ → ℕ → ℕ → List ℕ → Popped
pop_from zero st base mask j sp core = Some (core, sp)
pop_from (suc k) st base mask j sp core =
    pop_one (bit mask j) (stack_word st base sp) sp core j (λ sp' core'. pop_from k st base mask (j + 1) sp' core')

-- 13 is written back only after the whole instruction, unless it was loaded
unfoldable pub pop_regs : List ℕ → Addr → Registers → ℕ → Effect
pop_regs st base r mask =
    and_then (ok_or (pop_from 16 st base mask 0 (sp_of r.core) r.core) Refusal.Stack)
    (λ p. next (registers (pick (bit mask 13) p.0 (with_sp p.0 p.1)) r.vfp) (bit mask 15))

-- k VFP registers from j on, 8 bytes each
unfoldable pub vfp_from : ℕ → List ℕ → Addr → ℕ → ℕ → List ℕ → Popped
vfp_from zero st base j sp vfp = Some (vfp, sp)
vfp_from (suc k) st base j sp vfp = option_and_then (λ v. vfp_from k st base (j + 1) (up sp 8) (slice_set vfp j v)) (stack_double st base sp)

-- start plus count over 32 is tested before the stack is read
unfoldable pub pop_vfp : List ℕ → Addr → Registers → ℕ → ℕ → Effect
pop_vfp st base r start count =
    pick (nat_le (start + count) 32)
    (and_then (ok_or (vfp_from count st base start (sp_of r.core) r.vfp) Refusal.Stack) (λ p. next (registers (with_sp r.core p.1) p.0) false))
    (Err Refusal.Regs)

-- an instruction's effect
unfoldable pub execute_of : List ℕ → Addr → Registers → Instruction → Effect
execute_of st base r (Instruction.DataPop n) = next (registers (raised r.core n) r.vfp) false
execute_of st base r (Instruction.DataPush n) = next (registers (lowered r.core n) r.vfp) false
execute_of st base r (Instruction.RegPop mask) = pop_regs st base r mask
execute_of st base r (Instruction.RegToSp n) = next (registers (from_register r.core n) r.vfp) false
execute_of st base r (Instruction.VfpPop start count) = pop_vfp st base r start count
execute_of st base r Instruction.Finish = finished r
execute_of st base r Instruction.Refused = Err Refusal.Refused
execute_of st base r Instruction.Reserved = Err Refusal.Reserved
execute_of st base r Instruction.Unimplemented = Err Refusal.Unsupported
execute_of st base r Instruction.Error = Err Refusal.Malformed

-- the effect that code reports: its outcome, with the registers as it leaves them
abbrev pub effect_of : Answered Outcome → List ℕ → List ℕ → Effect
effect_of x core vfp = and_then x (λ o. Ok (o, registers core vfp))
