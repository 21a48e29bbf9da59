-- The instructions of an entry as one walk, through the first Finish or Refused or to the end. A run and an audit are functions of its trail.
use Rattle.std.specs.Prelude.{ℕ, ◌+◌, ◌≤◌, List, Bool, true, false, length, nat_le, Ok, Err, Some, None}
use Rattle.std.specs.Result.{result_and}
use Rattle.section.specs.Pick.{pick}
use Rattle.section.specs.Check.{Check, fine, need}
use Rattle.section.specs.Walk.{Look, done, bad, last, item, Trail, trail_of, checked, Clean}
use Rattle.section.specs.declared.Refusal.{Refusal}
use Rattle.instruction.specs.Decode.{Decoded, decode_of}
use Rattle.instruction.specs.declared.Instruction.{Instruction}

-- Finish and Refused end the walk
abbrev pub ends_of : Instruction → Bool
ends_of (Instruction.DataPop n) = false
ends_of (Instruction.DataPush n) = false
ends_of (Instruction.RegPop n) = false
ends_of (Instruction.RegToSp n) = false
ends_of (Instruction.VfpPop s n) = false
ends_of Instruction.Finish = true
ends_of Instruction.Refused = true
ends_of Instruction.Reserved = false
ends_of Instruction.Unimplemented = false
ends_of Instruction.Error = false

abbrev pub look_of : Decoded → Look ℕ Instruction
look_of (Ok (Some s)) = pick (ends_of s.0) (last s.0) (item s.0 s.1)
look_of (Ok None) = done
look_of (Err r) = bad r

abbrev pub instruction_at : List ℕ → ℕ → Look ℕ Instruction
instruction_at w at = look_of (decode_of w at)

unfoldable pub program_of : List ℕ → ℕ → Trail Instruction
program_of w at = trail_of (instruction_at w) (length w) at

-- what an audit has against an instruction
abbrev pub fault_of : Instruction → Check
fault_of (Instruction.DataPop n) = fine
fault_of (Instruction.DataPush n) = fine
fault_of (Instruction.RegPop n) = fine
fault_of (Instruction.RegToSp n) = fine
fault_of (Instruction.VfpPop start count) = need (nat_le (start + count) 32) Refusal.Regs
fault_of Instruction.Finish = fine
fault_of Instruction.Refused = fine
fault_of Instruction.Reserved = Err Refusal.Reserved
fault_of Instruction.Unimplemented = Err Refusal.Unsupported
fault_of Instruction.Error = Err Refusal.Malformed

-- a skip over 2 is 1; then the first fault
unfoldable pub audit_instructions_of : List ℕ → ℕ → Check
audit_instructions_of w skip = result_and (need (nat_le skip 2) Refusal.Section) (checked fault_of (program_of w skip))

-- ---- without the walk: an instruction that can be executed
pub data Executable : Instruction → Type 0 where
  data_pop : {n : ℕ} → Executable (Instruction.DataPop n)
  data_push : {n : ℕ} → Executable (Instruction.DataPush n)
  reg_pop : {n : ℕ} → Executable (Instruction.RegPop n)
  reg_to_sp : {n : ℕ} → Executable (Instruction.RegToSp n)
  vfp_pop : {start count : ℕ} → start + count ≤ 32 → Executable (Instruction.VfpPop start count)
  finish : Executable Instruction.Finish
  refused : Executable Instruction.Refused

-- wherever the instructions lead from the skip, through the first Finish or Refused or to the end, an executable one stands
pub record CleanInstructions (w : List ℕ) (skip : ℕ) : Type 0 where
  pub skips : skip ≤ 2
  pub executable : Clean Executable (instruction_at w) skip

-- how the audit of whole words from a skip of at most 2 ends: what has no line here can't happen
pub data Audited : Check → Type 0 where
  passed : Audited fine
  reserved : Audited (Err Refusal.Reserved)
  unsupported : Audited (Err Refusal.Unsupported)
  malformed : Audited (Err Refusal.Malformed)
  regs : Audited (Err Refusal.Regs)
