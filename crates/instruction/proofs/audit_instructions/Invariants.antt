-- The audit from here is the audit that the contract asks. Assumes nothing.
use Rattle.std.proofs.Common.{◌≡◌, ◌-◌, length}
use Rattle.instruction.specs.Program.{audit_instructions_of}
use Rattle.instruction.proofs.Program.{audit_from}
use Rattle.instruction.proofs.audit_instructions.Given as goal

abbrev pub invariant-loop-i : goal.invariant-loop-i
invariant-loop-i l = audit_from l.words l.at ≡ audit_instructions_of l.words l.skip

abbrev pub decreases-loop-i : goal.decreases-loop-i
decreases-loop-i l = length l.words - l.at
