-- The run from here, with the registers and the count so far, is the run that the definition asks, and each instruction that was counted took a byte. Assumes nothing.
use Rattle.std.proofs.Common.{◌≡◌, ◌-◌, ◌≤◌, length}
use Rattle.instruction.specs.Program.{program_of}
use Rattle.step.specs.Execute.{registers}
use Rattle.step.specs.Run.{run_from, run_of}
use Rattle.step.proofs.run.run.Given as goal

abbrev pub invariant-loop-i : goal.invariant-loop-i
invariant-loop-i l =
    let given = registers l.initial.core l.initial.vfp in
    (l.count ≤ l.at)
    × (run_of l.words l.skip l.stack.bytes.now l.stack.at given ≡ run_from (program_of l.words l.at) l.stack.bytes.now l.stack.at given (registers l.core l.vfp) l.loaded l.count)

abbrev pub decreases-loop-i : goal.decreases-loop-i
decreases-loop-i l = length l.words - l.at
