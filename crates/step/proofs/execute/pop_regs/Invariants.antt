-- What is left to pop, from here with the registers that are left, is what the definition asks. Assumes nothing.
use Rattle.std.proofs.Common.{◌≡◌, ◌≤◌}
use Rattle.step.specs.Execute.{sp_of}
use Rattle.step.proofs.Pops.{pop_left}
use Rattle.step.proofs.execute.pop_regs.Given as goal

abbrev pub invariant-loop-j : goal.invariant-loop-j
invariant-loop-j l = (l.j ≤ 16) × (pop_left l.stack.bytes.now l.stack.at l.mask 0 (sp_of l.initial.core) l.initial.core ≡ pop_left l.stack.bytes.now l.stack.at l.mask l.j l.sp l.core)
