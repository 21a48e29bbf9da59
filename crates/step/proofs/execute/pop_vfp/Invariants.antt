-- What is left to pop, from here with the registers that are left, is what the definition asks. Assumes nothing.
use Rattle.std.proofs.Common.{◌≡◌, ◌-◌, ◌≤◌}
use Rattle.step.specs.Execute.{sp_of, vfp_from}
use Rattle.step.proofs.execute.pop_vfp.Given as goal

abbrev pub invariant-loop-j : goal.invariant-loop-j
invariant-loop-j l = (l.j ≤ l.end) × (vfp_from (l.end - l.first) l.stack.bytes.now l.stack.at l.first (sp_of l.core) l.initial.vfp ≡ vfp_from (l.end - l.j) l.stack.bytes.now l.stack.at l.j l.sp l.vfp)
