-- Every register was loaded. Assumes nothing.
use Rattle.std.proofs.Common.{◌∙◌, arith}
use Rattle.step.proofs.Pops.{vfp_turn_done, vfp_turn_loaded}
use Rattle.step.proofs.execute.pop_vfp.Goals as goal

pub returns : goal.returns
returns c = vfp_turn_loaded _ _ _ _ _ (omega arith) _ _ (c.loop-j.invariant.1 ∙ vfp_turn_done _ _ _ _ _ _ (omega arith))
