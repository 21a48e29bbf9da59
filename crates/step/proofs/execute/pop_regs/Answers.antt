-- A turn takes the word at sp where the register's bit is set; and at the end 13 takes sp where its bit is not. Assumes nothing.
use Rattle.std.proofs.Common.{◌∙◌, arith}
use Rattle.step.proofs.Pops.{turn_skip, turn_load, pop_done, regs_loaded, regs_risen}
use Rattle.step.proofs.execute.pop_regs.Goals as goal
use Rattle.step.proofs.execute.pop_regs.Goals.{then-mask-j-eq1+in_ok-core, else-mask-j-eq1, then-mask-eq0, else-mask-eq0}

pub loop-j-preserved : goal.loop-j-preserved
loop-j-preserved c = (
  omega arith,
  c.loop-j.invariant.1 ∙ elim c.if-mask-j-eq1.branch [
    | then-mask-j-eq1+in_ok-core w ↦ rw (w.core-is, w.sp-is) (grind (arith, turn_load))
    | else-mask-j-eq1 w ↦ rw (w.core-is, w.sp-is) (turn_skip _ _ _ _ _ _ c.loop-j-test.true w.if-mask-j-eq1.false)
  ],
)

pub returns : goal.returns
returns c = λ vfp. elim c.if-mask-eq0.branch [
  | then-mask-eq0 w ↦ rw w.core-is (regs_risen _ _ _ _ _ _ (c.loop-j.invariant.1 ∙ pop_done _ _ _ _ _ _ c.loop-j-test.false) (λ h. omega arith))
  | else-mask-eq0 w ↦ rw w.core-is (regs_loaded _ _ _ _ _ _ (c.loop-j.invariant.1 ∙ pop_done _ _ _ _ _ _ c.loop-j-test.false) (omega arith))
]
