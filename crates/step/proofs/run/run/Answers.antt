-- An instruction leads to a next one or ends the frame, as the bytes' end does. Assumes nothing.
use Rattle.std.proofs.Common.{ap, sym, ◌∙◌, Ok}
use Rattle.step.proofs.Runs.{run_end, run_finish}
use Rattle.step.proofs.run.run.Goals as goal
use Rattle.step.proofs.run.run.Goals.{in-Some+in_ok-now+in-Finished, in_default}

pub returns : goal.returns
returns c = elim c.match-branch-2.branch [
  | in-Some+in_ok-now+in-Finished w ↦ rw (c.link.ensures, w.core-is, w.vfp-is, w.count-is)
      (c.loop-i.invariant.1 ∙ run_finish _ _ _ _ _ _ _ _ _ _ (sym c.in_ok-i.ensures ∙ ap Ok w.in-Some.is) _ (rw w.in-Finished.is at w.in_ok-now.ensures))
  | in_default w ↦ rw (c.link.ensures, w.core-is, w.vfp-is, w.count-is) (c.loop-i.invariant.1 ∙ run_end _ _ _ _ _ _ _ _ (sym c.in_ok-i.ensures ∙ ap Ok w.in_default.is))
]
