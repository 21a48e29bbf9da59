-- The copy of k bytes becomes the copy of k + 1 by each store; at the end it is of all of them. Assumes nothing.
use mathlib.Core.Path.{◌≡◌, ◌∙◌, refl}
use lib.ListN.{length}
use lib.Seq.{paste-zero}
use native.Mathlib.Omega.{arith}
use Rattle.audit_image.proofs.Copy.{one_more, all_copied, copied_room}
use Rattle.audit_image.proofs.line.say.Goals as goal

pub loop-k-init : goal.loop-k-init
loop-k-init c = (paste-zero c.args.line.bytes c.args.line.len c.args.text.now, omega arith, omega arith, c.requires.bytes)

pub loop-k-preserved : goal.loop-k-preserved
loop-k-preserved c = (one_more _ _ _ _ _ c.loop-k.invariant.0 c.loop-k.invariant.2 c.loop-k-test.true, omega arith, c.loop-k.invariant.2, c.loop-k.invariant.3)

pub returns : goal.returns
returns c = let whole : c.loop-k.k ≡ length c.args.text.now = omega arith in
    record {
      text = rw (← whole) (all_copied _ _ _ _ _ c.loop-k.invariant.0 c.loop-k.invariant.2 whole);
      bytes = copied_room _ _ _ _ _ c.loop-k.invariant.0 c.loop-k.invariant.2 c.loop-k.invariant.1 ∙ c.loop-k.invariant.3;
      length = refl;
    }
