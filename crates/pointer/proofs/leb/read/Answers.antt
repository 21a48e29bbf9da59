-- A turn passes one digit more. Assumes nothing.
use Rattle.std.proofs.Common.{ap, ◌∙◌, ◌%◌, ℕ, arith}
use lib.Dec.{lit<}
use Rattle.section.specs.Digits.{bytes_at}
use Rattle.section.proofs.Digits.{grow}
use Rattle.section.proofs.Ends.{at_more}
use Rattle.pointer.proofs.leb.read.Goals as goal

pub loop-k-preserved : goal.loop-k-preserved
loop-k-preserved c =
    let g = grow 128 5 (lit< tt) (bytes_at c.args.«data».now c.args.at.0) (omega arith) c.loop-k.invariant.1 c.loop-k.invariant.0 (ap (λ (n : ℕ). n % 128) c.wide-byte.ensures) in
    (g.scale_next, g.next, c.loop-k.invariant.2 ∙ at_more _ _ _ (omega arith) (omega arith) (omega arith))
