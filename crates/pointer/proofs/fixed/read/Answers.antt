-- Every sum and product of a turn stays below 256 ^ 8. Assumes nothing.
use Rattle.std.proofs.Common.{◌*◌, ◌+◌, ◌≤◌, arith}
use native.Mathlib.Nat.{pow-le-pow_right}
use lib.Dec.{lit<}
use Rattle.section.specs.Digits.{bytes_at}
use Rattle.section.proofs.Digits.{Grown, grow}
use Rattle.pointer.proofs.fixed.read.Goals as goal
use Rattle.pointer.proofs.fixed.read.Goals.{After-wide}

-- the turn's new number
grown : (c : After-wide) → Grown 256 8 (bytes_at c.args.«data».now c.args.at.0) c.loop-k.k c.loop-k.value (c.loop-k.scale * 256) c.wide.result
grown c =
    grow 256 8 (lit< tt) _ (omega arith) c.loop-k.invariant.1 c.loop-k.invariant.0 (omega (arith, c.type_inv.data (c.args.at.0 + c.loop-k.k)))

pub overflow_mul-scale : goal.overflow_mul-scale
overflow_mul-scale c = let h : c.loop-k.k ≤ 7 = omega arith in
    omega (arith, pow-le-pow_right {n = 256} (lit< tt) {j = 7} h)

pub overflow_mul-value : goal.overflow_mul-value
overflow_mul-value c = let g = grown ((goal.at.overflow_mul-value c).After-wide) in omega arith

pub overflow_add-value : goal.overflow_add-value
overflow_add-value c = let g = grown ((goal.at.overflow_add-value c).After-wide) in omega arith

pub overflow_mul-result : goal.overflow_mul-result
overflow_mul-result c = let h : c.loop-k.k ≤ 8 = omega arith in
    omega (arith, pow-le-pow_right {n = 256} (lit< tt) {j = 8} h)
