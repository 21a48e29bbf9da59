-- The copy of k bytes becomes the copy of k + 1 by each store; at the end it is of all of them. Assumes nothing.
use Prim.Native.Nat.{◌+◌, ◌≤◌}
use mathlib.Core.Path.{◌≡◌}
use lib.ListN.{length}
use lib.Seq.{paste}
use Rattle.audit_image.specs.Line.{room}
use Rattle.audit_image.proofs.line.say.Given as goal

abbrev pub invariant-loop-k : goal.invariant-loop-k
invariant-loop-k l = (l.bytes ≡ paste l.initial.bytes l.from l.text l.k) × (l.k ≤ length l.text) × (l.from + length l.text ≤ length l.initial.bytes) × (length l.initial.bytes ≡ room)
