-- `value` is the number of the k digits passed, and `scale` is one digit behind. Assumes nothing.
use Rattle.std.proofs.Common.{◌≡◌, ◌*◌, ◌^◌}
use Rattle.section.specs.Digits.{bytes_at, digits}
use Rattle.pointer.proofs.fixed.read.Given as goal

abbrev pub invariant-loop-k : goal.invariant-loop-k
invariant-loop-k l = (l.scale * 256 ≡ 256 ^ l.k) × (l.value ≡ digits 256 (bytes_at l.data l.from) l.k)
