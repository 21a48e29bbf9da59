-- As long as the loop goes on, `value` and `scale` are those of the k digits passed, and where the LEB ends is still to be seen in the 5 - k bytes
-- after them. Assumes nothing.
use Rattle.std.proofs.Common.{◌≡◌, ◌-◌, ◌^◌, length}
use Rattle.section.specs.Digits.{bytes_at, digits, end_of, end_from}
use Rattle.pointer.proofs.leb.read.Given as goal

abbrev pub invariant-loop-k : goal.invariant-loop-k
invariant-loop-k l =
    let f = bytes_at l.data l.from in
    let n = length l.data - l.from in
    (l.scale ≡ 128 ^ l.k) × (l.value ≡ digits 128 f l.k) × (end_of f n ≡ end_from f n (5 - l.k) l.k)
