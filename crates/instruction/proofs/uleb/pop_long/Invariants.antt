-- `value` and `scale` are those of the k digits passed, and where the ULEB ends is still to be seen in the 5 - k bytes after them. Assumes nothing.
use Rattle.std.proofs.Common.{◌≡◌, ◌-◌, ◌^◌, ◌≤◌, length}
use Rattle.section.specs.Digits.{digits, end_of, end_from}
use Rattle.instruction.specs.Decode.{bytes_from}
use Rattle.instruction.proofs.uleb.pop_long.Given as goal

abbrev pub invariant-loop-k : goal.invariant-loop-k
invariant-loop-k l =
    let f = bytes_from l.at.words.now l.at.next in
    let n = length l.at.words.now - l.at.next in
    (l.k ≤ 5) × (l.scale ≡ 128 ^ l.k) × (l.value ≡ digits 128 f l.k) × (end_of f n ≡ end_from f n (5 - l.k) l.k)
