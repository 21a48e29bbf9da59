-- The floor is one above the function before, and what is left of the entries, tested in turn, is what the contract asks. Assumes nothing.
use Rattle.std.proofs.Common.{◌≡◌, ◌-◌}
use Rattle.audit.specs.Audit.{floor_of, entry_check, first_fault}
use Rattle.image.specs.Image.{seen, count_of}
use Rattle.audit.proofs.entries.Given as goal

abbrev pub invariant-loop-number : goal.invariant-loop-number
invariant-loop-number l =
    let i = seen l.image in
    (l.count ≡ count_of i)
    × (l.floor ≡ floor_of i l.number)
    × (first_fault (entry_check i) (count_of i) 0 ≡ first_fault (entry_check i) (l.count - l.number) l.number)
