-- `lsda::sites::first_covering` is right: as long as the loop goes on, no site passed covers the counter, so the answer is that of the sites from `at` on. Assumes nothing.
use Prim.Native.Nat.{◌-◌}
use mathlib.Core.Path.{◌≡◌}
use lib.ListN.{length}
use Rattle.lsda.specs.Sites.{find_from}
use Rattle.lsda.proofs.sites.first_covering.Given as goal

abbrev pub invariant-loop-site : goal.invariant-loop-site
invariant-loop-site l = find_from l.data l.header l.counter l.header.start.0 ≡ find_from l.data l.header l.counter l.at.0

abbrev pub decreases-loop-site : goal.decreases-loop-site
decreases-loop-site l = length l.data - l.at.0
