-- `lsda::sites::all_fit` is right: as long as the loop goes on, every site passed fits, so the first fault is that of the sites from `at` on. Assumes nothing.
use Prim.Native.Nat.{◌-◌}
use mathlib.Core.Path.{◌≡◌}
use lib.ListN.{length}
use Rattle.lsda.specs.Sites.{audit_from}
use Rattle.lsda.proofs.sites.all_fit.Given as goal

abbrev pub invariant-loop-site : goal.invariant-loop-site
invariant-loop-site l = audit_from l.data l.header l.header.start.0 ≡ audit_from l.data l.header l.at.0

abbrev pub decreases-loop-site : goal.decreases-loop-site
decreases-loop-site l = length l.data - l.at.0
