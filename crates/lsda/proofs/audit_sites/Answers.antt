-- The audit is exact. Assumes nothing.
use Rattle.std.proofs.Common.{sym}
use Rattle.lsda.specs.Sites.{audit_sites_of}
use Rattle.lsda.proofs.Laws.{audit_told}
use Rattle.lsda.proofs.audit_sites.Goals as goal

pub returns-clause-exact : goal.returns-clause-exact
unfolding audit_sites_of
returns-clause-exact c = (audit_told _ _ _ (rw (sym c.in_ok-header.ensures) c.all_fit.ensures)).1
