-- A site that can't be read or does not fit ends the audit, and the next turn is the same audit. Assumes nothing.
use Rattle.std.proofs.Common.{◌≡◌, Ok, Err, sym, ap, ◌∙◌, rules}
use Rattle.section.specs.Walk.{checked}
use Rattle.section.proofs.Walks.{checked_stop, checked_more}
use Rattle.lsda.specs.Site.{fits_of}
use Rattle.lsda.proofs.Sums.{settled_fits, settled_fault}
use Rattle.lsda.proofs.Turns.{sites_refused, sites_more}
use Rattle.lsda.proofs.sites.all_fit.Goals as goal

pub returns-in_err-site : goal.returns-in_err-site
returns-in_err-site c =
    let e : c.from_residual.result ≡ Err c.in_err-site.field-0.0 = search rules in
    e ∙ sym (c.loop-site.invariant ∙ ap (checked (fits_of _)) (sites_refused _ _ _ _ (sym c.in_err-site.ensures)) ∙ checked_stop (fits_of _) _)

pub returns-in-Err : goal.returns-in-Err
returns-in-Err c =
    let more = ap (checked (fits_of _)) (sites_more _ _ _ _ _ (sym c.in_ok-site.ensures ∙ ap Ok c.in-Some.is)) ∙ checked_more (fits_of _) _ _ in
    sym (c.loop-site.invariant ∙ more ∙ rw (settled_fault _ _ _ (sym c.settled.ensures ∙ c.in-Err.is)))

pub loop-site-preserved : goal.loop-site-preserved
loop-site-preserved c =
    let more = ap (checked (fits_of _)) (sites_more _ _ _ _ _ (sym c.in_ok-site.ensures ∙ ap Ok c.in-Some.is)) ∙ checked_more (fits_of _) _ _ in
    c.loop-site.invariant ∙ more ∙ rw (settled_fits _ _ _ (sym c.settled.ensures ∙ c.in-Ok.is))
