-- Where a site can't be read, nor can the trail go on. Assumes nothing.
use Rattle.std.proofs.Common.{◌≡◌, Err, sym, ap, ◌∙◌, rules}
use Rattle.lsda.specs.Sites.{find_in}
use Rattle.lsda.proofs.Turns.{sites_refused, find_stop}
use Rattle.lsda.proofs.sites.first_covering.Goals as goal

pub returns-in_err-site : goal.returns-in_err-site
returns-in_err-site c =
    let e : c.from_residual.result ≡ Err c.in_err-site.field-0.0 = search rules in
    let g : c.site_at.result ≡ Err c.in_err-site.field-0.0 = search rules in
    e ∙ sym (c.loop-site.invariant ∙ ap (find_in _ _) (sites_refused _ _ _ _ (sym c.site_at.ensures ∙ g)) ∙ find_stop _ _ _)
