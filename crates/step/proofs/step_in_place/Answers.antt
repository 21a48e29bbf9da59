-- The function that the search read leads on to the entry. Assumes nothing.
use Rattle.std.proofs.Common.{◌≡◌, Err, sym, ◌∙◌, rules}
use Rattle.step.proofs.Steps.{step_led}
use Rattle.step.proofs.step_in_place.Goals as goal

pub returns-in_err-found : goal.returns-in_err-found
returns-in_err-found c =
    let e : c.from_residual-in_err-found.result ≡ Err c.in_err-found.field-0.0 = search rules in
    rw e (sym (step_led _ _ _ _ (sym c.in_ok-sections.ensures) (sym c.in_ok-stack_rule.ensures) _ (sym c.in_ok-hit.ensures) (sym c.in_err-found.ensures)))

pub returns : goal.returns
returns c = c.step_by.ensures ∙ sym (step_led _ _ _ _ (sym c.in_ok-sections.ensures) (sym c.in_ok-stack_rule.ensures) _ (sym c.in_ok-hit.ensures) (sym c.in_ok-found.ensures))
