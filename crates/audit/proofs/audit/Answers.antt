-- Each clause is shown by itself: an image that passes keeps the promise and is sound, one with a fault is not. Assumes nothing.
use Rattle.std.proofs.Common.{refl, sym, ◌∙◌}
use Rattle.image.proofs.Laws.{sections_exact}
use Rattle.audit.proofs.Exact.{audit_exact, no_pass}
use Rattle.audit.proofs.Promise.{demand_three}
use Rattle.audit.proofs.Turns.{audit_sections, audit_entries}
use Rattle.audit.proofs.audit.Goals as goal

pub entries-requires : goal.entries-requires
entries-requires c = ((sections_exact _).0 (sym c.sections.ensures ∙ c.in-Ok.is)).index.section.short

pub returns-in-None : goal.returns-in-None
returns-in-None c =
    let e = audit_entries _ (sym c.sections.ensures ∙ c.in-Ok.is) _ c.entries.ensures c.in-None.is in
    record { demand_three = λ _. demand_three _ e; passes_exactly = (λ _. (audit_exact _).0 e, λ _. refl); answer = sym e }

pub returns-in-Some : goal.returns-in-Some
returns-in-Some c =
    let e = audit_entries _ (sym c.sections.ensures ∙ c.in-Ok.is) _ c.entries.ensures c.in-Some.is in
    record { demand_three = λ p. no_pass _ p; passes_exactly = (λ p. no_pass _ p, λ s. no_pass _ (sym e ∙ (audit_exact _).1 s)); answer = sym e }

pub returns-in-Err : goal.returns-in-Err
returns-in-Err c =
    let e = audit_sections _ _ (sym c.sections.ensures ∙ c.in-Err.is) in
    record { demand_three = λ p. no_pass _ p; passes_exactly = (λ p. no_pass _ p, λ s. no_pass _ (sym e ∙ (audit_exact _).1 s)); answer = sym e }
