-- Both sections lie in the bundle that was read, so the image that is audited is the bundle's without its fill. Assumes nothing.
use Rattle.std.proofs.Common.{arith, ◌≡◌, ℕ, Err, sym, ◌∙◌, rules}
use Rattle.bundle.specs.declared.BundleFault.{BundleFault}
use Rattle.bundle.proofs.Laws.{fill_exact, audit_refused, audit_filled}
use Rattle.bundle.proofs.Promise.{promised, passed_sound, sound_passed, entry_fault, report_says, report_on}
use Rattle.bundle.proofs.audit_bundle.Goals as goal

pub overflow_sub-b : goal.overflow_sub-b
overflow_sub-b c = let l = ((fill_exact _ _).0 (sym c.in_ok-fill_rule.ensures)).1 in omega arith

pub returns-in_err-b : goal.returns-in_err-b
returns-in_err-b c =
    let r : c.from_residual.result ≡ Err (BundleFault.Bundle c.in_err-b.field-0.0) = search rules in
    let e = r ∙ sym (audit_refused _ _ _ (sym c.in_err-b.ensures)) in
    let t = report_says _ _ _ e in
    record { demand_three = t.demand_three; passes_exactly = t.passes_exactly; entry_fault = t.entry_fault; answer = e }

pub returns-in_err-fill_rule : goal.returns-in_err-fill_rule
returns-in_err-fill_rule c =
    let r : c.from_residual-in_err-fill_rule.result ≡ Err (BundleFault.Bundle c.in_err-fill_rule.field-0.0) = search rules in
    let e = r ∙ sym (audit_filled _ _ _ (sym c.in_ok-b.ensures) _ (sym c.in_err-fill_rule.ensures)) in
    let t = report_says _ _ _ e in
    record { demand_three = t.demand_three; passes_exactly = t.passes_exactly; entry_fault = t.entry_fault; answer = e }

pub returns-in-Ok : goal.returns-in-Ok
returns-in-Ok c =
    let e = report_on _ _ _ _ _ (sym c.in_ok-b.ensures) (sym c.in_ok-fill_rule.ensures) c.part.ensures c.part-2.ensures _ _ c.audit.ensures.answer c.in-Ok.is in
    record { demand_three = λ n p. promised _ _ _ e; passes_exactly = λ n. (λ p. passed_sound _ _ n (e ∙ p), λ s. sym e ∙ sound_passed _ _ n s); entry_fault = λ f p. let z : ◌≡◌ {A = ℕ} 0 1 = cc in absurd (omega arith); answer = sym e }

pub returns-in-Err : goal.returns-in-Err
returns-in-Err c =
    let e = report_on _ _ _ _ _ (sym c.in_ok-b.ensures) (sym c.in_ok-fill_rule.ensures) c.part.ensures c.part-2.ensures _ _ c.audit.ensures.answer c.in-Err.is in
    record { demand_three = λ n p. let z : ◌≡◌ {A = ℕ} 0 1 = cc in absurd (omega arith); passes_exactly = λ n. (λ p. let z : ◌≡◌ {A = ℕ} 0 1 = cc in absurd (omega arith), λ s. let q = sym e ∙ sound_passed _ _ n s in let z : ◌≡◌ {A = ℕ} 0 1 = cc in absurd (omega arith)); entry_fault = λ f p. entry_fault _ _ f (e ∙ p); answer = sym e }
