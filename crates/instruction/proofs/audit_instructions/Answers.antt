-- A fault ends the audit, and the next turn is the same audit. Assumes nothing.
use Rattle.std.proofs.Common.{◌≡◌, sym, ap, ◌∙◌, rules, Ok, Err}
use Rattle.instruction.proofs.Program.{audit_told, audit_refused, audit_fault, audit_next}
use Rattle.instruction.proofs.audit_instructions.Goals as goal

pub returns-in_err-i : goal.returns-in_err-i
returns-in_err-i c =
    let e : c.from_residual.result ≡ Err c.in_err-i.field-0.0 = search rules in
    let t = audit_told _ _ _ (e ∙ sym (audit_refused _ _ _ (sym c.in_err-i.ensures)) ∙ c.loop-i.invariant) in
    record { answer = t.0; exact = t.1 }

pub returns-in_err-fault : goal.returns-in_err-fault
returns-in_err-fault c =
    let e : c.from_residual-in_err-fault.result ≡ Err c.in_err-fault.field-0.0 = search rules in
    let t = audit_told _ _ _ (e ∙ sym (audit_fault _ _ _ _ (sym c.in_ok-i.ensures ∙ ap Ok c.in-Some.is) _ (sym c.in_err-fault.ensures)) ∙ c.loop-i.invariant) in
    record { answer = t.0; exact = t.1 }

pub loop-i-preserved : goal.loop-i-preserved
loop-i-preserved c = sym (audit_next _ _ _ _ (sym c.in_ok-i.ensures ∙ ap Ok c.in-Some.is) (sym c.if-ends.ensures) (sym c.in_ok-fault.ensures)) ∙ c.loop-i.invariant
