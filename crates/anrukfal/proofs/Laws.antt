-- What was told of an answer is told of its equal; what an audit's number says of the image; and that a step for C leaves one answer. Assumes nothing.
use Rattle.std.proofs.Common.{◌≡◌, ℕ, List, ◌↔◌, refl, sym, ap, subst, ◌∙◌, Err}
use Rattle.section.specs.Answer.{Told}
use Rattle.section.specs.Check.{Answered}
use Rattle.section.proofs.Answers.{told_one, number_some}
use Rattle.pointer.specs.Answers.{read_answer}
use Rattle.pointer.specs.Number.{Read}
use Rattle.image.specs.Image.{Image}
use Rattle.audit.specs.Answers.{verdict_answer}
use Rattle.audit.specs.Audit.{Verdict, passed, audit_of}
use Rattle.audit.specs.Promise.{Promise}
use Rattle.audit.specs.Sound.{Sound}
use Rattle.audit.proofs.Exact.{audit_exact}
use Rattle.audit.proofs.Promise.{demand_three}
use Rattle.step.specs.Answers.{step_answer, arrival_answer}
use Rattle.step.specs.declared.Arrival.{Arrival}
use Rattle.step.specs.declared.Stepped.{Stepped}
use Rattle.anrukfal.specs.Step.{StepTold}

-- of a pointer
pub read_told : {x y : Read} {returned : ℕ} {row : List ℕ} → x ≡ y → Told (read_answer x) returned row → Told (read_answer y) returned row
read_told {returned = returned} {row = row} e t = subst (λ (z : Read). Told (read_answer z) returned row) e t

-- of a step, by where it leads, with the count
pub step_told : (x y : Stepped) → y ≡ x → (a : Answered Arrival) → y.arrival ≡ a → (returned : ℕ) (row : List ℕ) → Told (arrival_answer a) returned row
    → StepTold x returned y.registers.core y.registers.vfp row
step_told x y e a h returned row t =
    subst (λ (z : Stepped). StepTold z returned y.registers.core y.registers.vfp row) e
    (record { answer = subst (λ (b : Answered Arrival). Told (arrival_answer b) returned row) (sym h) t; core_is = refl; vfp_is = refl })

-- of an audit: its number is 0 exactly for the images that pass
passes : (v : Verdict) → (verdict_answer v).number ≡ 0 → v ≡ passed
passes passed e = refl
passes (Err f) e = absurd (number_some f.refusal e)

pub audit_told : (i : Image) (v : Verdict) → audit_of i ≡ v → (n : ℕ) (row : List ℕ) → Told (verdict_answer v) n row
    → (n ≡ 0 → Promise i) × (((n ≡ 0) ↔ Sound i) × Told (verdict_answer (audit_of i)) n row)
audit_told i v e n row t =
    (λ z. demand_three i (pass z), ((λ z. (audit_exact i).0 (pass z), λ s. t.number ∙ ap (λ (x : Verdict). (verdict_answer x).number) (sym e ∙ (audit_exact i).1 s)), rw e t))
  where
    pass : n ≡ 0 → audit_of i ≡ passed
    pass z = e ∙ passes v (sym t.number ∙ z)

-- the number, the row and all registers
pub step_told_one : (x : Stepped) (n m : ℕ) (core vfp row core' vfp' row' : List ℕ) → StepTold x n core vfp row → StepTold x m core' vfp' row'
    → ((n ≡ m) × (row ≡ row')) × ((core ≡ core') × (vfp ≡ vfp'))
step_told_one x n m core vfp row core' vfp' row' p q =
    (told_one (step_answer x) n m row row' p.answer q.answer, (p.core_is ∙ sym q.core_is, p.vfp_is ∙ sym q.vfp_is))
