-- Exactness, put together as the tests are: what a test passes is what it says. Assumes nothing.
use Rattle.std.proofs.Common.{◌≡◌, ℕ, ◌<◌, ◌≤◌, Bool, true, false, eqb, ltb, leb, ◌↔◌, sym, refl, ◌∙◌, arith, ltb-true, lt-ltb, eq-eqb, eqb-true, le-leb, leb-true, Err}
use Rattle.std.specs.Result.{result_and}
use Rattle.section.specs.Check.{Check, fine, need}
use Rattle.section.specs.declared.Refusal.{Refusal}

-- a fault is no pass
pub no_fault : {X : Type 0} (r : Refusal) → Err r ≡ fine → X
no_fault r e = let z : ◌≡◌ {A = ℕ} 0 1 = cc in absurd (omega arith)

-- what does not pass is not what a test describes
pub fault_not : {P : Type 0} (x : Check) (r : Refusal) → (x ≡ fine) ↔ P → x ≡ Err r → P → ⊥
fault_not x r e f p = no_fault r (sym f ∙ e.1 p)

pub and_fine : (a b : Check) → result_and a b ≡ fine → (a ≡ fine) × (b ≡ fine)
and_fine fine b e = (refl, e)
and_fine (Err r) b e = no_fault r e

pub fine_and : (a b : Check) → a ≡ fine → b ≡ fine → result_and a b ≡ fine
fine_and a b p q = rw p q

need_fine : (t : Bool) (r : Refusal) → need t r ≡ fine → t ≡ true
need_fine true r e = refl
need_fine false r e = no_fault r e

fine_need : (t : Bool) (r : Refusal) → t ≡ true → need t r ≡ fine
fine_need t r e = rw e

pub need_le : (a b : ℕ) (r : Refusal) → (need (leb a b) r ≡ fine) ↔ (a ≤ b)
need_le a b r = (λ e. leb-true a b (need_fine (leb a b) r e), λ h. fine_need (leb a b) r (le-leb a b h))

pub need_lt : (a b : ℕ) (r : Refusal) → (need (ltb a b) r ≡ fine) ↔ (a < b)
need_lt a b r = (λ e. ltb-true a b (need_fine (ltb a b) r e), λ h. fine_need (ltb a b) r (lt-ltb a b h))

pub need_eq : (a b : ℕ) (r : Refusal) → (need (eqb a b) r ≡ fine) ↔ (a ≡ b)
need_eq a b r = (λ e. eqb-true a b (need_fine (eqb a b) r e), λ h. fine_need (eqb a b) r (eq-eqb a b h))

pub and_exact : {P Q : Type 0} (a b : Check) → (a ≡ fine) ↔ P → (b ≡ fine) ↔ Q → (result_and a b ≡ fine) ↔ (P × Q)
and_exact a b p q = (λ e. let h = and_fine a b e in (p.0 h.0, q.0 h.1), λ x. fine_and a b (p.1 x.0) (q.1 x.1))

-- a product that passes, as a record with names
pub named : {X P R : Type 0} → X ↔ P → (P → R) → (R → P) → X ↔ R
named e f g = (λ x. f (e.0 x), λ r. e.1 (g r))
