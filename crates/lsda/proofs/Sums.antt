-- A call site's sums: one law for each way to the answer that a site is. Assumes nothing.
use Prim.Native.Nat.{ℕ, ◌+◌, ◌≤◌, ◌<◌}
use mathlib.Core.Path.{◌≡◌, refl, ◌∙◌}
use native.Mathlib.Omega.{arith}
use lib.Dec.{leb}
use borrow.Author.Tests.{le-leb, lt-leb, leb-true, leb-false, eq-eqb, ne_eqb}
use Rattle.std.proofs.Common.{Ok, Err, Some, None, Option}
use Rattle.std.specs.Result.{result_and}
use Rattle.section.specs.Check.{Check, fine, and_then}
use Rattle.section.specs.Place.{addr}
use Rattle.section.specs.Sum.{plus_of}
use Rattle.section.specs.declared.Addr.{Addr}
use Rattle.section.specs.declared.Refusal.{Refusal}
use Rattle.section.proofs.Picks.{by_test}
use Rattle.section.proofs.Places.{plus_in, plus_over}
use Rattle.lsda.specs.Site.{pad_of, action_of, pad_fits, action_fits, fits_of, call_site, resolved, settled_pad, settled_action, settled_of}
use Rattle.lsda.specs.declared.Site.{Site}
use Rattle.lsda.specs.declared.CallSite.{CallSite}

-- ---- what a sum tells
module _ (a : Addr) (n : ℕ) where
  plus_at : (b : Addr) → plus_of a n ≡ Some b → (a.0 + n ≤ 0xFFFFFFFF) × (addr (a.0 + n) ≡ b)
  plus_at b e =
      by_test (leb (a.0 + n) 0xFFFFFFFF)
      (λ t. let h = plus_in a n (leb-true _ _ t) in (leb-true _ _ t, cc))
      (λ t. let h = plus_over a n (leb-false _ _ t) in let z : ◌≡◌ {A = ℕ} 0 1 = cc in absurd (omega arith))

  plus_not : plus_of a n ≡ None → 0xFFFFFFFF < a.0 + n
  plus_not e =
      by_test (leb (a.0 + n) 0xFFFFFFFF)
      (λ t. let h = plus_in a n (leb-true _ _ t) in let z : ◌≡◌ {A = ℕ} 0 1 = cc in absurd (omega arith))
      (λ t. leb-false _ _ t)

-- ---- the pad
module _ (base : Addr) (p : ℕ) where
  pub pad_none : p ≡ 0 → settled_pad base p ≡ Ok None
  unfolding settled_pad
  pad_none h = rw (eq-eqb _ _ h)

  pub pad_at : (a : Addr) → (p ≡ 0 → ⊥) → plus_of base p ≡ Some a → settled_pad base p ≡ Ok (Some a)
  unfolding settled_pad
  pad_at a h e = let q = plus_at base p a e in rw (ne_eqb _ _ h, le-leb _ _ q.0, q.1)

  pub pad_over : (p ≡ 0 → ⊥) → plus_of base p ≡ None → settled_pad base p ≡ Err Refusal.Sum
  unfolding settled_pad
  pad_over h e = rw (ne_eqb _ _ h, lt-leb _ _ (plus_not base p e))

-- ---- the action
module _ (a : ℕ) where
  pub action_none : a ≡ 0 → settled_action a ≡ Ok None
  unfolding settled_action
  action_none h = rw (eq-eqb _ _ h)

  pub action_record : (a ≡ 0 → ⊥) → a + 1 ≤ 0xFFFFFFFF → settled_action a ≡ Ok (Some (a + 1))
  unfolding settled_action
  action_record h g = rw (ne_eqb _ _ h, le-leb _ _ g)

  pub action_over : (a ≡ 0 → ⊥) → 0xFFFFFFFF < a + 1 → settled_action a ≡ Err Refusal.Sum
  unfolding settled_action
  action_over h g = rw (ne_eqb _ _ h, lt-leb _ _ g)

-- ---- what a site with this pad gives, by its action
module _ (x : Site) (pad : Option Addr) where
  pub landed_none : x.action ≡ 0 → and_then (settled_action x.action) (λ a. Ok (call_site x pad a)) ≡ Ok (call_site x pad None)
  landed_none h = rw (action_none x.action h)

  pub landed_record : (x.action ≡ 0 → ⊥) → x.action + 1 ≤ 0xFFFFFFFF → and_then (settled_action x.action) (λ a. Ok (call_site x pad a)) ≡ Ok (call_site x pad (Some (x.action + 1)))
  landed_record h g = rw (action_record x.action h g)

  pub landed_over : (x.action ≡ 0 → ⊥) → 0xFFFFFFFF < x.action + 1 → and_then (settled_action x.action) (λ a. Ok (call_site x pad a)) ≡ Err Refusal.Sum
  landed_over h g = rw (action_over x.action h g)

-- ---- the answer that a site is
module _ (base : Addr) (x : Site) where
  -- the pad is settled before the action
  pub settled_is : settled_of base x ≡ and_then (settled_pad base x.pad) (λ p. and_then (settled_action x.action) (λ a. Ok (call_site x p a)))
  unfolding settled_of fits_of settled_pad settled_action
  settled_is = go (pad_fits (pad_of base x.pad)) (action_fits (action_of x.action)) (pad_of base x.pad) (action_of x.action)
    where
      go : (k l : Check) (p : Option Addr) (a : Option ℕ) → result_and (result_and k l) (Ok (call_site x p a)) ≡ and_then (result_and k (Ok p)) (λ p. and_then (result_and l (Ok a)) (λ a. Ok (call_site x p a)))
      go (Ok k) (Ok l) p a = refl
      go (Ok k) (Err r) p a = refl
      go (Err r) l p a = refl

  -- so by its pad
  pub settled_none : x.pad ≡ 0 → settled_of base x ≡ and_then (settled_action x.action) (λ a. Ok (call_site x None a))
  settled_none h = settled_is ∙ rw (pad_none base x.pad h)

  pub settled_at : (a : Addr) → (x.pad ≡ 0 → ⊥) → plus_of base x.pad ≡ Some a → settled_of base x ≡ and_then (settled_action x.action) (λ n. Ok (call_site x (Some a) n))
  settled_at a h e = settled_is ∙ rw (pad_at base x.pad a h e)

  pub settled_over : (x.pad ≡ 0 → ⊥) → plus_of base x.pad ≡ None → settled_of base x ≡ Err Refusal.Sum
  settled_over h e = settled_is ∙ rw (pad_over base x.pad h e)

  -- ---- what the answer tells of the test
  on_fine : (k : Check) (y z : CallSite) → result_and k (Ok y) ≡ Ok z → k ≡ fine
  on_fine fine y z e = refl
  on_fine (Err r) y z e = let q : ◌≡◌ {A = ℕ} 0 1 = cc in absurd (omega arith)

  on_fault : (k : Check) (y : CallSite) (r : Refusal) → result_and k (Ok y) ≡ Err r → k ≡ Err r
  on_fault fine y r e = let q : ◌≡◌ {A = ℕ} 0 1 = cc in absurd (omega arith)
  on_fault (Err q) y r e = cc

  pub settled_fits : (y : CallSite) → settled_of base x ≡ Ok y → fits_of base x ≡ fine
  unfolding settled_of
  settled_fits y e = on_fine (fits_of base x) (resolved base x) y e

  pub settled_fault : (r : Refusal) → settled_of base x ≡ Err r → fits_of base x ≡ Err r
  unfolding settled_of
  settled_fault r e = on_fault (fits_of base x) (resolved base x) r e
