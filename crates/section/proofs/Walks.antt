-- Laws of walks, proved once. The fuel stays in here. Assumes nothing.
use Rattle.std.proofs.Common.{◌≡◌, ℕ, zero, suc, ◌+◌, ◌<◌, ◌↔◌, refl, ap, arith, Err}
use Rattle.std.specs.Result.{result_and}
use Rattle.section.specs.Check.{Check, fine}
use Rattle.section.proofs.Checks.{and_fine, fine_and, no_fault}
use Rattle.section.specs.Walk.{Look, Trail, go_on, trail_from, trail_of, checked, Reached, Sound, Clean, Upward}
use Rattle.section.specs.declared.Refusal.{Refusal}

-- a position for each place below the limit, and one for the end
abbrev Enough : ℕ → ℕ → ℕ → Type 0
Enough limit at k = (0 < k) × (limit < at + k)

module _ {A : Type 0} (look : ℕ → Look ℕ A) (limit : ℕ) (up : Upward look limit) where
  -- any two amounts of fuel that are enough give the same trail
  same_trail : (k l at : ℕ) → Enough limit at k → Enough limit at l → trail_from Trail.end k look at ≡ trail_from Trail.end l look at
  unfolding trail_from
  same_trail zero l at p q = absurd (omega arith)
  same_trail (suc k) zero at p q = absurd (omega arith)
  same_trail (suc k) (suc l) at p q = go (look at) (λ m a e. let u = up at m a e in same_trail k l m (omega arith, omega arith) (omega arith, omega arith))
    where
      go : (x : Look ℕ A) → ((m : ℕ) (a : A) → x ≡ Look.item a m → trail_from Trail.end k look m ≡ trail_from Trail.end l look m) → go_on x (λ m. trail_from Trail.end k look m) ≡ go_on x (λ m. trail_from Trail.end l look m)
      go Look.done h = refl
      go (Look.bad r) h = refl
      go (Look.last a) h = refl
      go (Look.item a m) h = ap (Trail.more a) (h m a refl)

  -- a turn of a walk, by what stands there
  pub trail_item : (at : ℕ) (a : A) (m : ℕ) → look at ≡ Look.item a m → trail_of look limit at ≡ Trail.more a (trail_of look limit m)
  unfolding trail_of trail_from
  trail_item at a m e = let u = up at m a e in rw e (ap (Trail.more a) (same_trail limit (suc limit) m (omega arith, omega arith) (omega arith, omega arith)))

module _ {A : Type 0} (look : ℕ → Look ℕ A) (limit at : ℕ) where
  pub trail_done : look at ≡ Look.done → trail_of look limit at ≡ Trail.end
  unfolding trail_of trail_from
  trail_done e = rw e

  pub trail_bad : (r : Refusal) → look at ≡ Look.bad r → trail_of look limit at ≡ Trail.stop r
  unfolding trail_of trail_from
  trail_bad r e = rw e

  pub trail_last : (a : A) → look at ≡ Look.last a → trail_of look limit at ≡ Trail.more a Trail.end
  unfolding trail_of trail_from
  trail_last a e = rw e

-- the test of a whole trail, a turn at a time
module _ {A : Type 0} (f : A → Check) where
  pub checked_end : checked f Trail.end ≡ fine
  unfolding checked
  checked_end = refl

  pub checked_stop : (r : Refusal) → checked f (Trail.stop r) ≡ Err r
  unfolding checked
  checked_stop r = refl

  pub checked_more : (a : A) (t : Trail A) → checked f (Trail.more a t) ≡ result_and (f a) (checked f t)
  unfolding checked
  checked_more a t = refl

  pub more_fine : (a : A) (t : Trail A) → checked f (Trail.more a t) ≡ fine → (f a ≡ fine) × (checked f t ≡ fine)
  unfolding checked
  more_fine a t e = and_fine (f a) (checked f t) e

module _ {A : Type 0} (P : A → Type 0) (f : A → Check) (same : (a : A) → (f a ≡ fine) ↔ P a) (look : ℕ → Look ℕ A) where
  clean_passes : (k at : ℕ) → Clean P look at → checked f (trail_from Trail.end k look at) ≡ fine
  unfolding trail_from checked
  clean_passes zero at c = refl
  clean_passes (suc k) at c = go (look at) refl (c at Reached.here) (λ m. clean_passes k m)
    where
      go : (x : Look ℕ A) → look at ≡ x → Sound P x → ((m : ℕ) → Clean P look m → checked f (trail_from Trail.end k look m) ≡ fine) → checked f (go_on x (λ m. trail_from Trail.end k look m)) ≡ fine
      go Look.done e s h = refl
      go (Look.last a) e (Sound.at_last p) h = fine_and (f a) fine ((same a).1 p) refl
      go (Look.item a m) e (Sound.at_item p) h = fine_and (f a) _ ((same a).1 p) (h m (λ q r. c q (Reached.onward e r)))
      go (Look.bad r) e s h = elim s [ ]

  passes_clean : (limit : ℕ) → Upward look limit → (k at : ℕ) → Enough limit at k → checked f (trail_from Trail.end k look at) ≡ fine → Clean P look at
  unfolding trail_from checked
  passes_clean limit up k at en h q r = go r k en h
    where
      sound : (x : Look ℕ A) (g : ℕ → Trail A) → checked f (go_on x g) ≡ fine → Sound P x
      sound Look.done g h = Sound.at_end
      sound (Look.bad r) g h = no_fault r h
      sound (Look.last a) g h = Sound.at_last ((same a).0 (and_fine (f a) fine h).0)
      sound (Look.item a m) g h = Sound.at_item ((same a).0 (and_fine (f a) (checked f (g m)) h).0)

      go : {p q : ℕ} → Reached look p q → (k : ℕ) → Enough limit p k → checked f (trail_from Trail.end k look p) ≡ fine → Sound P (look q)
      go {p} Reached.here zero en h = absurd (omega arith)
      go {p} Reached.here (suc k) en h = sound (look p) (λ m. trail_from Trail.end k look m) h
      go (Reached.onward e r) zero en h = absurd (omega arith)
      go (Reached.onward {p = p} {m = m} {q = q} {a = a} e r) (suc k) en h =
          let u = up p m a e in
          go r k (omega arith, omega arith) (and_fine (f a) (checked f (trail_from Trail.end k look m)) (rw e at h)).1

  -- a walk passes a test exactly if it is clean
  pub walk_exact : (limit : ℕ) → Upward look limit → (at : ℕ) → (checked f (trail_of look limit at) ≡ fine) ↔ Clean P look at
  unfolding trail_of
  walk_exact limit up at = (passes_clean limit up (suc limit) at (omega arith, omega arith), clean_passes (suc limit) at)
