-- How `end_from` goes on at the byte k, with 5 - k bytes left to look at: a law for each way out of a loop's turn, and one for the next turn.
-- Assumes nothing.
use Rattle.std.proofs.Common.{◌≡◌, ℕ, zero, suc, ◌+◌, ◌-◌, ◌<◌, ◌≤◌, ltb, refl, arith, ltb-true, le-ltb, lt-ltb}
use Rattle.section.specs.Digits.{End, after, early, long, end_from, end_of}
use Rattle.section.specs.Pick.{pick}
use Rattle.section.proofs.Picks.{pick_each}

module _ (f : ℕ → ℕ) (n : ℕ) where
  pub at_first : end_of f n ≡ end_from f n 5 0
  unfolding end_of
  at_first = refl

  left : (k : ℕ) → k < 5 → 5 - k ≡ suc (5 - (k + 1))
  left k h = omega arith

  pub at_long : (k : ℕ) → 5 ≤ k → end_from f n (5 - k) k ≡ long
  unfolding end_from
  at_long k h =
      let e : 5 - k ≡ 0 = omega arith in
      rw e

  pub at_early : (k : ℕ) → k < 5 → n ≤ k → end_from f n (5 - k) k ≡ early
  unfolding end_from
  at_early k h i = rw (left k h) (simp (le-ltb _ _ i))

  pub at_last : (k : ℕ) → k < 5 → k < n → f k < 128 → end_from f n (5 - k) k ≡ after (k + 1)
  unfolding end_from
  at_last k h i b = rw (left k h) (simp (lt-ltb _ _ i, lt-ltb _ _ b))

  pub at_more : (k : ℕ) → k < 5 → k < n → 128 ≤ f k → end_from f n (5 - k) k ≡ end_from f n (5 - (k + 1)) (k + 1)
  unfolding end_from
  at_more k h i b = rw (left k h) (simp (lt-ltb _ _ i, le-ltb _ _ b))

  -- what holds of each way that a LEB can end holds of the way that it ends; it ends after a byte that is there
  from_each : (P : End → Type 0) → ((k : ℕ) → k < n → P (after (k + 1))) → P early → P long → (m k : ℕ) → P (end_from f n m k)
  unfolding end_from
  from_each P a e l zero k = l
  from_each P a e l (suc m) k =
      let t = end_from f n m (k + 1) in
      let b = ltb (f k) 0x80 in
      pick_each P (ltb k n) (pick b (after (k + 1)) t) early
      (λ h. pick_each P b (after (k + 1)) t (λ _. a k (ltb-true k n h)) (λ _. from_each P a e l m (k + 1)))
      (λ _. e)

  pub end_each : (P : End → Type 0) → ((k : ℕ) → k < n → P (after (k + 1))) → P early → P long → P (end_of f n)
  unfolding end_of
  end_each P a e l = from_each P a e l 5 0
