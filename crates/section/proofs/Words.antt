-- Laws of little-endian words: what a crate above cites, so that it never unfolds `word_at`. Assumes nothing.
use Rattle.std.proofs.Common.{unwrap_or, ap, ◌≡◌, ℕ, ◌+◌, ◌-◌, ◌<◌, ◌≤◌, leb, List, length, get_or, take, drop, sym, refl, ◌∙◌, add-zero, arith, length-drop, length-take-le, get_or-drop, get_or-take, w8, Fits, le-leb, leb-false, leb-true, Some, None}
use borrow.Author.Tests.{lt-leb}
use Rattle.section.specs.Word.{le32, word, word_at, word_or_zero}
use Rattle.section.proofs.Picks.{by_test}

module _ (xs : List ℕ) (o : ℕ) where
  pub word_in : o + 4 ≤ length xs → word_at xs o ≡ Some (word xs o)
  unfolding word_at
  word_in h = simp (le-leb _ _ h)

  pub word_out : length xs < o + 4 → word_at xs o ≡ None
  unfolding word_at
  word_out h = simp (lt-leb _ _ h)

  pub word_there : o + 4 ≤ length xs → word_or_zero xs o ≡ word xs o
  unfolding word_or_zero
  word_there h = simp (le-leb _ _ h)

  word_zero : length xs < o + 4 → word_or_zero xs o ≡ 0
  unfolding word_or_zero
  word_zero h = simp (lt-leb _ _ h)

  -- a word that was read was there
  pub word_here : (w : ℕ) → word_at xs o ≡ Some w → (o + 4 ≤ length xs) × (w ≡ word xs o)
  word_here w e =
      by_test (leb (o + 4) (length xs))
      (λ t. let h = word_in (leb-true _ _ t) in (leb-true _ _ t, cc))
      (λ f. let h = word_out (leb-false _ _ f) in let z : ◌≡◌ {A = ℕ} 0 1 = cc in absurd (omega arith))

  -- and one that was not there ran past the end
  pub word_gone : word_at xs o ≡ None → length xs < o + 4
  word_gone e =
      by_test (leb (o + 4) (length xs))
      (λ t. let h = word_in (leb-true _ _ t) in let z : ◌≡◌ {A = ℕ} 0 1 = cc in absurd (omega arith))
      (λ f. leb-false _ _ f)

  -- and 0 stands for one that was not there
  pub word_or : word_or_zero xs o ≡ unwrap_or (word_at xs o) 0
  word_or =
      by_test (leb (o + 4) (length xs))
      (λ t. word_there (leb-true _ _ t) ∙ ap (λ x. unwrap_or x 0) (sym (word_in (leb-true _ _ t))))
      (λ f. word_zero (leb-false _ _ f) ∙ ap (λ x. unwrap_or x 0) (sym (word_out (leb-false _ _ f))))

  -- by what was read
  pub word_or_at : (w : ℕ) → word_at xs o ≡ Some w → word_or_zero xs o ≡ w
  word_or_at w e = word_or ∙ ap (λ x. unwrap_or x 0) e

  pub word_or_short : word_at xs o ≡ None → word_or_zero xs o ≡ 0
  word_or_short e = word_or ∙ ap (λ x. unwrap_or x 0) e

  first_of : (n : ℕ) → o + n ≤ length xs → 4 ≤ n → word_or_zero (take n (drop o xs)) 0 ≡ word xs o
  unfolding word_or_zero word
  first_of n h g =
      let k : n ≤ length xs - o = omega arith in
      let e : length (take n (drop o xs)) ≡ n = length-take-le n (drop o xs) (rw (length-drop o xs) k) in
      rw (le-leb 4 (length (take n (drop o xs))) (omega arith))
      (rw (get_or-take n (drop o xs) 0 0 (omega arith), get_or-take n (drop o xs) 1 0 (omega arith), get_or-take n (drop o xs) 2 0 (omega arith), get_or-take n (drop o xs) 3 0 (omega arith))
      (rw (get_or-drop o xs 0 0, get_or-drop o xs 1 0, get_or-drop o xs 2 0, get_or-drop o xs 3 0) refl))

  -- of the part of n bytes from o on: its first word is the whole's, there
  pub word_first : (n : ℕ) → o + n ≤ length xs → 4 ≤ n → word_or_zero (take (o + n - o) (drop o xs)) 0 ≡ word xs o
  word_first n h g = let e : o + n - o ≡ n = omega arith in rw e (first_of n h g)

  -- the four bytes there, each below 256, are the word's digits
  pub word_bytes : ((i : ℕ) → Fits w8 (get_or xs i 0)) → le32 (get_or xs o 0) (get_or xs (o + 1) 0) (get_or xs (o + 2) 0) (get_or xs (o + 3) 0) ≡ word xs o
  unfolding word
  word_bytes k = rw (add-zero o) (omega (arith, k o, k (o + 1), k (o + 2), k (o + 3)))
