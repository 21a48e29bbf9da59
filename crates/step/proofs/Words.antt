-- Laws of the stack's words: a double word is two words, the low one first. Assumes nothing.
use Rattle.std.proofs.Common.{◌≡◌, ℕ, ◌+◌, ◌-◌, ◌*◌, ◌^◌, ◌<◌, ◌≤◌, List, length, get_or, take, drop, ap, ◌∙◌, add_assoc, arith, length-drop, get_or-drop, le-leb, Some, None}
use Rattle.std.proofs.lemmas.List.{take_rest}
use borrow.Author.Tests.{lt-leb}
use Rattle.section.specs.Digits.{bytes_at, digits}
use Rattle.section.specs.Word.{word, word_at}
use Rattle.section.proofs.Digits.{digits_split}
use Rattle.section.proofs.Words.{word_here, word_gone}
use Rattle.step.specs.Stack.{double_at}

module _ (st : List ℕ) (o : ℕ) where
  -- eight digits are the four of a word and the four of the next
  double_words : digits 256 (bytes_at st o) 8 ≡ word st o + 2 ^ 32 * word st (o + 4)
  unfolding word
  double_words = digits_split 256 (bytes_at st o) (bytes_at st (o + 4)) 4 4 (λ i. ap (λ (k : ℕ). get_or st k 0) (add_assoc o 4 i))

  double_past : length st < o + 8 → double_at st o ≡ None
  unfolding double_at
  double_past h = rw (lt-leb (o + 8) (length st) h)

  pub double_both : (low high : ℕ) → word_at st o ≡ Some low → word_at st (o + 4) ≡ Some high → double_at st o ≡ Some (low + 2 ^ 32 * high)
  unfolding double_at
  double_both low high p q =
      let a = word_here st o low p in
      let b = word_here st (o + 4) high q in
      let h : o + 8 ≤ length st = omega arith in
      rw (le-leb (o + 8) (length st) h, a.1, b.1) (ap Some double_words)

  pub double_low : word_at st o ≡ None → double_at st o ≡ None
  double_low e = double_past (omega (arith, word_gone st o e))

  pub double_high : word_at st (o + 4) ≡ None → double_at st o ≡ None
  double_high e = double_past (omega (arith, word_gone st (o + 4) e))

  -- ---- the same, with the high word read from what follows the low one
  abbrev above : List ℕ
  above = take (length st - (o + 4)) (drop (o + 4) st)

  above_words : digits 256 (bytes_at st o) 8 ≡ word st o + 2 ^ 32 * word above 0
  unfolding word
  above_words =
      rw (take_rest st (o + 4))
      (digits_split 256 (bytes_at st o) (bytes_at (drop (o + 4) st) 0) 4 4 (λ i. get_or-drop (o + 4) st (0 + i) 0 ∙ ap (λ (k : ℕ). get_or st k 0) (shift i)))
    where
      shift : (i : ℕ) → o + 4 + (0 + i) ≡ o + (4 + i)
      shift i = omega arith

  long : length above ≡ length st - (o + 4)
  long = rw (take_rest st (o + 4)) (length-drop (o + 4) st)

  pub double_split : (low high : ℕ) → word_at st o ≡ Some low → word_at above 0 ≡ Some high → double_at st o ≡ Some (low + 2 ^ 32 * high)
  unfolding double_at
  double_split low high p q =
      let a = word_here st o low p in
      let b = word_here above 0 high q in
      let h : o + 8 ≤ length st = omega (arith, long) in
      rw (le-leb (o + 8) (length st) h, a.1, b.1) (ap Some above_words)

  pub double_end : word_at above 0 ≡ None → double_at st o ≡ None
  double_end e = double_past (omega (arith, word_gone above 0 e, long))
