-- An input that is longer than the largest bundle is refused, and its first bytes decide how: so a reader with room for one byte more than that sees enough. Assumes nothing.
use Prim.Native.Nat.{ℕ, ◌+◌, ◌*◌, ◌≤◌, ◌<◌}
use mathlib.Core.Path.{◌≡◌, refl, sym, ap, ◌∙◌}
use mathlib.Core.List.{List}
use native.Mathlib.Omega.{arith}
use lib.ListN.{length, take}
use lib.Seq.{get_or-take, length-take-le, take_all}
use lib.Dec.{leb, eqb}
use borrow.Author.Tests.{leb-true, leb-false, eqb-true, eqb-false}
use Rattle.std.proofs.Common.{Err, Some}
use Rattle.section.specs.Place.{addr}
use Rattle.section.specs.Word.{word, word_at}
use Rattle.section.specs.declared.Addr.{Addr}
use Rattle.section.specs.declared.Refusal.{Refusal}
use Rattle.section.proofs.Picks.{by_test}
use Rattle.section.proofs.Words.{word_in}
use Rattle.bundle.specs.Bundle.{BundleRead, most_bytes, most_entries, most_words, from_words, from_entries, bundle_of}
use Rattle.bundle.specs.Audit.{audit_bundle_of}
use Rattle.bundle.specs.Read.{BundleGives}
use Rattle.bundle.proofs.Laws.{words_many, words_length, entries_many, entries_on, bundle_first, bundle_on, audit_refused}
use Rattle.bundle.proofs.Placed.{bundle_gives}

word_same : (xs : List ℕ) (k o : ℕ) → o + 4 ≤ k → word (take k xs) o ≡ word xs o
unfolding word
word_same xs k o h = rw (get_or-take k xs (o + 0) 0 (omega arith), get_or-take k xs (o + 1) 0 (omega arith), get_or-take k xs (o + 2) 0 (omega arith), get_or-take k xs (o + 3) 0 (omega arith))

module _ (xs : List ℕ) (k : ℕ) (more : most_bytes < k) (long : k ≤ length xs) where
  there : (o : ℕ) → o + 4 ≤ k → word_at xs o ≡ Some (word xs o)
  there o h = word_in xs o (omega arith)

  first_there : (o : ℕ) → o + 4 ≤ k → word_at (take k xs) o ≡ Some (word xs o)
  first_there o h = let e = length-take-le k xs long in word_in (take k xs) o (omega arith) ∙ ap Some (word_same xs k o h)

  words_same : (a b : Addr) (n : ℕ) → n ≤ most_entries → from_words (take k xs) a b n ≡ from_words xs a b n
  words_same a b n h =
      let e = length-take-le k xs long in
      let m = word xs (16 + 8 * n) in
      let p = there (16 + 8 * n) (omega arith) in
      let q = first_there (16 + 8 * n) (omega arith) in
      by_test (leb m most_words)
      (λ t. let g = leb-true m most_words t in
      words_length (take k xs) a b n m q g (λ d. omega arith) ∙ sym (words_length xs a b n m p g (λ d. omega arith)))
      (λ t. let g = leb-false m most_words t in
      words_many (take k xs) a b n m q g ∙ sym (words_many xs a b n m p g))

  entries_same : (a b : Addr) → from_entries (take k xs) a b ≡ from_entries xs a b
  entries_same a b =
      let n = word xs 12 in
      let p = there 12 (omega arith) in
      let q = first_there 12 (omega arith) in
      by_test (leb n most_entries)
      (λ t. let g = leb-true n most_entries t in
      entries_on (take k xs) a b n q g ∙ words_same a b n g ∙ sym (entries_on xs a b n p g))
      (λ t. let g = leb-false n most_entries t in
      entries_many (take k xs) a b n q g ∙ sym (entries_many xs a b n p g))

  bundle_same : bundle_of (take k xs) ≡ bundle_of xs
  bundle_same =
      let n = word xs 0 in
      let p = there 0 (omega arith) in
      let q = first_there 0 (omega arith) in
      by_test (eqb n 2)
      (λ t. let g = eqb-true n 2 t in
      bundle_on (take k xs) n q g (word xs 4) (word xs 8) (first_there 4 (omega arith)) (first_there 8 (omega arith))
      ∙ entries_same (addr (word xs 4)) (addr (word xs 8))
      ∙ sym (bundle_on xs n p g (word xs 4) (word xs 8) (there 4 (omega arith)) (there 8 (omega arith))))
      (λ t. let g = eqb-false n 2 t in
      bundle_first (take k xs) n q g ∙ sym (bundle_first xs n p g))

  audit_same_long : (fill : ℕ) → audit_bundle_of (take k xs) fill ≡ audit_bundle_of xs fill
  audit_same_long fill = go (bundle_of xs) refl (bundle_gives xs)
    where
      both : (r : Refusal) → bundle_of xs ≡ Err r → audit_bundle_of (take k xs) fill ≡ audit_bundle_of xs fill
      both r e = audit_refused (take k xs) fill r (bundle_same ∙ e) ∙ sym (audit_refused xs fill r e)

      go : (x : BundleRead) → bundle_of xs ≡ x → BundleGives (length xs) x → audit_bundle_of (take k xs) fill ≡ audit_bundle_of xs fill
      go x e (BundleGives.is p) = absurd (omega (arith, p.whole, p.index_section.section.short, p.table_section.short))
      go x e BundleGives.bundle = both Refusal.Bundle e
      go x e BundleGives.section = both Refusal.Section e

-- what k bytes of an input say of it, whatever its fill
pub audit_same : (xs : List ℕ) (k fill : ℕ) → most_bytes < k → audit_bundle_of (take k xs) fill ≡ audit_bundle_of xs fill
audit_same xs k fill more =
    by_test (leb k (length xs))
    (λ t. audit_same_long xs k more (leb-true k (length xs) t) fill)
    (λ t. let g = leb-false k (length xs) t in ap (λ (l : List ℕ). audit_bundle_of l fill) (take_all k xs (omega arith)))
