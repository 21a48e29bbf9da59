-- A bundle that is read holds both its sections, and they pass; any other is 18 or 1. Assumes nothing.
use Prim.Native.Nat.{ℕ, ◌+◌, ◌*◌, ◌≤◌}
use mathlib.Core.Path.{◌≡◌, refl, sym, ap, ◌∙◌}
use mathlib.Core.Bool.{Bool, true, false}
use mathlib.Core.List.{List}
use native.Mathlib.Omega.{arith}
use lib.ListN.{length}
use lib.Dec.{leb, eqb}
use borrow.Author.Tests.{leb-true}
use denote.Ref.{Bor}
use Rattle.std.proofs.Common.{Ok, Err, Some, None, Option}
use Rattle.std.specs.Option.{ok_or}
use Rattle.std.specs.Result.{result_and}
use Rattle.section.specs.Check.{Check, fine, and_then}
use Rattle.section.specs.Rule.{table_most, index_rule, table_rule}
use Rattle.section.specs.View.{bytes_of, Part, part_from}
use Rattle.section.specs.Word.{word_at}
use Rattle.section.specs.declared.Addr.{Addr}
use Rattle.section.specs.declared.Refusal.{Refusal}
use Rattle.section.proofs.Rules.{section_exact, index_exact, rule_fault, index_fault}
use Rattle.section.proofs.Views.{spot_in}
use Rattle.bundle.specs.Bundle.{BundleRead, most_entries, most_words, tested, laid_of, from_words, from_entries, bundle_of}
use Rattle.bundle.specs.Read.{Placed, BundleGives}
use Rattle.bundle.specs.declared.Bundle.{Bundle}

module _ (len : ℕ) where
  counted_gives : (x : Option ℕ) (go : ℕ → BundleRead) → ((n : ℕ) → BundleGives len (go n)) → BundleGives len (and_then (ok_or x Refusal.Bundle) go)
  counted_gives (Some n) go h = h n
  counted_gives None go h = BundleGives.bundle

  tested_bundle : (t : Bool) (x : BundleRead) → (t ≡ true → BundleGives len x) → BundleGives len (tested t Refusal.Bundle x)
  tested_bundle true x h = h refl
  tested_bundle false x h = BundleGives.bundle

  tested_section : (t : Bool) (x : BundleRead) → (t ≡ true → BundleGives len x) → BundleGives len (tested t Refusal.Section x)
  tested_section true x h = h refl
  tested_section false x h = BundleGives.section

  -- a section rule's only fault is 1
  checked_gives : (x : Check) (y : BundleRead) → ((r : Refusal) → x ≡ Err r → r ≡ Refusal.Section) → (x ≡ fine → BundleGives len y) → BundleGives len (result_and x y)
  checked_gives fine y f h = h refl
  checked_gives (Err r) y f h = rw (f r refl) BundleGives.section

  laid_gives : (a b : Addr) (n m : ℕ) → len ≡ 20 + 8 * n + 4 * m → BundleGives len (laid_of a b n m)
  unfolding laid_of
  laid_gives a b n m e =
      checked_gives (index_rule (8 * n) a) _ (index_fault (8 * n) a) (λ p.
      checked_gives (table_rule (4 * m) b) _ (rule_fault table_most (4 * m) b) (λ q.
      BundleGives.is (record { index = refl; table = refl; whole = sym e; index_section = (index_exact (8 * n) a).0 p; table_section = (section_exact table_most (4 * m) b).0 q })))

module _ (xs : List ℕ) where
  words_gives : (a b : Addr) (n : ℕ) → BundleGives (length xs) (from_words xs a b n)
  unfolding from_words
  words_gives a b n =
      counted_gives (length xs) (word_at xs (16 + 8 * n)) _ (λ m.
      tested_section (length xs) (leb m most_words) _ (λ p.
      tested_bundle (length xs) (leb (20 + 8 * n + 4 * m) (length xs)) _ (λ q.
      tested_bundle (length xs) (leb (length xs) (20 + 8 * n + 4 * m)) _ (λ r.
      let f = leb-true (20 + 8 * n + 4 * m) (length xs) q in
      let g = leb-true (length xs) (20 + 8 * n + 4 * m) r in
      laid_gives (length xs) a b n m (omega arith)))))

  entries_gives : (a b : Addr) → BundleGives (length xs) (from_entries xs a b)
  unfolding from_entries
  entries_gives a b =
      counted_gives (length xs) (word_at xs 12) _ (λ n.
      tested_section (length xs) (leb n most_entries) _ (λ p.
      tested_bundle (length xs) (leb (16 + 8 * n) (length xs)) _ (λ q. words_gives a b n)))

  pub bundle_gives : BundleGives (length xs) (bundle_of xs)
  unfolding bundle_of
  bundle_gives =
      counted_gives (length xs) (word_at xs 0) _ (λ first.
      tested_bundle (length xs) (eqb first 2) _ (λ p.
      tested_bundle (length xs) (leb 12 (length xs)) _ (λ q. entries_gives _ _)))

  pub bundle_placed : (b : Bundle) → bundle_of xs ≡ Ok b → Placed (length xs) b
  bundle_placed b e = go (Ok b) refl (rw e at bundle_gives)
    where
      go : (x : BundleRead) → x ≡ Ok b → BundleGives (length xs) x → Placed (length xs) b
      go x e (BundleGives.is {b = c} p) = let q : c ≡ b = cc in rw q at p
      go x e BundleGives.bundle = let z : ◌≡◌ {A = ℕ} 0 1 = cc in absurd (omega arith)
      go x e BundleGives.section = let z : ◌≡◌ {A = ℕ} 0 1 = cc in absurd (omega arith)

-- a part that lies in the bundle has its bytes
pub part_bytes : (s r : Bor (List ℕ)) (a n : ℕ) → a + n ≤ length s.now → Part s r (part_from (length s.now) a n) → r.now ≡ bytes_of s.now (a, n)
part_bytes s r a n h p = p.bytes ∙ ap (bytes_of s.now) (spot_in (length s.now) a n h)
