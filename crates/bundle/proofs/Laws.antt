-- Laws of reading a bundle: one for each way to an answer. Assumes nothing.
use Prim.Native.Nat.{ℕ, ◌+◌, ◌-◌, ◌*◌, ◌/◌, ◌≤◌, ◌<◌}
use mathlib.Core.Path.{◌≡◌, refl, sym}
use mathlib.Core.Logic.{◌↔◌}
use mathlib.Core.List.{List}
use native.Mathlib.Omega.{arith}
use lib.ListN.{length}
use lib.Dec.{leb}
use borrow.Author.Tests.{le-leb, lt-leb, leb-true, leb-false, eq-eqb, ne_eqb}
use Rattle.std.proofs.Common.{Ok, Err, Some, None, Option}
use Rattle.std.specs.Option.{ok_or}
use Rattle.section.specs.Check.{fine, on_answer}
use Rattle.section.specs.Place.{addr}
use Rattle.section.specs.Word.{word_at}
use Rattle.section.specs.declared.Addr.{Addr}
use Rattle.section.specs.declared.Refusal.{Refusal}
use Rattle.section.proofs.Checks.{need_le, and_exact}
use Rattle.section.proofs.Picks.{by_test}
use Rattle.section.proofs.Words.{word_here, word_out}
use Rattle.bundle.specs.Bundle.{BundleRead, count_at, most_entries, most_words, laid_of, from_words, from_entries, bundle_of}
use Rattle.section.specs.View.{bytes_of}
use Rattle.image.specs.Image.{image}
use Rattle.audit.specs.Audit.{Verdict, audit_of}
use Rattle.bundle.specs.Audit.{fill_rule, image_in, reported_of, refused_bundle, audit_bundle_of}
use Rattle.bundle.specs.declared.Bundle.{Bundle}

-- a count that was read is the word there
pub count_is : (xs : List ℕ) (at m : ℕ) → count_at xs at ≡ Ok m → word_at xs at ≡ Some m
count_is xs at m e = go (word_at xs at) e
  where
    go : (x : Option ℕ) → ok_or x Refusal.Bundle ≡ Ok m → x ≡ Some m
    go (Some n) e = cc
    go None e = let z : ◌≡◌ {A = ℕ} 0 1 = cc in absurd (omega arith)

module _ (xs : List ℕ) (a b : Addr) (n : ℕ) where
  pub words_short : word_at xs (16 + 8 * n) ≡ None → from_words xs a b n ≡ Err Refusal.Bundle
  unfolding from_words
  words_short e = rw e

  module _ (m : ℕ) (e : word_at xs (16 + 8 * n) ≡ Some m) where
    pub words_many : most_words < m → from_words xs a b n ≡ Err Refusal.Section
    unfolding from_words
    words_many h = rw (e, lt-leb m most_words h)

    -- the bytes end early, or some are left over
    pub words_length : m ≤ most_words → (length xs ≡ 20 + 8 * n + 4 * m → ⊥) → from_words xs a b n ≡ Err Refusal.Bundle
    unfolding from_words
    words_length h d =
        by_test (leb (20 + 8 * n + 4 * m) (length xs))
        (λ t. let g = leb-true (20 + 8 * n + 4 * m) (length xs) t in
        let l : 20 + 8 * n + 4 * m < length xs = omega (arith, d) in
        rw (e, le-leb m most_words h, t, lt-leb (length xs) (20 + 8 * n + 4 * m) l))
        (λ t. rw (e, le-leb m most_words h, t))

    pub words_laid : m ≤ most_words → length xs ≡ 20 + 8 * n + 4 * m → from_words xs a b n ≡ laid_of a b n m
    unfolding from_words
    words_laid h d =
        let l : length xs ≤ 20 + 8 * n + 4 * m = omega arith in
        let g : 20 + 8 * n + 4 * m ≤ length xs = omega arith in
        rw (e, le-leb m most_words h, le-leb (20 + 8 * n + 4 * m) (length xs) g, le-leb (length xs) (20 + 8 * n + 4 * m) l)

module _ (xs : List ℕ) (a b : Addr) where
  pub entries_short : word_at xs 12 ≡ None → from_entries xs a b ≡ Err Refusal.Bundle
  unfolding from_entries
  entries_short e = rw e

  module _ (n : ℕ) (e : word_at xs 12 ≡ Some n) where
    pub entries_many : most_entries < n → from_entries xs a b ≡ Err Refusal.Section
    unfolding from_entries
    entries_many h = rw (e, lt-leb n most_entries h)

    -- where the entries end early there is no word count either
    pub entries_on : n ≤ most_entries → from_entries xs a b ≡ from_words xs a b n
    unfolding from_entries
    entries_on h =
        by_test (leb (16 + 8 * n) (length xs))
        (λ t. rw (e, le-leb n most_entries h, t))
        (λ t. let g = leb-false (16 + 8 * n) (length xs) t in
        rw (e, le-leb n most_entries h, t) (sym (words_short xs a b n (word_out xs (16 + 8 * n) (omega arith)))))

module _ (xs : List ℕ) where
  pub bundle_short : word_at xs 0 ≡ None → bundle_of xs ≡ Err Refusal.Bundle
  unfolding bundle_of
  bundle_short e = rw e

  module _ (first : ℕ) (e : word_at xs 0 ≡ Some first) where
    pub bundle_first : (first ≡ 2 → ⊥) → bundle_of xs ≡ Err Refusal.Bundle
    unfolding bundle_of
    bundle_first d = rw (e, ne_eqb first 2 d)

    pub bundle_early : first ≡ 2 → length xs < 12 → bundle_of xs ≡ Err Refusal.Bundle
    unfolding bundle_of
    bundle_early d h = rw (e, eq-eqb first 2 d, lt-leb 12 (length xs) h)

    -- both addresses are there
    pub bundle_on : first ≡ 2 → (i t : ℕ) → word_at xs 4 ≡ Some i → word_at xs 8 ≡ Some t → bundle_of xs ≡ from_entries xs (addr i) (addr t)
    unfolding bundle_of
    bundle_on d i t f g =
        let h = word_here xs 8 t g in
        rw (e, eq-eqb first 2 d, le-leb 12 (length xs) h.0, ← (word_here xs 4 i f).1, ← h.1)

-- ---- the audit of a bundle
pub fill_exact : (fill len : ℕ) → (fill_rule fill len ≡ fine) ↔ ((fill ≤ 3) × (fill ≤ len))
unfolding fill_rule
fill_exact fill len = and_exact _ _ (need_le fill 3 Refusal.Bundle) (need_le fill len Refusal.Bundle)

-- what it refuses
pub fill_many : (fill len : ℕ) → 3 < fill → fill_rule fill len ≡ Err Refusal.Bundle
unfolding fill_rule
fill_many fill len h = rw (lt-leb fill 3 h)

pub fill_over : (fill len : ℕ) → fill ≤ 3 → len < fill → fill_rule fill len ≡ Err Refusal.Bundle
unfolding fill_rule
fill_over fill len h g = rw (le-leb fill 3 h, lt-leb fill len g)

module _ (xs : List ℕ) (fill : ℕ) where
  pub audit_refused : (r : Refusal) → bundle_of xs ≡ Err r → audit_bundle_of xs fill ≡ refused_bundle r
  unfolding audit_bundle_of
  audit_refused r e = rw e

  module _ (b : Bundle) (e : bundle_of xs ≡ Ok b) where
    pub audit_filled : (r : Refusal) → fill_rule fill b.table_bytes ≡ Err r → audit_bundle_of xs fill ≡ refused_bundle r
    unfolding audit_bundle_of
    audit_filled r f = rw (e, f)

    -- the sections, v is the verdict on them
    pub audit_read : fill_rule fill b.table_bytes ≡ fine → (is ts : List ℕ) → is ≡ bytes_of xs (b.index.0, b.index_bytes) → ts ≡ bytes_of xs (b.table.0, b.table_bytes - fill)
        → (v : Verdict) → v ≡ audit_of (image is b.index_address ts b.table_address) → audit_bundle_of xs fill ≡ reported_of (b.index_bytes / 8) v
    unfolding audit_bundle_of
    audit_read f is ts p q v h = rw (e, f, h, p, q)

-- without a fill it is the paper's: the whole table
pub audit_unfilled : (xs : List ℕ)
    → audit_bundle_of xs 0 ≡ on_answer (bundle_of xs) (λ b. reported_of (b.index_bytes / 8) (audit_of (image (bytes_of xs (b.index.0, b.index_bytes)) b.index_address (bytes_of xs (b.table.0, b.table_bytes)) b.table_address))) refused_bundle
unfolding audit_bundle_of
audit_unfilled xs = go (bundle_of xs)
  where
    go : (x : BundleRead) → on_answer x (λ b. on_answer (fill_rule 0 b.table_bytes) (λ _. reported_of (b.index_bytes / 8) (audit_of (image_in xs 0 b))) refused_bundle) refused_bundle
        ≡ on_answer x (λ b. reported_of (b.index_bytes / 8) (audit_of (image (bytes_of xs (b.index.0, b.index_bytes)) b.index_address (bytes_of xs (b.table.0, b.table_bytes)) b.table_address))) refused_bundle
    go (Ok b) =
        let z : b.table_bytes - 0 ≡ b.table_bytes = omega arith in
        rw ((fill_exact 0 b.table_bytes).1 (omega arith, omega arith), z) refl
    go (Err r) = refl
