-- One law for each way to an answer of the definitions: of the words of an index entry, and of those of a table entry. Assumes nothing.
use Rattle.std.proofs.Common.{◌≡◌, ℕ, ◌+◌, ◌*◌, ◌/◌, ◌%◌, ◌^◌, ◌≤◌, ◌<◌, List, length, arith, le-leb, lt-ltb, le-ltb, eq-eqb, ne_eqb, Some, None, Ok, Err}
use borrow.Author.Tests.{lt-leb}
use Rattle.section.specs.Check.{Answered}
use Rattle.section.specs.Word.{word, word_at}
use Rattle.section.specs.Place.{off, address_of}
use Rattle.section.specs.Prel31.{prel31_of}
use Rattle.section.specs.declared.Addr.{Addr}
use Rattle.section.specs.declared.Off.{Off}
use Rattle.section.specs.declared.Refusal.{Refusal}
use Rattle.entry.specs.Index.{function_of, function_in, content_of}
use Rattle.entry.specs.Table.{entry_of, fitting, selector_of, compact_of, generic_of, entry_by}
use Rattle.entry.specs.declared.Personality.{Personality}
use Rattle.entry.specs.declared.Held.{Held}
use Rattle.entry.specs.declared.Content.{Content}
use Rattle.entry.specs.declared.TableEntry.{TableEntry}

-- ---- the function word
module _ (xs : List ℕ) (a : Addr) (k : ℕ) where
  pub function_sound : word xs (8 * k) < 2 ^ 31 → function_in xs a k ≡ Ok (function_of xs a k)
  unfolding function_in
  function_sound h = simp (lt-ltb _ _ h)

  pub function_corrupt : 2 ^ 31 ≤ word xs (8 * k) → function_in xs a k ≡ Err Refusal.Corrupt
  unfolding function_in
  function_corrupt h = simp (le-ltb _ _ h)

  pub function_made : (w : ℕ) → w ≡ word xs (8 * k) → (p f : Addr) → p ≡ address_of a (off (8 * k)) → f ≡ prel31_of w p → f ≡ function_of xs a k
  unfolding function_of
  function_made w e p f q r = cc

-- ---- the content word
module _ (w : ℕ) (a : Addr) (o : Off) where
  pub content_one : w ≡ 0x00000001 → content_of w a o ≡ Content.CannotUnwind
  unfolding content_of
  content_one e = simp (eq-eqb w 1 e)

  pub content_table : (w ≡ 0x00000001 → ⊥) → w < 2 ^ 31 → (p t : Addr) → p ≡ address_of a o → t ≡ prel31_of w p → Content.Table t ≡ content_of w a o
  unfolding content_of
  content_table n h p t e f = simp (ne_eqb w 1 n, lt-ltb _ _ h) (cc)

  pub content_compact : 2 ^ 31 ≤ w → content_of w a o ≡ Content.Compact (Personality.Compact (w / 2 ^ 24 % 16)) (record { held = Held.Index; at = o; words = 1; skip = 1 })
  unfolding content_of
  content_compact h = simp (ne_eqb w 1 (λ e. omega arith), le-ltb _ _ h)

-- ---- the words of a table entry
module _ (len : ℕ) (p : Personality) (o n skip : ℕ) where
  pub fitting_in : o + 4 * n ≤ len → fitting len p o n skip ≡ Ok (entry_of p o n skip)
  unfolding fitting
  fitting_in h = simp (le-leb _ _ h)

  pub fitting_out : len < o + 4 * n → fitting len p o n skip ≡ Err Refusal.Truncated
  unfolding fitting
  fitting_out h = simp (lt-leb _ _ h)

module _ (len o w : ℕ) where
  pub compact_zero : selector_of w ≡ 0 → compact_of len o w ≡ fitting len (Personality.Compact (selector_of w)) o 1 1
  unfolding compact_of
  compact_zero e = simp (eq-eqb _ _ e)

  pub compact_counted : (selector_of w ≡ 0 → ⊥) → selector_of w < 3 → compact_of len o w ≡ fitting len (Personality.Compact (selector_of w)) o (1 + w / 2 ^ 16 % 256) 2
  unfolding compact_of
  compact_counted n h = simp (ne_eqb (selector_of w) 0 n, lt-ltb _ _ h)

  pub compact_selector : 3 ≤ selector_of w → compact_of len o w ≡ Err Refusal.Selector
  unfolding compact_of
  compact_selector h = simp (ne_eqb (selector_of w) 0 (λ e. omega arith), le-ltb _ _ h)

module _ (ys : List ℕ) (a : Addr) (o w : ℕ) where
  pub generic_short : word_at ys (o + 4) ≡ None → generic_of ys a o w ≡ Err Refusal.Truncated
  unfolding generic_of
  generic_short e = rw e

  pub generic_counted : (v : ℕ) → word_at ys (o + 4) ≡ Some v → (p t : Addr) → p ≡ address_of a (off o) → t ≡ prel31_of w p
      → (r : Answered TableEntry) → r ≡ fitting (length ys) (Personality.Generic t) (o + 4) (1 + v / 2 ^ 24) 1 → r ≡ generic_of ys a o w
  unfolding generic_of
  generic_counted v e p t ep et r h = rw (e, ← ep, ← et) h

  pub entry_generic : w < 2 ^ 31 → entry_by ys a o w ≡ generic_of ys a o w
  unfolding entry_by
  entry_generic h = simp (lt-ltb _ _ h)

  pub entry_compact : 2 ^ 31 ≤ w → entry_by ys a o w ≡ compact_of (length ys) o w
  unfolding entry_by
  entry_compact h = simp (le-ltb _ _ h)
