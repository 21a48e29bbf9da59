-- What the crates above know of entries: they cite these laws and unfold no definition. Assumes nothing.
use Rattle.std.proofs.Common.{Bool, true, false, ok_or, Some, None, Ok, Err, Option}
use Prim.Native.Nat.{ℕ, ◌+◌, ◌-◌, ◌*◌, ◌/◌, ◌%◌, ◌^◌, ◌≤◌, ◌<◌}
use mathlib.Core.Path.{◌≡◌, refl, sym, ap, ◌∙◌}
use mathlib.Core.Logic.{◌↔◌}
use mathlib.Core.List.{List}
use native.Mathlib.Omega.{arith}
use lib.ListN.{length}
use lib.Dec.{ltb, leb, eqb}
use borrow.Author.Tests.{le-ltb, ltb-true, ltb-false, leb-true, leb-false, eqb-true}
use denote.Ref.{Bor}
use Rattle.std.specs.Result.{result_and}
use Rattle.section.specs.Rule.{index_most, table_most, table_rule, Section, IndexSection}
use Rattle.section.specs.Word.{word, word_at}
use Rattle.section.specs.View.{Part}
use Rattle.section.specs.Place.{off, address_of}
use Rattle.section.specs.Prel31.{prel31_of}
use Rattle.section.specs.Check.{Answered, Check, fine, need, and_then}
use Rattle.section.specs.declared.Addr.{Addr}
use Rattle.section.specs.declared.Off.{Off}
use Rattle.section.specs.declared.Refusal.{Refusal}
use Rattle.section.proofs.Picks.{by_test, pick_each, pick_both}
use Rattle.section.proofs.Checks.{and_exact, need_lt}
use Rattle.section.proofs.Places.{prel31_address}
use Rattle.section.proofs.Rules.{section_exact, index_exact}
use Rattle.section.proofs.Views.{spot_in, suffix_in, suffix_out, bytes_length}
use Rattle.entry.specs.Index.{entries, numbered, function_of, function_in, function_at, content_of, content_at, index_entry_of}
use Rattle.entry.specs.Table.{fitting, selector_of, compact_of, generic_of, entry_by, table_entry_of}
use Rattle.entry.specs.Parts.{chosen, words_spot, Words, words_in, held_words, language_in}
use Rattle.entry.specs.Read.{Inside, Contents, FunctionGives, FunctionTold, ContentGives, IndexGives, Known, TableRefusal, TableGives}
use Rattle.entry.specs.declared.Personality.{Personality}
use Rattle.entry.specs.declared.Held.{Held}
use Rattle.entry.specs.declared.Span.{Span}
use Rattle.entry.specs.declared.Content.{Content}
use Rattle.entry.specs.declared.TableEntry.{TableEntry}
use Rattle.entry.proofs.Ways.{function_sound as word_sound, function_corrupt as word_corrupt, function_made}

-- ---- which entries are there
pub numbered_exact : (len : ℕ) (a : Addr) (k : ℕ) → (numbered len a k ≡ fine) ↔ (IndexSection len a × (k < len / 8))
unfolding numbered
numbered_exact len a k = and_exact _ _ (index_exact len a) (need_lt k (len / 8) Refusal.Truncated)

numbered_past : (len : ℕ) (a : Addr) (k : ℕ) → IndexSection len a → len / 8 ≤ k → numbered len a k ≡ Err Refusal.Truncated
unfolding numbered
numbered_past len a k s h = rw ((index_exact len a).1 s, le-ltb _ _ h)

-- what a reader of entry k has to know
pub numbered_there : (len : ℕ) (a : Addr) (k : ℕ) → numbered len a k ≡ fine → (len ≤ index_most) × (k < len / 8)
numbered_there len a k e = let h = (numbered_exact len a k).0 e in (h.0.section.short, h.1)

-- ---- the index
module _ (xs : List ℕ) (a : Addr) (k : ℕ) where
  pub function_address : (function_of xs a k).0 < 2 ^ 32
  unfolding function_of
  function_address = prel31_address _ _

  module _ (s : IndexSection (length xs) a) where
    there : k < entries xs → numbered (length xs) a k ≡ fine
    there h = (numbered_exact (length xs) a k).1 (s, h)

    -- a function word that is all there and sound
    pub function_sound : k < entries xs → word xs (8 * k) < 2 ^ 31 → function_at xs a k ≡ Ok (function_of xs a k)
    unfolding function_at
    function_sound h w = rw (there h) (word_sound xs a k w)

    -- what a reader of that word makes of it
    pub function_from : k < entries xs → {w : ℕ} {p f : Addr} → w ≡ word xs (8 * k) → w < 2 ^ 31 → p ≡ address_of a (off (8 * k)) → f ≡ prel31_of w p
        → function_at xs a k ≡ Ok f
    function_from h {w} {p} {f} e b q r = function_sound h (omega arith) ∙ ap Ok (sym (function_made xs a k w e p f q r))

    pub function_corrupt : k < entries xs → {w : ℕ} → w ≡ word xs (8 * k) → 2 ^ 31 ≤ w → function_at xs a k ≡ Err Refusal.Corrupt
    unfolding function_at
    function_corrupt h e b = rw (there h) (word_corrupt xs a k (omega arith))

    pub function_gives : FunctionGives xs a k (function_at xs a k)
    unfolding function_at function_in
    function_gives =
        by_test (ltb k (entries xs))
        (λ t. let h = ltb-true k (entries xs) t in
        rw (there h) (pick_both (FunctionGives xs a k) (ltb (word xs (8 * k)) (2 ^ 31)) _ _ (FunctionGives.at h function_address) (FunctionGives.corrupt h)))
        (λ t. let h = ltb-false k (entries xs) t in rw (numbered_past (length xs) a k s h) (FunctionGives.truncated h))

    -- what a content word of an entry that is there says: its own word lies in the index
    contents : k < entries xs → (w : ℕ) → Contents (length xs) (content_of w a (off (8 * k + 4)))
    unfolding content_of
    contents h w =
        pick_both (Contents (length xs)) (eqb w 1) _ _ Contents.cannot
        (pick_both (Contents (length xs)) (ltb w (2 ^ 31)) _ _ (Contents.table (prel31_address _ _))
        (Contents.compact (omega arith) refl (record { some = omega arith; within = omega arith; short = omega arith; skips = omega arith; skips_few = omega arith })))

    pub content_gives : ContentGives xs k (content_at xs a k)
    unfolding content_at
    content_gives =
        by_test (ltb k (entries xs))
        (λ t. let h = ltb-true k (entries xs) t in rw (there h) (ContentGives.is h (contents h _)))
        (λ t. let h = ltb-false k (entries xs) t in rw (numbered_past (length xs) a k s h) (ContentGives.truncated h))

    pub index_gives : IndexGives xs k (index_entry_of xs a k)
    unfolding index_entry_of
    index_gives = go (function_at xs a k) (content_at xs a k) function_gives content_gives
      where
        go : (x : Answered Addr) (y : Answered Content) → FunctionGives xs a k x → ContentGives xs k y
            → IndexGives xs k (and_then x (λ f. and_then y (λ c. Ok (record { function = f; content = c }))))
        go x y (FunctionGives.at h b) (ContentGives.is g c) = IndexGives.entry h b c
        go x y (FunctionGives.at h b) (ContentGives.truncated g) = IndexGives.truncated g
        go x y (FunctionGives.corrupt h) q = IndexGives.corrupt h
        go x y (FunctionGives.truncated h) q = IndexGives.truncated h

  -- a function that was read
  pub function_read : (f : Addr) → function_at xs a k ≡ Ok f → FunctionTold xs a k f
  unfolding function_at
  function_read f e = go (numbered (length xs) a k) refl e
    where
      no_refusal : {X : Type 0} (r : Refusal) → Err r ≡ Ok f → X
      no_refusal r e = let z : ◌≡◌ {A = ℕ} 0 1 = cc in absurd (omega arith)

      told : IndexSection (length xs) a → k < entries xs → function_in xs a k ≡ Ok f → FunctionTold xs a k f
      told s h e =
          by_test (ltb (word xs (8 * k)) (2 ^ 31))
          (λ t. let w = ltb-true (word xs (8 * k)) (2 ^ 31) t in let g = word_sound xs a k w in record { section = s; there = h; sound = w; is = cc })
          (λ t. no_refusal Refusal.Corrupt (sym (word_corrupt xs a k (ltb-false _ _ t)) ∙ e))

      go : (x : Check) → numbered (length xs) a k ≡ x → result_and x (function_in xs a k) ≡ Ok f → FunctionTold xs a k f
      go fine n e = let h = (numbered_exact (length xs) a k).0 n in told h.0 h.1 e
      go (Err r) n e = no_refusal r e

  -- the function word is the first that is read
  pub index_led : (f : Addr) → function_at xs a k ≡ Ok f
      → index_entry_of xs a k ≡ and_then (content_at xs a k) (λ c. Ok (record { function = f; content = c }))
  unfolding index_entry_of
  index_led f e = rw e

  pub index_refused : (r : Refusal) → function_at xs a k ≡ Err r → index_entry_of xs a k ≡ Err r
  unfolding index_entry_of
  index_refused r e = rw e

-- ---- the table
-- what a reader of a table has to know
pub table_short : (len : ℕ) (a : Addr) → table_rule len a ≡ fine → len ≤ table_most
table_short len a e = ((section_exact table_most len a).0 e).short

module _ (ys : List ℕ) (a : Addr) where
  module _ (short : length ys ≤ table_most) where
    fits : (p : Personality) (o n skip : ℕ) → Known p → 1 ≤ n → 1 ≤ skip → skip ≤ 2 → TableGives (length ys) (fitting (length ys) p o n skip)
    unfolding fitting
    fits p o n skip q h l m =
        pick_each (TableGives (length ys)) (leb (o + 4 * n) (length ys)) _ _
        (λ t. let w = leb-true (o + 4 * n) (length ys) t in
        TableGives.entry (record { known = q; held = refl; inside = record { some = h; within = w; short = omega arith; skips = l; skips_few = m }; language = refl }))
        (λ t. TableGives.refused TableRefusal.truncated)

    compacts : (o w : ℕ) → TableGives (length ys) (compact_of (length ys) o w)
    unfolding compact_of
    compacts o w =
        pick_each (TableGives (length ys)) (eqb (selector_of w) 0) _ _
        (λ t. let z = eqb-true (selector_of w) 0 t in fits _ o 1 1 (Known.compact (omega arith)) (omega arith) (omega arith) (omega arith))
        (λ t. pick_each (TableGives (length ys)) (ltb (selector_of w) 3) _ _
        (λ u. fits _ o (1 + w / 2 ^ 16 % 256) 2 (Known.compact (ltb-true _ _ u)) (omega arith) (omega arith) (omega arith))
        (λ u. TableGives.refused TableRefusal.selector))

    words : (x : Option ℕ) (go : ℕ → Answered TableEntry) → ((w : ℕ) → TableGives (length ys) (go w)) → TableGives (length ys) (and_then (ok_or x Refusal.Truncated) go)
    words (Some w) go h = h w
    words None go h = TableGives.refused TableRefusal.truncated

    aligned : (t : Bool) (x : Answered TableEntry) → TableGives (length ys) x → TableGives (length ys) (result_and (need t Refusal.Place) x)
    aligned true x g = g
    aligned false x g = TableGives.refused TableRefusal.place

    generics : (o w : ℕ) → TableGives (length ys) (generic_of ys a o w)
    unfolding generic_of
    generics o w = words (word_at ys (o + 4)) _ (λ v. fits _ (o + 4) (1 + v / 2 ^ 24) 1 (Known.generic (prel31_address _ _)) (omega arith) (omega arith) (omega arith))

    entries_by : (o w : ℕ) → TableGives (length ys) (entry_by ys a o w)
    unfolding entry_by
    entries_by o w = pick_both (TableGives (length ys)) (ltb w (2 ^ 31)) _ _ (generics o w) (compacts o w)

  pub table_gives : Section table_most (length ys) a → (o : Off) → TableGives (length ys) (table_entry_of ys a o)
  unfolding table_entry_of
  table_gives s o =
      rw ((section_exact table_most (length ys) a).1 s) (aligned s.short (eqb (o.0 % 4) 0) _ (words s.short (word_at ys o.0) _ (λ w. entries_by s.short o.0 w)))

-- ---- views
-- the words that are handed out are those of the section that holds them
pub words_are : (i t r : Bor (List ℕ)) (n : Span) → Words i t r n → r.now ≡ held_words i.now t.now n
words_are i t r n p = go n.held p.part
  where
    go : (h : Held) → Part (chosen h i t) r (words_spot (length (chosen h i t).now) n) → r.now ≡ words_in (chosen h i.now t.now) n
    go Held.Index p = p.bytes
    go Held.Table p = p.bytes

-- words that lie in their section are all there
pub words_length : (s : List ℕ) (n : Span) → Inside (length s) n → length (words_in s n) ≡ 4 * n.words
words_length s n h = rw (spot_in (length s) n.at.0 (4 * n.words) h.within) (bytes_length s n.at.0 (4 * n.words) h.within)

-- language data is no longer than its table
pub language_short : (ys : List ℕ) (o : Off) → length (language_in ys o) ≤ length ys
language_short ys o =
    by_test (leb o.0 (length ys))
    (λ t. let h = leb-true o.0 (length ys) t in
    let e : length (language_in ys o) ≡ length ys - o.0 = rw (suffix_in (length ys) o.0 h) (bytes_length ys o.0 (length ys - o.0) (omega arith)) in omega arith)
    (λ t. rw (suffix_out (length ys) o.0 (leb-false o.0 (length ys) t)) (omega arith))
