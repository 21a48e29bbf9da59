-- The turns of the search without fuel, and one law for each way to an answer: what the proofs of the functions cite. Assumes nothing.
use Rattle.std.proofs.Common.{Ok, Err}
use Prim.Native.Nat.{ℕ, zero, suc, ◌+◌, ◌-◌, ◌*◌, ◌/◌, ◌^◌, ◌≤◌, ◌<◌}
use mathlib.Core.Path.{◌≡◌, refl, sym}
use mathlib.Core.List.{List}
use mathlib.Core.Bool.{Bool, true, false}
use native.Mathlib.Omega.{arith}
use lib.ListN.{length}
use lib.Dec.{leb, ltb}
use borrow.Author.Tests.{lt-ltb, le-ltb, le-leb, lt-leb, eq-eqb, ne_eqb, ltb-true}
use Rattle.section.specs.Rule.{index_rule, IndexSection}
use Rattle.section.specs.Word.{word}
use Rattle.section.specs.Check.{Answered, fine, and_then}
use Rattle.section.specs.declared.Addr.{Addr}
use Rattle.section.specs.declared.Refusal.{Refusal}
use Rattle.section.proofs.Picks.{by_test}
use Rattle.section.proofs.Rules.{index_exact}
use Rattle.entry.specs.Index.{entries, function_at}
use Rattle.entry.proofs.Laws.{function_corrupt}
use Rattle.search.specs.Search.{hit, side, halve_from, halve, search_of}
use Rattle.search.specs.declared.Hit.{Hit}

-- ---- the fuel is no part of the answer
same_on : (r : Answered Addr) (f g : Addr → Answered Hit) → ((x : Addr) → f x ≡ g x) → and_then r f ≡ and_then r g
same_on (Ok x) f g h = h x
same_on (Err r) f g h = refl

same_side : (t : Bool) (low : ℕ) (f : Addr) (middle : ℕ) (g : Addr) (high : ℕ) (p q : ℕ → Addr → ℕ → Answered Hit)
    → p middle g high ≡ q middle g high → p low f middle ≡ q low f middle → side t low f middle g high p ≡ side t low f middle g high q
same_side true low f middle g high p q x y = x
same_side false low f middle g high p q x y = y

-- what a search has to know of an index
pub passed : (len : ℕ) (a : Addr) → index_rule len a ≡ fine → IndexSection len a
passed len a e = (index_exact len a).0 e

module _ (xs : List ℕ) (a counter : Addr) where
  -- nothing is left to halve
  done : (k low : ℕ) (f : Addr) (high probes : ℕ) → high ≤ low + 1 → halve_from k xs a counter low f high probes ≡ Ok (hit low f probes)
  unfolding halve_from
  done zero low f high probes h = refl
  done (suc k) low f high probes h =
      let e : high - low ≤ 1 = omega arith in
      rw (le-ltb _ _ e)

  enough : (k l low : ℕ) (f : Addr) (high probes : ℕ) → high ≤ low + k + 1 → high ≤ low + l + 1 → halve_from k xs a counter low f high probes ≡ halve_from l xs a counter low f high probes
  unfolding halve_from
  enough zero l low f high probes p q = sym (done l low f high probes (omega arith))
  enough (suc k) zero low f high probes p q = done (suc k) low f high probes (omega arith)
  enough (suc k) (suc l) low f high probes p q =
      by_test (ltb 1 (high - low))
      (λ t.
      let h = ltb-true 1 (high - low) t in
      rw t
      (same_on (function_at xs a ((low + high) / 2)) _ _
      (λ g. same_side (leb g.0 counter.0) low f ((low + high) / 2) g high _ _
      (enough k l ((low + high) / 2) g high (probes + 1) (omega arith) (omega arith))
      (enough k l low f ((low + high) / 2) (probes + 1) (omega arith) (omega arith)))))
      (λ t. rw t)

  -- ---- the turns of the loop
  module _ (low : ℕ) (f : Addr) (high probes : ℕ) where
    pub halve_done : high ≤ low + 1 → halve xs a counter low f high probes ≡ Ok (hit low f probes)
    unfolding halve
    halve_done h = done (high - low) low f high probes h

    module _ (h : low + 1 < high) where
      left : high - low ≡ suc (high - low - 1)
      left = omega arith

      wide : 1 < high - low
      wide = omega arith

      pub halve_refused : (r : Refusal) → function_at xs a ((low + high) / 2) ≡ Err r → halve xs a counter low f high probes ≡ Err r
      unfolding halve halve_from
      halve_refused r e = rw left (simp (lt-ltb _ _ wide, e))

      -- the middle's word has bit 31 set
      pub halve_corrupt : IndexSection (length xs) a → high ≤ entries xs → {w : ℕ} → w ≡ word xs (8 * ((low + high) / 2)) → 2 ^ 31 ≤ w → halve xs a counter low f high probes ≡ Err Refusal.Corrupt
      halve_corrupt s i e b = halve_refused _ (function_corrupt xs a ((low + high) / 2) s (omega arith) e b)

      pub halve_up : (g : Addr) → function_at xs a ((low + high) / 2) ≡ Ok g → g.0 ≤ counter.0 → halve xs a counter low f high probes ≡ halve xs a counter ((low + high) / 2) g high (probes + 1)
      unfolding halve halve_from
      halve_up g e b =
          rw left (simp (lt-ltb _ _ wide, e, le-leb _ _ b) (enough (high - low - 1) (high - (low + high) / 2) ((low + high) / 2) g high (probes + 1) (omega arith) (omega arith)))

      pub halve_down : (g : Addr) → function_at xs a ((low + high) / 2) ≡ Ok g → counter.0 < g.0 → halve xs a counter low f high probes ≡ halve xs a counter low f ((low + high) / 2) (probes + 1)
      unfolding halve halve_from
      halve_down g e b =
          rw left (simp (lt-ltb _ _ wide, e, lt-leb _ _ b) (enough (high - low - 1) ((low + high) / 2 - low) low f ((low + high) / 2) (probes + 1) (omega arith) (omega arith)))

  -- ---- the ways to an answer
  pub search_section : (r : Refusal) → index_rule (length xs) a ≡ Err r → search_of xs a counter ≡ Err r
  unfolding search_of
  search_section r h = rw h

  module _ (p : index_rule (length xs) a ≡ fine) where
    pub search_empty : entries xs ≡ 0 → search_of xs a counter ≡ Err Refusal.NoEntry
    unfolding search_of
    search_empty e = rw (p, eq-eqb (entries xs) 0 e)

    module _ (some : entries xs ≡ 0 → ⊥) where
      pub search_refused : (r : Refusal) → function_at xs a 0 ≡ Err r → search_of xs a counter ≡ Err r
      unfolding search_of
      search_refused r e = rw (p, ne_eqb (entries xs) 0 some, e)

      pub search_below : (f : Addr) → function_at xs a 0 ≡ Ok f → counter.0 < f.0 → search_of xs a counter ≡ Err Refusal.NoEntry
      unfolding search_of
      search_below f e h = rw (p, ne_eqb (entries xs) 0 some, e, lt-ltb _ _ h)

      pub search_halve : (f : Addr) → function_at xs a 0 ≡ Ok f → f.0 ≤ counter.0 → search_of xs a counter ≡ halve xs a counter 0 f (entries xs) 1
      unfolding search_of
      search_halve f e h = rw (p, ne_eqb (entries xs) 0 some, e, le-ltb _ _ h)
