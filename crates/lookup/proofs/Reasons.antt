-- Why a lookup is refused, put together as the definition is. Assumes nothing.
use Prim.Native.Nat.{ℕ, ◌≤◌}
use mathlib.Core.Path.{◌≡◌, refl}
use native.Mathlib.Omega.{arith}
use lib.ListN.{length}
use Rattle.std.proofs.Common.{Ok, Err}
use Rattle.std.specs.Result.{result_and}
use Rattle.section.specs.Check.{Answered, Check, fine, and_then}
use Rattle.section.specs.Number.{number}
use Rattle.section.specs.Rule.{table_most}
use Rattle.section.specs.declared.Addr.{Addr}
use Rattle.section.specs.declared.Off.{Off}
use Rattle.section.specs.declared.Refusal.{Refusal}
use Rattle.section.proofs.Checks.{fault_not}
use Rattle.pointer.specs.Reads.{NoPointer}
use Rattle.lsda.specs.Reasons.{Faulty, NoCallSite}
use Rattle.lsda.specs.Sites.{call_site_of}
use Rattle.lsda.specs.declared.CallSite.{CallSite}
use Rattle.search.specs.declared.Hit.{Hit}
use Rattle.lsda.proofs.Laws.{call_why}
use Rattle.image.specs.Image.{Image, sections_of, Sections, entry_at, language_of}
use Rattle.image.specs.Read.{EntryRefusal, Leads}
use Rattle.entry.specs.declared.Span.{Span}
use Rattle.image.specs.declared.Found.{Found}
use Rattle.image.proofs.Laws.{sections_exact, sections_fault, entry_leads}
use Rattle.search.specs.Reasons.{NoHit}
use Rattle.search.specs.Search.{search_of}
use Rattle.search.proofs.Laws.{found_begins, search_why}
use Rattle.lookup.specs.Lookup.{looked_at, lookup_of}
use Rattle.lookup.specs.Reasons.{NoLookup}
use Rattle.lookup.specs.declared.Looked.{Looked}

module _ (i : Image) where
  abbrev OfLooked : Answered Looked → Type 0
  OfLooked (Ok x) = Unit
  OfLooked (Err r) = NoLookup i r

  -- language data that is not too long
  of_pointer : (len : ℕ) → len ≤ table_most → (r : Refusal) → NoPointer len r → NoLookup i r
  of_pointer len h r (NoPointer.long g) = absurd (omega arith)
  of_pointer len h r NoPointer.truncated = NoLookup.truncated
  of_pointer len h r NoPointer.encoding = NoLookup.encoding
  of_pointer len h r NoPointer.value = NoLookup.value

  of_site : (len : ℕ) → len ≤ table_most → (r : Refusal) → NoCallSite len r → NoLookup i r
  of_site len h r (NoCallSite.faulty (Faulty.unread w)) = of_pointer len h r w
  of_site len h r (NoCallSite.faulty Faulty.sum) = NoLookup.sum
  of_site len h r NoCallSite.none = NoLookup.no_site

  of_entry : (r : Refusal) → EntryRefusal r → NoLookup i r
  of_entry r EntryRefusal.corrupt = NoLookup.corrupt
  of_entry r EntryRefusal.place = NoLookup.place
  of_entry r EntryRefusal.truncated = NoLookup.truncated
  of_entry r EntryRefusal.selector = NoLookup.selector

  module _ (c : Addr) where
    of_sited : (k : ℕ) (f p : Addr) (s : Span) (o : Off) → length (language_of i o) ≤ table_most → OfLooked (looked_at i.table c k (Found.Generic f p s o))
    unfolding looked_at
    of_sited k f p s o h = go (call_site_of (language_of i o) f c) refl
      where
        go : (y : Answered CallSite) → call_site_of (language_of i o) f c ≡ y → OfLooked (and_then y (λ site. Ok (Looked.Generic k f p site)))
        go (Ok site) e = tt
        go (Err r) e = of_site (length (language_of i o)) h r (call_why (language_of i o) f c r e)

    of_found : (k : ℕ) (x : Answered Found) → Leads i x → OfLooked (and_then x (λ y. looked_at i.table c k y))
    unfolding looked_at
    of_found k x (Leads.cannot _) = tt
    of_found k x (Leads.compact _ _ _) = tt
    of_found k x (Leads.generic {f = f} {p = p} {s = s} {o = o} _ _ _ _ h) = of_sited k f p s o h
    of_found k x (Leads.refused {r = r} w) = of_entry r w

    abbrev on_hit : Hit → Answered Looked
    on_hit h = and_then (entry_at i h.entry) (λ x. looked_at i.table c h.entry x)

    of_search : Sections i → OfLooked (and_then (search_of i.index i.index_at c) on_hit)
    of_search s = go (search_of i.index i.index_at c) refl
      where
        why : (r : Refusal) → NoHit (length i.index) i.index_at r → NoLookup i r
        why r (NoHit.section n) = absurd (n s.index)
        why r NoHit.no_entry = NoLookup.no_entry
        why r NoHit.corrupt = NoLookup.corrupt

        go : (y : Answered Hit) → search_of i.index i.index_at c ≡ y → OfLooked (and_then y on_hit)
        go (Ok h) e = of_found h.entry (entry_at i h.entry) (entry_leads i s h.entry (found_begins i.index i.index_at c h e).inside)
        go (Err r) e = why r (search_why i.index i.index_at c r e)

    of_lookup : OfLooked (lookup_of i c)
    unfolding lookup_of
    of_lookup = go (sections_of i) refl
      where
        go : (x : Check) → sections_of i ≡ x → OfLooked (result_and x (and_then (search_of i.index i.index_at c) on_hit))
        go fine e = of_search ((sections_exact i).0 e)
        go (Err r) e = rw (sections_fault i r e) (NoLookup.section (fault_not (sections_of i) r (sections_exact i) e))

    pub lookup_why : (r : Refusal) → lookup_of i c ≡ Err r → NoLookup i r
    lookup_why r e = rw e at of_lookup

-- in the paper's numbers: at most 11, and never 4, which is the audit's alone
pub lookup_numbers : (i : Image) (r : Refusal) → NoLookup i r → (number r ≤ 11) × (number r ≡ 4 → ⊥)
lookup_numbers i r (NoLookup.section _) = (omega arith, λ e. omega arith)
lookup_numbers i r NoLookup.no_entry = (omega arith, λ e. omega arith)
lookup_numbers i r NoLookup.corrupt = (omega arith, λ e. omega arith)
lookup_numbers i r NoLookup.place = (omega arith, λ e. omega arith)
lookup_numbers i r NoLookup.truncated = (omega arith, λ e. omega arith)
lookup_numbers i r NoLookup.selector = (omega arith, λ e. omega arith)
lookup_numbers i r NoLookup.encoding = (omega arith, λ e. omega arith)
lookup_numbers i r NoLookup.value = (omega arith, λ e. omega arith)
lookup_numbers i r NoLookup.sum = (omega arith, λ e. omega arith)
lookup_numbers i r NoLookup.no_site = (omega arith, λ e. omega arith)
