-- Why each answer is refused: put together as the definitions are, from what the readers refuse. Assumes nothing.
use Prim.Native.Nat.{ℕ}
use mathlib.Core.List.{List}
use mathlib.Core.Bool.{Bool, true, false}
use lib.ListN.{length}
use lib.Dec.{leb, ltb, eqb}
use Rattle.std.proofs.Common.{Ok, Err, Some, None, Option}
use Rattle.std.specs.Result.{result_and}
use Rattle.section.specs.Check.{Answered, Check, fine, and_then, need}
use Rattle.section.specs.Walk.{Trail, checked}
use Rattle.section.specs.declared.Addr.{Addr}
use Rattle.section.specs.declared.Off.{Off}
use Rattle.section.specs.declared.Refusal.{Refusal}
use Rattle.section.proofs.Picks.{pick_both}
use Rattle.section.proofs.Walks.{checked_end, checked_stop, checked_more}
use Rattle.pointer.specs.Pointer.{pointer_of, uleb_of}
use Rattle.pointer.specs.Reads.{ReadsOn, NoPointer}
use Rattle.pointer.specs.Number.{Read}
use Rattle.pointer.proofs.Laws.{sized_each, pointer_on, uleb_on, leb_why}
use Rattle.lsda.specs.Header.{reading, byte_at, base_at, types_at, table_at, header_of}
use Rattle.lsda.specs.Site.{pad_of, action_of, pad_fits, action_fits, fits_of, resolved, settled_of}
use Rattle.lsda.specs.Sites.{covers_of, find_in, find_from, call_site_of, audit_from, audit_sites_of}
use Rattle.lsda.specs.Reasons.{Faulty, NoCallSite}
use Rattle.lsda.specs.declared.Header.{Header}
use Rattle.lsda.specs.declared.Site.{Site}
use Rattle.lsda.specs.declared.CallSite.{CallSite}
use Rattle.lsda.proofs.Turns.{sites_each}

module _ (s : List ℕ) where
  -- ---- the header
  -- an answer, or one of these reasons
  abbrev pub Of : {A : Type 0} → Answered A → Type 0
  Of (Ok x) = Unit
  Of (Err r) = NoPointer (length s) r

  abbrev pub OfHeader : Answered Header → Type 0
  OfHeader h = Of h

  reading_of : {A X : Type 0} (r : Answered (A × Off)) (go : A → Off → Answered X) → Of r → ((e : A) (p : Off) → Of (go e p)) → Of (reading r go)
  reading_of (Ok x) go h g = g x.0 x.1
  reading_of (Err r) go h g = h

  of_byte : (at : ℕ) → Of (byte_at s at)
  unfolding byte_at
  of_byte at = pick_both Of (ltb at (length s)) _ _ tt NoPointer.truncated

  of_read : {Why : Refusal → Type 0} {at : ℕ} → ((x : Refusal) → Why x → NoPointer (length s) x) → (r : Read) → ReadsOn Why at (length s) r → Of r
  of_read why r (ReadsOn.value f a b) = tt
  of_read why r (ReadsOn.refused {r = x} w) = why x w

  of_pointer : (at e : ℕ) → Of (pointer_of s at e)
  of_pointer at e = of_read (λ x w. w) (pointer_of s at e) (pointer_on s at e)

  of_leb : (at : ℕ) → Of (uleb_of s at)
  of_leb at = of_read (λ x w. leb_why w) (uleb_of s at) (uleb_on s at)

  of_base : (function : Addr) (at : ℕ) → Of (base_at s function at)
  unfolding base_at
  of_base function at =
      reading_of (byte_at s at) _ (of_byte at)
      (λ e p. pick_both Of (eqb e 0xFF) _ _ tt (reading_of (pointer_of s p.0 e) _ (of_pointer p.0 e) (λ v q. tt)))

  of_types : (at : ℕ) → Of (types_at s at)
  unfolding types_at
  of_types at = reading_of (byte_at s at) _ (of_byte at) (λ e p. pick_both Of (eqb e 0xFF) _ _ tt (of_leb p.0))

  of_table : (base : Addr) (at : ℕ) → Of (table_at s base at)
  unfolding table_at
  of_table base at = reading_of (byte_at s at) _ (of_byte at) (λ e p. reading_of (uleb_of s p.0) _ (of_leb p.0) (λ n q. tt))

  pub of_header : (function : Addr) → Of (header_of s function)
  unfolding header_of
  of_header function =
      sized_each s Of NoPointer.long _
      (reading_of (base_at s function 0) _ (of_base function 0)
      (λ base p. reading_of (types_at s p.0) _ (of_types p.0)
      (λ t q. of_table base q.0)))

  -- ---- the audit
  abbrev pub OfCheck : Check → Type 0
  OfCheck fine = Unit
  OfCheck (Err r) = Faulty (length s) r

  of_need : (t : Bool) → OfCheck (need t Refusal.Sum)
  of_need true = tt
  of_need false = Faulty.sum

  of_and : (a b : Check) → OfCheck a → OfCheck b → OfCheck (result_and a b)
  of_and fine b p q = q
  of_and (Err r) b p q = p

  of_pad : (p : Option Addr) → OfCheck (pad_fits p)
  of_pad None = tt
  of_pad (Some a) = of_need (leb a.0 0xFFFFFFFF)

  of_action : (n : Option ℕ) → OfCheck (action_fits n)
  of_action None = tt
  of_action (Some n) = of_need (leb n 0xFFFFFFFF)

  of_fits : (base : Addr) (x : Site) → OfCheck (fits_of base x)
  unfolding fits_of
  of_fits base x =
      let p = pad_of base x.pad in
      let n = action_of x.action in
      of_and (pad_fits p) (action_fits n) (of_pad p) (of_action n)

  of_sites : (h : Header) (at : ℕ) → OfCheck (audit_from s h at)
  of_sites h at =
      let f = fits_of h.base in
      sites_each s h (λ (t : Trail Site). OfCheck (checked f t))
      (rw (checked_end f) tt)
      (λ r w. rw (checked_stop f r) w)
      (λ x t i. rw (checked_more f x t) (of_and (f x) (checked f t) (of_fits h.base x) i))
      at

  pub of_audit : (function : Addr) → OfCheck (audit_sites_of s function)
  unfolding audit_sites_of
  of_audit function = go (header_of s function) (of_header function)
    where
      go : (x : Answered Header) → Of x → OfCheck (and_then x (λ h. audit_from s h h.start.0))
      go (Ok h) w = of_sites h h.start.0
      go (Err r) w = Faulty.unread w

  -- ---- the answer for a counter
  abbrev pub OfFound : Answered CallSite → Type 0
  OfFound (Ok y) = Unit
  OfFound (Err r) = NoCallSite (length s) r

  of_settled : (base : Addr) (x : Site) → OfFound (settled_of base x)
  unfolding settled_of
  of_settled base x = go (fits_of base x) (resolved base x) (of_fits base x)
    where
      go : (k : Check) (y : CallSite) → OfCheck k → OfFound (result_and k (Ok y))
      go fine y w = tt
      go (Err r) y w = NoCallSite.faulty w

  of_find : (h : Header) (c : Addr) (at : ℕ) → OfFound (find_from s h c at)
  unfolding find_in
  of_find h c at =
      sites_each s h (λ (t : Trail Site). OfFound (find_in h.base c t))
      NoCallSite.none
      (λ r w. NoCallSite.faulty w)
      (λ x t i. pick_both OfFound (covers_of c x) (settled_of h.base x) (find_in h.base c t) (of_settled h.base x) i)
      at

  pub of_call : (function c : Addr) → OfFound (call_site_of s function c)
  unfolding call_site_of
  of_call function c = go (header_of s function) (of_header function)
    where
      go : (x : Answered Header) → Of x → OfFound (and_then x (λ h. find_from s h c h.start.0))
      go (Ok h) w = of_find h c h.start.0
      go (Err r) w = NoCallSite.faulty (Faulty.unread w)
