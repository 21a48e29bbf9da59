-- Laws of the language data, for the crates above: the audit is exact, what a counter meets, and why an answer is refused. Assumes nothing.
use Prim.Native.Nat.{ℕ, ◌≤◌}
use mathlib.Core.Path.{◌≡◌, refl, sym, ◌∙◌}
use mathlib.Core.List.{List}
use mathlib.Core.Bool.{Bool, true, false}
use mathlib.Core.Logic.{◌↔◌}
use native.Mathlib.Omega.{arith}
use lib.ListN.{length}
use lib.Dec.{leb, ltb}
use borrow.Author.Tests.{le-leb, lt-ltb, leb-true, ltb-true}
use Rattle.section.specs.Pick.{pick}
use Rattle.section.specs.Walk.{Trail, checked, Clean}
use Rattle.section.specs.declared.Addr.{Addr}
use Rattle.section.specs.declared.Refusal.{Refusal}
use Rattle.std.proofs.Common.{Ok, Err, Some, None, Option}
use Rattle.section.specs.Check.{Check, fine, and_then}
use Rattle.section.specs.Check as check
use Rattle.section.proofs.Picks.{by_test}
use Rattle.section.proofs.Checks.{no_fault, and_exact, named, need_le}
use Rattle.section.proofs.Walks.{walk_exact, more_fine, checked_stop}
use Rattle.pointer.specs.Reads.{NoPointer}
use Rattle.lsda.specs.Header.{header_of}
use Rattle.lsda.specs.Site.{pad_of, action_of, pad_fits, action_fits, fits_of, site_at, settled_of, PadIn, ActionIn, Fits}
use Rattle.lsda.specs.Sites.{site_look, sites_from, covers_of, find_in, find_from, call_site_of, audit_from, audit_sites_of, CleanSites, Covers, First, Nowhere, Sited, Answered}
use Rattle.lsda.specs.Reach.{fault_at}
use Rattle.lsda.specs.Reasons.{Faulty, NoCallSite}
use Rattle.lsda.specs.declared.Header.{Header}
use Rattle.lsda.specs.declared.Site.{Site}
use Rattle.lsda.specs.declared.CallSite.{CallSite}
use Rattle.lsda.proofs.Turns.{SiteOn, site_on, sites_upward}
use Rattle.lsda.proofs.Refused.{of_header, of_call, of_audit}

-- ---- exactness
pad_exact : (p : Option Addr) → (pad_fits p ≡ fine) ↔ PadIn p
pad_exact None = (λ _. PadIn.none, λ _. refl)
pad_exact (Some a) = named (need_le a.0 0xFFFFFFFF Refusal.Sum) PadIn.at back
  where
    back : PadIn (Some a) → a.0 ≤ 0xFFFFFFFF
    back (PadIn.at h) = h

action_exact : (n : Option ℕ) → (action_fits n ≡ fine) ↔ ActionIn n
action_exact None = (λ _. ActionIn.none, λ _. refl)
action_exact (Some n) = named (need_le n 0xFFFFFFFF Refusal.Sum) ActionIn.record_in back
  where
    back : ActionIn (Some n) → n ≤ 0xFFFFFFFF
    back (ActionIn.record_in h) = h

pub fits_exact : (base : Addr) (x : Site) → (fits_of base x ≡ fine) ↔ Fits base x
unfolding fits_of
fits_exact base x =
    named (and_exact _ _ (pad_exact (pad_of base x.pad)) (action_exact (action_of x.action))) (λ p. record { pad = p.0; action = p.1 }) (λ f. (f.pad, f.action))

pub sites_exact : (s : List ℕ) (function : Addr) → (audit_sites_of s function ≡ fine) ↔ CleanSites s function
unfolding audit_sites_of
sites_exact s function = (λ e. to (header_of s function) refl e, λ c. rw c.read ((walk c.header).1 c.sites))
  where
    walk : (h : Header) → (audit_from s h h.start.0 ≡ fine) ↔ Clean (Fits h.base) (site_look s h) h.start.0
    walk h = walk_exact (Fits h.base) (fits_of h.base) (fits_exact h.base) (site_look s h) (length s) (sites_upward s h) h.start.0

    to : (x : check.Answered Header) → header_of s function ≡ x → and_then x (λ h. audit_from s h h.start.0) ≡ fine → CleanSites s function
    to (Ok h) e p = record { header = h; read = e; sites = (walk h).0 p }
    to (Err r) e p = no_fault r p

-- an audit's answer says both
pub audit_told : (s : List ℕ) (function : Addr) (r : Check) → r ≡ audit_sites_of s function → (r ≡ audit_sites_of s function) × ((r ≡ fine) ↔ CleanSites s function)
audit_told s function r e = (e, rw e (sites_exact s function))

-- ---- what a site covers
pub covers_is : (c : Addr) (x : Site) → covers_of c x ≡ true → Covers c x
unfolding covers_of
covers_is c x e = go (leb x.start.0 c.0) refl e
  where
    go : (t : Bool) → leb x.start.0 c.0 ≡ t → pick t (ltb c.0 x.end.0) false ≡ true → Covers c x
    go true p q = record { above = leb-true _ _ p; below = ltb-true _ _ q }
    go false p q = let z : ◌≡◌ {A = ℕ} 0 1 = cc in absurd (omega arith)

pub covers_not : (c : Addr) (x : Site) → covers_of c x ≡ false → Covers c x → ⊥
unfolding covers_of
covers_not c x e h =
    let t : covers_of c x ≡ true = rw (le-leb _ _ h.above, lt-ltb _ _ h.below) in
    let z : ◌≡◌ {A = ℕ} 0 1 = cc in omega arith

-- ---- what a counter meets
module _ (base c : Addr) where
  -- a counter that meets a fault is refused with it
  pub meets_fault : (t : Trail Site) (r : Refusal) → fault_at base c t ≡ Err r → find_in base c t ≡ Err r
  unfolding fault_at find_in settled_of
  meets_fault Trail.end r e = no_fault r cc
  meets_fault (Trail.stop q) r e = cc
  meets_fault (Trail.more x t) r e =
      by_test (covers_of c x)
      (λ b. let f = rw b at e in rw (b, f))
      (λ b. rw b (meets_fault t r (rw b at e)))

  -- and one that meets none has its first site, or 11
  pub meets_none : (t : Trail Site) → fault_at base c t ≡ fine → Sited base c t (find_in base c t)
  unfolding fault_at find_in settled_of
  meets_none Trail.end e = Sited.none Nowhere.ended
  meets_none (Trail.stop r) e = no_fault r e
  meets_none (Trail.more x t) e =
      by_test (covers_of c x)
      (λ b. let f : fits_of base x ≡ fine = rw b at e in rw (b, f) (Sited.covered (First.first (covers_is c x b)) ((fits_exact base x).0 f)))
      (λ b. rw b (past _ (covers_not c x b) (meets_none t (rw b at e))))
    where
      past : (y : check.Answered CallSite) → (Covers c x → ⊥) → Sited base c t y → Sited base c (Trail.more x t) y
      past y n (Sited.covered f i) = Sited.covered (First.later n f) i
      past y n (Sited.none w) = Sited.none (Nowhere.past n w)

  -- what the plain audit passes, no counter meets a fault in
  pub plain_passes : (t : Trail Site) → checked (fits_of base) t ≡ fine → fault_at base c t ≡ fine
  unfolding fault_at
  plain_passes Trail.end e = refl
  plain_passes (Trail.stop r) e = no_fault r (sym (checked_stop (fits_of base) r) ∙ e)
  plain_passes (Trail.more x t) e =
      let h = more_fine (fits_of base) x t e in
      by_test (covers_of c x) (λ b. rw b h.0) (λ b. rw b (plain_passes t h.1))

  -- a site that was found is the first that covers the counter, and its pad and action fit
  pub found_first : (t : Trail Site) (y : CallSite) → find_in base c t ≡ Ok y → Sited base c t (Ok y)
  found_first t y e = go (fault_at base c t) refl
    where
      go : (k : Check) → fault_at base c t ≡ k → Sited base c t (Ok y)
      go fine p = rw e at (meets_none t p)
      go (Err r) p = let f = meets_fault t r p in let z : ◌≡◌ {A = ℕ} 0 1 = cc in absurd (omega arith)

-- so of what the audit passes: the answer for a counter is the first site that covers it, or 11 where none does
pub clean_sites : (s : List ℕ) (function : Addr) → audit_sites_of s function ≡ fine → (h : Header) → header_of s function ≡ Ok h → (c : Addr)
    → Sited h.base c (sites_from s h h.start.0) (call_site_of s function c)
unfolding audit_sites_of call_site_of
clean_sites s function e h r c = let t = sites_from s h h.start.0 in rw r (meets_none h.base c t (plain_passes h.base c t (rw r at e)))

-- and what a call site that was answered tells
pub call_answered : (s : List ℕ) (function c : Addr) (y : CallSite) → call_site_of s function c ≡ Ok y → Answered s function c y
unfolding call_site_of
call_answered s function c y e = go (header_of s function) refl e
  where
    go : (x : check.Answered Header) → header_of s function ≡ x → and_then x (λ h. find_from s h c h.start.0) ≡ Ok y → Answered s function c y
    go (Ok h) p q = record { header = h; read = p; site = found_first h.base c (sites_from s h h.start.0) y q }
    go (Err r) p q = let z : ◌≡◌ {A = ℕ} 0 1 = cc in absurd (omega arith)

-- ---- why an answer is refused
module _ (s : List ℕ) where
  pub header_why : (function : Addr) (r : Refusal) → header_of s function ≡ Err r → NoPointer (length s) r
  header_why function r e = rw e at (of_header s function)

  pub site_why : (h : Header) (at : ℕ) (r : Refusal) → site_at s h at ≡ Err r → Faulty (length s) r
  site_why h at r e = told (rw e at (site_on s h at))
    where
      told : SiteOn s at (Err r) → Faulty (length s) r
      told (SiteOn.refused w) = w

  pub call_why : (function c : Addr) (r : Refusal) → call_site_of s function c ≡ Err r → NoCallSite (length s) r
  call_why function c r e = rw e at (of_call s function c)

  pub audit_why : (function : Addr) (r : Refusal) → audit_sites_of s function ≡ Err r → Faulty (length s) r
  audit_why function r e = rw e at (of_audit s function)
