-- The call sites as one walk; the search for a counter's, and the audit of all, are functions of its trail.
use Rattle.std.specs.Prelude.{ℕ, ◌≤◌, ◌<◌, ◌≡◌, List, Bool, false, length, nat_lt, nat_le, Ok, Err, Some, None}
use Rattle.section.specs.Check.{Check, and_then}
use Rattle.section.specs.Check as check
use Rattle.section.specs.Pick.{pick}
use Rattle.section.specs.Walk.{Look, done, bad, item, Trail, trail_of, checked, Clean}
use Rattle.section.specs.declared.Addr.{Addr}
use Rattle.section.specs.declared.Refusal.{Refusal}
use Rattle.lsda.specs.Header.{header_of}
use Rattle.lsda.specs.Site.{SiteRead, site_at, fits_of, settled_of, resolved, Fits}
use Rattle.lsda.specs.declared.Header.{Header}
use Rattle.lsda.specs.declared.Site.{Site}
use Rattle.lsda.specs.declared.CallSite.{CallSite}

abbrev pub look_of : SiteRead → Look ℕ Site
look_of (Ok (Some x)) = item x.0 x.1.0
look_of (Ok None) = done
look_of (Err r) = bad r

abbrev pub site_look : List ℕ → Header → ℕ → Look ℕ Site
site_look s h at = look_of (site_at s h at)

-- the sites from a position on, in order
abbrev pub sites_from : List ℕ → Header → ℕ → Trail Site
sites_from s h at = trail_of (site_look s h) (length s) at

-- ---- a counter's call site
-- a site covers from its start to below its end
unfoldable pub covers_of : Addr → Site → Bool
covers_of c x = pick (nat_le x.start.0 c.0) (nat_lt c.0 x.end.0) false

-- the first that covers is the answer, whatever stands after it; 11 where none does
unfoldable pub find_in : Addr → Addr → Trail Site → check.Answered CallSite
find_in base c Trail.end = Err Refusal.NoSite
find_in base c (Trail.stop r) = Err r
find_in base c (Trail.more x t) = pick (covers_of c x) (settled_of base x) (find_in base c t)

abbrev pub find_from : List ℕ → Header → Addr → ℕ → check.Answered CallSite
find_from s h c at = find_in h.base c (sites_from s h at)

unfoldable pub call_site_of : List ℕ → Addr → Addr → check.Answered CallSite
call_site_of s function c = and_then (header_of s function) (λ h. find_from s h c h.start.0)

-- ---- the audit: every site is read, and its pad and action fit
abbrev pub audit_from : List ℕ → Header → ℕ → Check
audit_from s h at = checked (fits_of h.base) (sites_from s h at)

unfoldable pub audit_sites_of : List ℕ → Addr → Check
audit_sites_of s function = and_then (header_of s function) (λ h. audit_from s h h.start.0)

-- ---- without the walk
-- the header is read, and wherever the walk of its sites comes, a site is read whose pad and action fit
pub record CleanSites (s : List ℕ) (function : Addr) : Type 0 where
  pub header : Header
  pub read : header_of s function ≡ Ok header
  pub sites : Clean (Fits header.base) (site_look s header) header.start.0

-- ---- the answer for a counter: the first site that covers it, or none does
pub record Covers (c : Addr) (x : Site) : Type 0 where
  pub above : x.start.0 ≤ c.0
  pub below : c.0 < x.end.0

pub data First {A : Type 0} (P : A → Type 0) : Trail A → A → Type 0 where
  first : {a : A} {t : Trail A} → P a → First P (Trail.more a t) a
  later : {a b : A} {t : Trail A} → (P b → ⊥) → First P t a → First P (Trail.more b t) a

pub data Nowhere {A : Type 0} (P : A → Type 0) : Trail A → Type 0 where
  ended : Nowhere P Trail.end
  past : {b : A} {t : Trail A} → (P b → ⊥) → Nowhere P t → Nowhere P (Trail.more b t)

pub data Sited (base c : Addr) (t : Trail Site) : check.Answered CallSite → Type 0 where
  covered : {x : Site} → First (Covers c) t x → Fits base x → Sited base c t (Ok (resolved base x))
  none : Nowhere (Covers c) t → Sited base c t (Err Refusal.NoSite)

-- what an answer tells: a header was read, and y is the first of its sites that covers the counter, with a pad and an action that fit
pub record Answered (s : List ℕ) (function c : Addr) (y : CallSite) : Type 0 where
  pub header : Header
  pub read : header_of s function ≡ Ok header
  pub site : Sited header.base c (sites_from s header header.start.0) (Ok y)
