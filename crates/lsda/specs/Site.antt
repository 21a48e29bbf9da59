-- One call site: its fields, its sums, and the answer that it is.
use Rattle.std.specs.Prelude.{ℕ, ◌+◌, ◌≤◌, List, nat_le, nat_lt, ◌==◌, Ok, Option, Some, None}
use Rattle.std.specs.Option.{ok_or}
use Rattle.std.specs.Result.{result_and}
use Rattle.section.specs.Pick.{pick}
use Rattle.section.specs.Check.{Answered, Check, fine, and_then, need}
use Rattle.section.specs.Place.{addr}
use Rattle.section.specs.Sum.{plus_of}
use Rattle.section.specs.declared.Addr.{Addr}
use Rattle.section.specs.declared.Off.{Off}
use Rattle.section.specs.declared.Refusal.{Refusal}
use Rattle.pointer.specs.Pointer.{sized, pointer_of}
use Rattle.lsda.specs.Header.{reading}
use Rattle.lsda.specs.declared.Header.{Header}
use Rattle.lsda.specs.declared.Site.{Site}
use Rattle.lsda.specs.declared.CallSite.{CallSite}

-- ---- what is read
-- two values in a row, by an encoding each
unfoldable pub pair_at : List ℕ → ℕ → ℕ → ℕ → Answered (ℕ × ℕ × Off)
pair_at s e f at = reading (pointer_of s at e) (λ v p. reading (pointer_of s p.0 f) (λ w q. Ok (v, w, q)))

abbrev pub reading_pair : {X : Type 0} → Answered (ℕ × ℕ × Off) → (ℕ → ℕ → Off → Answered X) → Answered X
reading_pair r go = and_then r (λ x. go x.0 x.1 x.2)

-- base + start, then + length, must fit
unfoldable pub summed_of : Addr → ℕ → ℕ → ℕ → ℕ → Answered Site
summed_of base start size pad action =
    and_then (ok_or (plus_of base start) Refusal.Sum) (λ from.
    and_then (ok_or (plus_of from size) Refusal.Sum) (λ to.
    Ok (record { start = from; end = to; pad = pad; action = action })))

-- a call site and the place after it, that the table ends, or why there is none
abbrev pub SiteRead : Type 0
SiteRead = Answered (Option (Site × Off))

-- start, length and pad by the encoding, action by ULEB (0x01): all are read before any sum
unfoldable pub fields_at : List ℕ → Addr → ℕ → ℕ → SiteRead
fields_at s base e at =
    reading_pair (pair_at s e e at) (λ start size p.
    reading_pair (pair_at s e 0x01 p.0) (λ pad action next.
    and_then (summed_of base start size pad action) (λ x. Ok (Some (x, next)))))

-- what stands at a position: nothing more at or past the table's end
unfoldable pub site_at : List ℕ → Header → ℕ → SiteRead
site_at s h at = sized s (pick (nat_lt at h.end) (fields_at s h.base h.encoding at) (Ok None))

-- ---- the answer that it is
-- pad 0: no pad; else base + pad
abbrev pub pad_of : Addr → ℕ → Option Addr
pad_of base p = pick (p == 0) None (Some (addr (base.0 + p)))

-- action 0: none; else action + 1
abbrev pub action_of : ℕ → Option ℕ
action_of a = pick (a == 0) None (Some (a + 1))

-- which must fit
abbrev pub pad_fits : Option Addr → Check
pad_fits None = fine
pad_fits (Some a) = need (nat_le a.0 0xFFFFFFFF) Refusal.Sum

abbrev pub action_fits : Option ℕ → Check
action_fits None = fine
action_fits (Some n) = need (nat_le n 0xFFFFFFFF) Refusal.Sum

-- the pad is tested before the action
unfoldable pub fits_of : Addr → Site → Check
fits_of base x = result_and (pad_fits (pad_of base x.pad)) (action_fits (action_of x.action))

abbrev pub call_site : Site → Option Addr → Option ℕ → CallSite
call_site x pad action = record { start = x.start; end = x.end; pad = pad; action = action }

abbrev pub resolved : Addr → Site → CallSite
resolved base x = call_site x (pad_of base x.pad) (action_of x.action)

unfoldable pub settled_of : Addr → Site → Answered CallSite
settled_of base x = result_and (fits_of base x) (Ok (resolved base x))

-- its pad and its action alone, each where it fits
unfoldable pub settled_pad : Addr → ℕ → Answered (Option Addr)
settled_pad base p = result_and (pad_fits (pad_of base p)) (Ok (pad_of base p))

unfoldable pub settled_action : ℕ → Answered (Option ℕ)
settled_action a = result_and (action_fits (action_of a)) (Ok (action_of a))

-- ---- what fits, in words
pub data PadIn : Option Addr → Type 0 where
  none : PadIn None
  at : {a : Addr} → a.0 ≤ 0xFFFFFFFF → PadIn (Some a)

pub data ActionIn : Option ℕ → Type 0 where
  none : ActionIn None
  record_in : {n : ℕ} → n ≤ 0xFFFFFFFF → ActionIn (Some n)

pub record Fits (base : Addr) (x : Site) : Type 0 where
  pub pad : PadIn (pad_of base x.pad)
  pub action : ActionIn (action_of x.action)
