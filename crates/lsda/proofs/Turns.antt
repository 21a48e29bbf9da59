-- The walk over the call sites: each site that is read leads on, below the end of the data, so that its trail goes a turn at a time. Assumes nothing.
use Prim.Native.Nat.{ℕ, zero, suc, ◌+◌, ◌<◌, ◌≤◌}
use mathlib.Core.Path.{◌≡◌, refl, ap, ◌∙◌}
use mathlib.Core.List.{List}
use mathlib.Core.Bool.{true, false}
use native.Mathlib.Omega.{arith}
use lib.ListN.{length}
use lib.Dec.{ltb}
use borrow.Author.Tests.{lt-ltb, le-ltb}
use Rattle.section.specs.Rule.{table_most}
use Rattle.std.proofs.Common.{Ok, Err, Some, None, Option}
use Rattle.std.specs.Option.{ok_or}
use Rattle.section.specs.Check.{Answered, and_then, on_answer}
use Rattle.section.specs.Sum.{plus_of}
use Rattle.section.specs.Walk.{Look, Trail, Upward}
use Rattle.section.specs.declared.Addr.{Addr}
use Rattle.section.specs.declared.Off.{Off}
use Rattle.section.specs.declared.Refusal.{Refusal}
use Rattle.section.proofs.Picks.{pick_both}
use Rattle.section.proofs.Walks.{trail_item, trail_done, trail_bad}
use Rattle.pointer.specs.Pointer.{pointer_of}
use Rattle.pointer.specs.Reads.{ReadsOn, NoPointer}
use Rattle.pointer.proofs.Laws.{pointer_on}
use Rattle.pointer.specs.Number.{Read}
use Rattle.pointer.proofs.Laws.{too_long, sized_is, sized_each}
use Rattle.lsda.specs.Header.{reading}
use Rattle.lsda.specs.Site.{pair_at, reading_pair, summed_of, SiteRead, fields_at, site_at, settled_of}
use Rattle.lsda.specs.Sites.{look_of, site_look, sites_from, covers_of, find_in}
use Rattle.lsda.specs.Reasons.{Faulty}
use Rattle.lsda.specs.declared.Header.{Header}
use Rattle.lsda.specs.declared.Site.{Site}

-- what holds of each way on from a read holds of what is made of it
pub on_read_lem : {X : Type 0} (P : X → Type 0) {Why : Refusal → Type 0} {at len : ℕ} (r : Read) (stop : Refusal → X) (go : ℕ → Off → X)
    → ReadsOn Why at len r → ((x : Refusal) → Why x → P (stop x)) → ((v : ℕ) (p : Off) → at < p.0 → p.0 ≤ len → P (go v p)) → P (on_answer r (λ x. go x.0 x.1) stop)
on_read_lem P r stop go (ReadsOn.value {v = v} {next = p} f a b) w g = g v p a b
on_read_lem P r stop go (ReadsOn.refused {r = x} y) w g = w x y

-- and where a refusal stays one
pub reading_lem : {X : Type 0} (P : Answered X → Type 0) {Why : Refusal → Type 0} {at len : ℕ} (r : Read) (go : ℕ → Off → Answered X)
    → ReadsOn Why at len r → ((x : Refusal) → Why x → P (Err x)) → ((v : ℕ) (p : Off) → at < p.0 → p.0 ≤ len → P (go v p)) → P (reading r go)
reading_lem P r go (ReadsOn.value {v = v} {next = p} f a b) w g = g v p a b
reading_lem P r go (ReadsOn.refused {r = x} y) w g = w x y

module _ (s : List ℕ) where
  -- ---- a site leads on, or is refused for a reason
  data PairOn (at : ℕ) : Answered (ℕ × ℕ × Off) → Type 0 where
    two : {v w : ℕ} {p : Off} → at < p.0 → p.0 ≤ length s → PairOn at (Ok (v, w, p))
    refused : {r : Refusal} → NoPointer (length s) r → PairOn at (Err r)

  pair_on : (e f at : ℕ) → PairOn at (pair_at s e f at)
  unfolding pair_at
  pair_on e f at =
      reading_lem (PairOn at) (pointer_of s at e) _ (pointer_on s at e) (λ x w. PairOn.refused w)
      (λ v p a b. reading_lem (PairOn at) (pointer_of s p.0 f) _ (pointer_on s p.0 f) (λ x w. PairOn.refused w)
      (λ w q c d. PairOn.two (omega arith) d))

  pub data SiteOn (at : ℕ) : SiteRead → Type 0 where
    site : {x : Site} {next : Off} → at < next.0 → at < length s → SiteOn at (Ok (Some (x, next)))
    done : SiteOn at (Ok None)
    refused : {r : Refusal} → Faulty (length s) r → SiteOn at (Err r)

  pair_lem : {at : ℕ} (from : ℕ) (r : Answered (ℕ × ℕ × Off)) (go : ℕ → ℕ → Off → SiteRead)
      → PairOn from r → ((v w : ℕ) (p : Off) → from < p.0 → p.0 ≤ length s → SiteOn at (go v w p)) → SiteOn at (reading_pair r go)
  pair_lem from r go (PairOn.two {v = v} {w = w} {p = p} a b) g = g v w p a b
  pair_lem from r go (PairOn.refused y) g = SiteOn.refused (Faulty.unread y)

  sum_lem : {at : ℕ} {X : Type 0} (o : Option X) (go : X → Answered Site) (on : Site → SiteRead) → ((a : X) → SiteOn at (and_then (go a) on)) → SiteOn at (and_then (and_then (ok_or o Refusal.Sum) go) on)
  sum_lem (Some a) go on g = g a
  sum_lem None go on g = SiteOn.refused Faulty.sum

  fields_on : (base : Addr) (e at : ℕ) → SiteOn at (fields_at s base e at)
  unfolding fields_at summed_of
  fields_on base e at =
      pair_lem at (pair_at s e e at) _ (pair_on e e at)
      (λ start size p a b. pair_lem p.0 (pair_at s e 0x01 p.0) _ (pair_on e 0x01 p.0)
      (λ pad action next c d. sum_lem (plus_of base start) _ _ (λ from. sum_lem (plus_of from size) _ _ (λ to. SiteOn.site (omega arith) (omega arith)))))

  pub site_on : (h : Header) (at : ℕ) → SiteOn at (site_at s h at)
  unfolding site_at
  site_on h at =
      sized_each s (SiteOn at) (λ l. SiteOn.refused (Faulty.unread (NoPointer.long l))) _
      (pick_both (SiteOn at) (ltb at h.end) _ _ (fields_on h.base h.encoding at) SiteOn.done)

  -- ---- one law for each way to a site
  module _ (h : Header) (at : ℕ) where
    pub site_long : table_most < length s → site_at s h at ≡ Err Refusal.Section
    unfolding site_at
    site_long l = too_long s _ l

    pub site_past : length s ≤ table_most → h.end ≤ at → site_at s h at ≡ Ok None
    unfolding site_at
    site_past l e = sized_is s _ l ∙ rw (le-ltb _ _ e)

    pub site_before : length s ≤ table_most → at < h.end → site_at s h at ≡ fields_at s h.base h.encoding at
    unfolding site_at
    site_before l e = sized_is s _ l ∙ rw (lt-ltb _ _ e)

  module _ (h : Header) where
    pub sites_upward : Upward (site_look s h) (length s)
    sites_upward p m a e = go (site_at s h p) (site_on h p) e
      where
        go : (x : SiteRead) → SiteOn p x → look_of x ≡ Look.item a m → (p < m) × (p < length s)
        go (Ok (Some (x, next))) (SiteOn.site u v) e = let k : next.0 ≡ m = cc in (omega arith, v)
        go (Ok None) o e = let z : ◌≡◌ {A = ℕ} 0 1 = cc in absurd (omega arith)
        go (Err r) o e = let z : ◌≡◌ {A = ℕ} 0 1 = cc in absurd (omega arith)

    -- ---- the trail from a position, by what is read there
    module _ (at : ℕ) where
      pub sites_done : site_at s h at ≡ Ok None → sites_from s h at ≡ Trail.end
      sites_done e = trail_done (site_look s h) (length s) at (ap look_of e)

      pub sites_refused : (r : Refusal) → site_at s h at ≡ Err r → sites_from s h at ≡ Trail.stop r
      sites_refused r e = trail_bad (site_look s h) (length s) at r (ap look_of e)

      module _ (x : Site) (next : Off) (e : site_at s h at ≡ Ok (Some (x, next))) where
        pub sites_more : sites_from s h at ≡ Trail.more x (sites_from s h next.0)
        sites_more = trail_item (site_look s h) (length s) sites_upward at x next.0 (ap look_of e)

        pub site_inside : (at < next.0) × (at < length s)
        site_inside = sites_upward at next.0 x (ap look_of e)

    -- what holds of every trail that is made of sites and of reasons to stop holds of this one
    pub sites_each : (P : Trail Site → Type 0) → P Trail.end → ((r : Refusal) → Faulty (length s) r → P (Trail.stop r)) → ((x : Site) (t : Trail Site) → P t → P (Trail.more x t))
        → (at : ℕ) → P (sites_from s h at)
    sites_each P end stop more at = from (suc (length s)) at (omega arith)
      where
        turn : (at : ℕ) (y : SiteRead) → site_at s h at ≡ y → SiteOn at y → ((n : ℕ) → at < n → at < length s → P (sites_from s h n)) → P (sites_from s h at)
        turn at y e (SiteOn.site {x = x} {next = n} a b) on = rw (sites_more at x n e) (more x _ (on n.0 a b))
        turn at y e SiteOn.done on = rw (sites_done at e) end
        turn at y e (SiteOn.refused {r = r} w) on = rw (sites_refused at r e) (stop r w)

        from : (k at : ℕ) → length s < at + k → P (sites_from s h at)
        from zero at l = turn at (site_at s h at) refl (site_on h at) (λ n a b. absurd (omega arith))
        from (suc k) at l = turn at (site_at s h at) refl (site_on h at) (λ n a b. from k n (omega arith))

-- ---- the search in a trail, a turn at a time
module _ (base c : Addr) where
  pub find_end : find_in base c Trail.end ≡ Err Refusal.NoSite
  unfolding find_in
  find_end = refl

  pub find_stop : (r : Refusal) → find_in base c (Trail.stop r) ≡ Err r
  unfolding find_in
  find_stop r = refl

  module _ (x : Site) (t : Trail Site) where
    pub find_here : covers_of c x ≡ true → find_in base c (Trail.more x t) ≡ settled_of base x
    unfolding find_in
    find_here e = rw e

    pub find_past : covers_of c x ≡ false → find_in base c (Trail.more x t) ≡ find_in base c t
    unfolding find_in
    find_past e = rw e
