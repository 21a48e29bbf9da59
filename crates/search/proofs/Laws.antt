-- What the search answers: on any index an entry that begins at or below the counter, with at most 14 function words read; and on an index whose
-- functions rise, the one entry whose stretch holds the counter, or that there is none. Assumes nothing.
use Rattle.std.proofs.Common.{Ok, Err}
use Prim.Native.Nat.{ℕ, zero, suc, ◌+◌, ◌-◌, ◌*◌, ◌/◌, ◌^◌, ◌≤◌, ◌<◌}
use mathlib.Core.Path.{◌≡◌, refl, sym, ap, ◌∙◌}
use mathlib.Core.List.{List}
use mathlib.Core.Bool.{Bool, true, false}
use native.Mathlib.Omega.{arith}
use native.Mathlib.Nat.{pow-suc}
use lib.ListN.{length}
use lib.Dec.{leb, ltb, eqb}
use borrow.Author.Tests.{ltb-true, ltb-false, leb-true, leb-false, eqb-true, eqb-false}
use Rattle.std.specs.Result.{result_and}
use Rattle.section.specs.Pick.{pick}
use Rattle.section.specs.Number.{number}
use Rattle.section.specs.Rule.{index_rule, IndexSection}
use Rattle.section.specs.Check.{Answered, Check, fine, and_then}
use Rattle.section.specs.declared.Addr.{Addr}
use Rattle.section.specs.declared.Refusal.{Refusal}
use Rattle.section.proofs.Picks.{by_test, pick_each}
use Rattle.section.proofs.Checks.{fault_not}
use Rattle.section.proofs.Rules.{index_exact, index_fault}
use Rattle.entry.specs.Index.{entries, function_of, function_at}
use Rattle.entry.specs.Read.{FunctionGives}
use Rattle.entry.proofs.Laws.{function_sound, function_gives}
use Rattle.image.specs.Image.{Image, entry_at, led_by}
use Rattle.image.proofs.Laws.{entry_is_led}
use Rattle.search.specs.Search.{hit, side, halve_from, halve, search_of}
use Rattle.search.specs.Reasons.{NoHit}
use Rattle.search.specs.Rising.{Begins, Rising, Holds, Located, SearchGives}
use Rattle.search.specs.declared.Hit.{Hit}
use Rattle.search.proofs.Ways.{search_empty, search_below, search_halve}

-- ---- what holds of each way on holds of the answer
on_each : (P : Answered Hit → Type 0) (r : Answered Addr) (go : Addr → Answered Hit)
    → ((f : Addr) → r ≡ Ok f → P (go f)) → ((x : Refusal) → r ≡ Err x → P (Err x)) → P (and_then r go)
on_each P (Ok f) go h g = h f refl
on_each P (Err x) go h g = g x refl

side_each : (P : Answered Hit → Type 0) (t : Bool) (low : ℕ) (f : Addr) (m : ℕ) (g : Addr) (high : ℕ) (go : ℕ → Addr → ℕ → Answered Hit)
    → (t ≡ true → P (go m g high)) → (t ≡ false → P (go low f m)) → P (side t low f m g high go)
side_each P true low f m g high go p q = p refl
side_each P false low f m g high go p q = q refl

module _ (xs : List ℕ) (a counter : Addr) where
  -- ---- on any index
  -- the function of an entry was read, and stands at or below the counter
  abbrev Begun : ℕ → Addr → Type 0
  Begun e f = (function_at xs a e ≡ Ok f) × (f.0 ≤ counter.0)

  -- an entry that is found lies in low .. high, and begins, and at most so many words were read; a refusal has its reason
  abbrev Within : ℕ → ℕ → ℕ → Answered Hit → Type 0
  Within low high most (Ok h) = (low ≤ h.entry) × (h.entry < high) × (h.probes ≤ most) × Begun h.entry h.function
  Within low high most (Err r) = NoHit (length xs) a r

  widen : (low high low' high' most most' : ℕ) (r : Answered Hit) → low ≤ low' → high' ≤ high → most' ≤ most → Within low' high' most' r → Within low high most r
  widen low high low' high' most most' (Ok h) p q m w = (omega arith, omega arith, omega arith, w.3)
  widen low high low' high' most most' (Err r) p q m w = w

  -- a function word that is there is refused with 3
  refused_why : IndexSection (length xs) a → (k : ℕ) → k < entries xs → (x : Refusal) → function_at xs a k ≡ Err x → NoHit (length xs) a x
  refused_why s k h x e = go x (rw e at (function_gives xs a k s))
    where
      go : (x : Refusal) → FunctionGives xs a k (Err x) → NoHit (length xs) a x
      go x (FunctionGives.corrupt _) = NoHit.corrupt
      go x (FunctionGives.truncated g) = absurd (omega arith)

  -- so many turns as the width has bits: m words more are read at most
  within_from : IndexSection (length xs) a → (k m low : ℕ) (f : Addr) (high probes : ℕ) → low < high → high ≤ entries xs → high ≤ low + 2 ^ m → high ≤ low + k + 1 → Begun low f
      → Within low high (probes + m) (halve_from k xs a counter low f high probes)
  unfolding halve_from
  within_from s zero m low f high probes h i p q b = (omega arith, omega arith, omega arith, b)
  within_from s (suc k) zero low f high probes h i p q b =
      let n : high - low ≤ 1 = omega arith in
      pick_each (Within low high (probes + 0)) (ltb 1 (high - low)) _ (Ok (hit low f probes))
      (λ t. absurd (omega (arith, ltb-true 1 (high - low) t)))
      (λ t. (omega arith, omega arith, omega arith, b))
  within_from s (suc k) (suc m) low f high probes h i p q b =
      let mid = (low + high) / 2 in
      let e : 2 ^ suc m ≡ 2 ^ m * 2 = pow-suc 2 m in
      pick_each (Within low high (probes + suc m)) (ltb 1 (high - low)) _ (Ok (hit low f probes))
      (λ t.
      let n = ltb-true 1 (high - low) t in
      on_each (Within low high (probes + suc m)) (function_at xs a mid) _
      (λ g r. side_each (Within low high (probes + suc m)) (leb g.0 counter.0) low f mid g high _
      (λ u. widen low high mid high (probes + suc m) (probes + 1 + m) (halve_from k xs a counter mid g high (probes + 1)) (omega arith) (omega arith) (omega arith)
      (within_from s k m mid g high (probes + 1) (omega arith) (omega arith) (omega arith) (omega arith) (r, leb-true g.0 counter.0 u)))
      (λ u. widen low high low mid (probes + suc m) (probes + 1 + m) (halve_from k xs a counter low f mid (probes + 1)) (omega arith) (omega arith) (omega arith)
      (within_from s k m low f mid (probes + 1) (omega arith) (omega arith) (omega arith) (omega arith) b)))
      (λ x r. refused_why s mid (omega arith) x r))
      (λ t. (omega arith, omega arith, omega arith, b))

  -- an index has at most 2 ^ 13 entries
  within_halve : IndexSection (length xs) a → (high : ℕ) (f : Addr) → 0 < high → high ≤ entries xs → high ≤ 2 ^ 13 → Begun 0 f → Within 0 high 14 (halve xs a counter 0 f high 1)
  unfolding halve
  within_halve s high f h i g b = within_from s (high - 0) 13 0 f high 1 h i (omega arith) (omega arith) b

  within : Within 0 (entries xs) 14 (search_of xs a counter)
  unfolding search_of
  within = go (index_rule (length xs) a) refl
    where
      go : (x : Check) → index_rule (length xs) a ≡ x
          → Within 0 (entries xs) 14 (result_and x (pick (eqb (entries xs) 0) (Err Refusal.NoEntry) (and_then (function_at xs a 0) (λ f. pick (ltb counter.0 f.0) (Err Refusal.NoEntry) (halve xs a counter 0 f (entries xs) 1)))))
      go fine e =
          let s = (index_exact (length xs) a).0 e in
          let m = s.section.short in
          pick_each (Within 0 (entries xs) 14) (eqb (entries xs) 0) _ _ (λ t. NoHit.no_entry)
          (λ t. let n = eqb-false (entries xs) 0 t in
          on_each (Within 0 (entries xs) 14) (function_at xs a 0) _
          (λ f r. pick_each (Within 0 (entries xs) 14) (ltb counter.0 f.0) _ _ (λ u. NoHit.no_entry)
          (λ u. within_halve s (entries xs) f (omega arith) (omega arith) (omega arith) (r, ltb-false counter.0 f.0 u)))
          (λ x r. refused_why s 0 (omega arith) x r))
      go (Err r) e = rw (index_fault (length xs) a r e) (NoHit.section (fault_not (index_rule (length xs) a) r (index_exact (length xs) a) e))

  -- any entry that is found
  pub found_begins : (h : Hit) → search_of xs a counter ≡ Ok h → Begins xs a counter h
  found_begins h e =
      let w : Within 0 (entries xs) 14 (Ok h) = rw e at within in
      record { inside = w.1; read = w.3.0; below = w.3.1; few = w.2 }

  -- why a search is refused
  pub search_why : (r : Refusal) → search_of xs a counter ≡ Err r → NoHit (length xs) a r
  search_why r e = rw e at within

-- an entry that is found leads on by the function that was read on the way
pub found_led : (i : Image) (counter : Addr) (h : Hit) → search_of i.index i.index_at counter ≡ Ok h → led_by i h.entry h.function ≡ entry_at i h.entry
found_led i counter h e = sym (entry_is_led i h.entry h.function (found_begins i.index i.index_at counter h e).read)

-- ---- on rising functions
module _ (xs : List ℕ) (a counter : Addr) (up : Rising xs a) where
  abbrev F : ℕ → ℕ
  F k = (function_of xs a k).0

  -- each is below every later one
  above : (j k : ℕ) → j + 1 + k < entries xs → F j < F (j + 1 + k)
  above j zero h =
      let e : j + 1 + 0 ≡ j + 1 = omega arith in
      rw e (up.rises j (omega arith))
  above j (suc k) h =
      let e : j + 1 + suc k ≡ j + 1 + k + 1 = omega arith in
      rw e (omega (arith, above j k (omega arith), up.rises (j + 1 + k) (omega arith)))

  first : (j : ℕ) → j < entries xs → F 0 ≤ F j
  first zero h = omega arith
  first (suc j) h =
      let e : 0 + 1 + j ≡ suc j = omega arith in
      let g = rw e at (above 0 j (omega arith)) in
      omega (arith, g)

  -- ---- the stretch that holds a counter is that of the last function at or below it
  last : (k : ℕ) → Holds xs a counter k → (j : ℕ) → j < entries xs → F j ≤ counter.0 → j ≤ k
  last k p j h b =
      by_test (ltb k j)
      (λ t.
      let l = ltb-true k j t in
      let n = p.ends (omega arith) in
      by_test (ltb (k + 1) j)
      (λ u.
      let m = ltb-true (k + 1) j u in
      let e : k + 1 + 1 + (j - (k + 2)) ≡ j = omega arith in
      let g = rw e at (above (k + 1) (j - (k + 2)) (omega arith)) in
      absurd (omega (arith, g)))
      (λ u.
      let m = ltb-false (k + 1) j u in
      let e : k + 1 ≡ j = omega arith in
      let g = rw e at n in
      absurd (omega (arith, g))))
      (λ t. ltb-false k j t)

  only_one : (j k : ℕ) → Holds xs a counter j → Holds xs a counter k → j ≡ k
  only_one j k p q = let x = last k q j p.inside p.starts in let y = last j p k q.inside q.starts in omega arith

  -- ---- the halving keeps function low ≤ counter < function high
  abbrev Stretch : Answered Hit → Type 0
  Stretch (Ok h) = Holds xs a counter h.entry
  Stretch (Err r) = ⊥

  sound_at : (k : ℕ) → k < entries xs → function_at xs a k ≡ Ok (function_of xs a k)
  sound_at k h = function_sound xs a k up.section h (up.sound k h)

  ended : (low high : ℕ) → low < high → high ≤ entries xs → high ≤ low + 1 → F low ≤ counter.0 → (high < entries xs → counter.0 < F high) → Holds xs a counter low
  ended low high h n s b g =
      let e : high ≡ low + 1 = omega arith in
      record { inside = omega arith; starts = b; ends = λ l. rw e at (g (omega arith)) }

  halving : (k low : ℕ) (f : Addr) (high probes : ℕ) → low < high → high ≤ entries xs → high ≤ low + k + 1 → F low ≤ counter.0 → (high < entries xs → counter.0 < F high)
      → Stretch (halve_from k xs a counter low f high probes)
  unfolding halve_from
  halving zero low f high probes h n s b g = ended low high h n (omega arith) b g
  halving (suc k) low f high probes h n s b g =
      let mid = (low + high) / 2 in
      by_test (ltb 1 (high - low))
      (λ t.
      let w = ltb-true 1 (high - low) t in
      rw (t, sound_at mid (omega arith))
      (by_test (leb (F mid) counter.0)
      (λ u. rw u (halving k mid (function_of xs a mid) high (probes + 1) (omega arith) n (omega arith) (leb-true (F mid) counter.0 u) g))
      (λ u. rw u (halving k low f mid (probes + 1) (omega arith) (omega arith) (omega arith) b (λ l. leb-false (F mid) counter.0 u)))))
      (λ t. let w = ltb-false 1 (high - low) t in rw t (ended low high h n (omega arith) b g))

  halved : 0 < entries xs → F 0 ≤ counter.0 → Stretch (halve xs a counter 0 (function_of xs a 0) (entries xs) 1)
  unfolding halve
  halved h b = halving (entries xs - 0) 0 (function_of xs a 0) (entries xs) 1 h (omega arith) (omega arith) b (λ l. absurd (omega arith))

  -- ---- the theorem
  passes : index_rule (length xs) a ≡ fine
  passes = (index_exact (length xs) a).1 up.section

  located : (r : Answered Hit) → search_of xs a counter ≡ r → Stretch r → Located xs a counter (search_of xs a counter)
  located (Ok h) e s =
      let b = found_begins xs a counter h e in
      let q = sound_at h.entry b.inside in
      let r = b.read in
      let f : h.function ≡ function_of xs a h.entry = cc in
      record { entry = h.entry; probes = h.probes; found = e ∙ ap (λ (g : Addr). Ok (hit h.entry g h.probes)) f; few = b.few; covers = s; last = last h.entry s; only = λ j c. only_one j h.entry c s }
  located (Err r) e s = absurd s

  -- at or above the first function: the one entry whose stretch holds the counter
  finds : 0 < entries xs → F 0 ≤ counter.0 → Located xs a counter (search_of xs a counter)
  finds h b = located _ (search_halve xs a counter passes (λ z. omega arith) (function_of xs a 0) (sound_at 0 h) b) (halved h b)

  -- where an entry's stretch holds the counter the search finds it, and 2 is the answer where none does
  pub answers : SearchGives xs a counter (search_of xs a counter)
  answers =
      by_test (eqb (entries xs) 0)
      (λ z.
      let e = eqb-true (entries xs) 0 z in
      SearchGives.none (search_empty xs a counter passes e) (λ j c. absurd (omega arith)))
      (λ z.
      let n = eqb-false (entries xs) 0 z in
      by_test (ltb counter.0 (F 0))
      (λ t.
      let b = ltb-true counter.0 (F 0) t in
      SearchGives.none (search_below xs a counter passes n (function_of xs a 0) (sound_at 0 (omega arith)) b) (λ j c. omega (arith, b, first j c)))
      (λ t. SearchGives.located (finds (omega arith) (ltb-false counter.0 (F 0) t))))

-- the reasons of a search in the paper's numbers: 1, 2 or 3
pub hit_numbers : (len : ℕ) (a : Addr) (r : Refusal) → NoHit len a r → number r ≤ 3
hit_numbers len a r (NoHit.section _) = omega arith
hit_numbers len a r NoHit.no_entry = omega arith
hit_numbers len a r NoHit.corrupt = omega arith
