-- Laws of addresses, offsets, sums that must fit and prel31. Assumes nothing.
use Rattle.std.proofs.Common.{◌≡◌, ℕ, ◌+◌, ◌-◌, ◌%◌, ◌^◌, ◌<◌, ◌≤◌, Bool, true, false, ltb, refl, ap, ◌∙◌, arith, ltb-false, ltb-true, le-ltb, lt-ltb, le-leb, Some, None}
use borrow.Author.Tests.{lt-leb}
use Rattle.section.specs.Pick.{pick}
use Rattle.section.specs.Place.{addr, off, address_of, offset_of}
use Rattle.section.specs.Sum.{plus_of}
use Rattle.section.specs.Prel31.{Distance, signed31, prel31_of, Ranged}
use Rattle.section.specs.declared.Addr.{Addr}
use Rattle.section.specs.declared.Off.{Off}
use Rattle.section.proofs.Picks.{by_test}

module _ (s : Addr) (len : ℕ) (a : Addr) where
  pub offset_in : s.0 ≤ a.0 → a.0 - s.0 < len → offset_of s len a ≡ Some (off (a.0 - s.0))
  unfolding offset_of
  offset_in h g = simp (le-ltb _ _ h, lt-ltb _ _ g)

  pub offset_past : s.0 ≤ a.0 → len ≤ a.0 - s.0 → offset_of s len a ≡ None
  unfolding offset_of
  offset_past h g = simp (le-ltb _ _ h, le-ltb _ _ g)

  pub offset_below : a.0 < s.0 → offset_of s len a ≡ None
  unfolding offset_of
  offset_below h = simp (lt-ltb _ _ h)

  -- an offset that was found lies in the section
  pub offset_inside : (o : Off) → offset_of s len a ≡ Some o → o.0 < len
  offset_inside o e =
      by_test (ltb a.0 s.0)
      (λ t. let h = offset_below (ltb-true _ _ t) in let z : ◌≡◌ {A = ℕ} 0 1 = cc in absurd (omega arith))
      (λ t. let b = ltb-false a.0 s.0 t in
      by_test (ltb (a.0 - s.0) len)
      (λ u. let h = offset_in b (ltb-true _ _ u) in let k : a.0 - s.0 ≡ o.0 = cc in omega (arith, ltb-true (a.0 - s.0) len u))
      (λ u. let h = offset_past b (ltb-false _ _ u) in let z : ◌≡◌ {A = ℕ} 0 1 = cc in absurd (omega arith)))

  -- the two conversions are inverses: the address of an offset that was found is the one it was found for ..
  pub address_back : a.0 < 2 ^ 32 → (o : Off) → offset_of s len a ≡ Some o → address_of s o ≡ a
  address_back h o e =
      by_test (ltb a.0 s.0)
      (λ t. let g = offset_below (ltb-true _ _ t) in let z : ◌≡◌ {A = ℕ} 0 1 = cc in absurd (omega arith))
      (λ t. let b = ltb-false a.0 s.0 t in
      by_test (ltb (a.0 - s.0) len)
      (λ u. let g = offset_in b (ltb-true _ _ u) in let k : a.0 - s.0 ≡ o.0 = cc in ap addr (sum k b))
      (λ u. let g = offset_past b (ltb-false _ _ u) in let z : ◌≡◌ {A = ℕ} 0 1 = cc in absurd (omega arith)))
    where
      sum : a.0 - s.0 ≡ o.0 → s.0 ≤ a.0 → (s.0 + o.0) % 2 ^ 32 ≡ a.0
      sum k b = omega (arith, h, k, b)

-- .. and an offset inside a section has an address, which leads back to it
pub offset_back : (s : Addr) (len : ℕ) (o : Off) → s.0 + len ≤ 2 ^ 32 → o.0 < len → offset_of s len (address_of s o) ≡ Some o
offset_back s len o h g =
    let e : (s.0 + o.0) % 2 ^ 32 ≡ s.0 + o.0 = omega arith in
    let d : s.0 + o.0 - s.0 ≡ o.0 = omega arith in
    rw e (offset_in s len (addr (s.0 + o.0)) (omega arith) (omega arith) ∙ ap (λ (n : ℕ). Some (off n)) d)

-- ---- sums that must fit
pub plus_in : (a : Addr) (n : ℕ) → a.0 + n ≤ 0xFFFFFFFF → plus_of a n ≡ Some (addr (a.0 + n))
unfolding plus_of
plus_in a n h = simp (le-leb _ _ h)

pub plus_over : (a : Addr) (n : ℕ) → 0xFFFFFFFF < a.0 + n → plus_of a n ≡ None
unfolding plus_of
plus_over a n h = simp (lt-leb _ _ h)

-- ---- prel31
-- the signed reading of 31 bits is in range
pub signed31_ranged : (n : ℕ) → n < 2 ^ 31 → Ranged (signed31 n)
signed31_ranged n h = go (ltb n (2 ^ 30)) refl
  where
    go : (t : Bool) → ltb n (2 ^ 30) ≡ t → Ranged (pick t (Distance.up n) (Distance.down (2 ^ 31 - n)))
    go true e = Ranged.up (ltb-true _ _ e)
    go false e = let g = ltb-false n (2 ^ 30) e in Ranged.down {n = 2 ^ 31 - n} (omega arith) (omega arith)

-- raised by 2 ^ 30 modulo 2 ^ 31 and lowered again modulo 2 ^ 32, the 31 bits are the signed distance
pub prel31_raised : (w : ℕ) (p : Addr) → prel31_of w p ≡ addr ((p.0 + ((w % 2 ^ 31 + 2 ^ 30) % 2 ^ 31 + (2 ^ 32 - 2 ^ 30)) % 2 ^ 32) % 2 ^ 32)
unfolding prel31_of
prel31_raised w p =
    by_test (ltb (w % 2 ^ 31) (2 ^ 30))
    (λ t.
    let h = ltb-true (w % 2 ^ 31) (2 ^ 30) t in
    let e : ((w % 2 ^ 31 + 2 ^ 30) % 2 ^ 31 + (2 ^ 32 - 2 ^ 30)) % 2 ^ 32 ≡ w % 2 ^ 31 = omega arith in
    rw (t, e) refl)
    (λ t.
    let h = ltb-false (w % 2 ^ 31) (2 ^ 30) t in
    let e : ((w % 2 ^ 31 + 2 ^ 30) % 2 ^ 31 + (2 ^ 32 - 2 ^ 30)) % 2 ^ 32 ≡ 2 ^ 32 - (2 ^ 31 - w % 2 ^ 31) = omega arith in
    rw (t, e) refl)

-- a target is an address
pub prel31_address : (w : ℕ) (p : Addr) → (prel31_of w p).0 < 2 ^ 32
prel31_address w p = rw (prel31_raised w p) (omega arith)

-- the paper's two targets
pub prel31_cases : (prel31_of 0x7FFFFFFF (addr 0x1000) ≡ addr 0x0FFF) × (prel31_of 0x40000000 (addr 0x40000000) ≡ addr 0)
unfolding prel31_of
prel31_cases = (refl, refl)
