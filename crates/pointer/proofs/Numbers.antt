-- Laws of the numbers that are read, over the base and the number of digits. Assumes nothing.
use Rattle.std.proofs.Common.{◌≡◌, ℕ, suc, ◌+◌, ◌-◌, ◌*◌, ◌/◌, ◌^◌, ◌<◌, ◌≤◌, List, length, refl, ap, subst, ◌∙◌, pow-suc, mul-add, add-one, arith, leb, ltb, le-leb, lt-ltb, le-ltb, leb-true, ltb-true, Ok, Err}
use lib.Dec.{lit<}
use borrow.Author.Tests.{lt-leb}
use Rattle.section.specs.Check.{Answered, and_then}
use Rattle.section.specs.declared.Refusal.{Refusal}
use Rattle.section.specs.Digits.{bytes_at, digits, End}
use Rattle.section.specs.Place.{off}
use Rattle.section.proofs.Digits.{below}
use Rattle.section.proofs.Ends.{end_each}
use Rattle.section.proofs.Picks.{pick_each, pick_both}
use Rattle.pointer.specs.declared.number.Number.{Number}
use Rattle.pointer.specs.Number.{found, ended, leb_of, fixed_of, unsigned_of, signed_of, Bounded}
use Rattle.pointer.specs.Reads.{ReadsOn, NoLeb}

-- what a reader holds when it has read n digits in base b
pub found_is : (b : ℕ) (s : List ℕ) (at n : ℕ) {v h p : ℕ}
    → v ≡ digits b (bytes_at s at) n → h ≡ b ^ n / 2 → p ≡ at + n → ◌≡◌ {A = Number} (record { value = v; half = h; next = off p }) (found b s at n)
found_is b s at n v h p = rw (v, h, p)

-- a number lies below twice its half, and the place after it further on and not past the end
pub data NumberOn (at len : ℕ) : Answered Number → Type 0 where
  number : {n : Number} → Bounded n → at < n.next.0 → n.next.0 ≤ len → NumberOn at len (Ok n)
  refused : {r : Refusal} → NoLeb len r → NumberOn at len (Err r)

bounded_in : {at len : ℕ} (x : Answered Number) (n : Number) → NumberOn at len x → x ≡ Ok n → Bounded n
bounded_in (Ok m) n (NumberOn.number b p q) e = let k : m ≡ n = cc in subst Bounded k b
bounded_in (Err r) n (NumberOn.refused w) e = let z : ◌≡◌ {A = ℕ} 0 1 = cc in absurd (omega arith)

pub bounded : {at len : ℕ} (n : Number) → NumberOn at len (Ok n) → Bounded n
bounded n h = bounded_in (Ok n) n h refl

halves : (x p q : ℕ) → x < p → p ≡ q + q → x < p / 2 + p / 2
halves x p q h e = omega arith

module _ (s : List ℕ) (at : ℕ) where
  -- a digit or more in an even base
  found_on : (b c : ℕ) → 0 < b → b ≡ c + c → (k : ℕ) → at + suc k ≤ length s → NumberOn at (length s) (Ok (found b s at (suc k)))
  found_on b c pos e k h =
      NumberOn.number {n = found b s at (suc k)}
      (halves _ _ (b ^ k * c) (below b pos (bytes_at s at) (suc k)) (pow-suc b k ∙ ap (λ (x : ℕ). b ^ k * x) e ∙ mul-add (b ^ k) c c))
      (omega arith)
      h

  pub leb_on : NumberOn at (length s) (leb_of s at)
  unfolding leb_of ended
  leb_on =
      end_each (bytes_at s at) (length s - at) (λ (e : End). NumberOn at (length s) (ended s at e))
      (λ k h. rw (add-one k) (found_on 0x80 0x40 (lit< tt) refl k (omega arith)))
      (NumberOn.refused NoLeb.truncated)
      (NumberOn.refused NoLeb.value)

  pub fixed_on : (k : ℕ) → NumberOn at (length s) (fixed_of s at (suc k))
  unfolding fixed_of
  fixed_on k =
      pick_each (NumberOn at (length s)) (leb (at + suc k) (length s)) (Ok (found 0x100 s at (suc k))) (Err Refusal.Truncated)
      (λ t. found_on 0x100 0x80 (lit< tt) refl k (leb-true _ _ t))
      (λ _. NumberOn.refused NoLeb.truncated)

  pub leb_bounded : (n : Number) → leb_of s at ≡ Ok n → Bounded n
  leb_bounded n e = bounded_in _ n leb_on e

  pub fixed_bounded : (k : ℕ) (n : Number) → fixed_of s at (suc k) ≡ Ok n → Bounded n
  fixed_bounded k n e = bounded_in _ n (fixed_on k) e

-- ---- one law for each way to an answer
module _ (s : List ℕ) (at n : ℕ) where
  pub fixed_in : at + n ≤ length s → fixed_of s at n ≡ Ok (found 0x100 s at n)
  unfolding fixed_of
  fixed_in h = simp (le-leb _ _ h)

  pub fixed_out : length s < at + n → fixed_of s at n ≡ Err Refusal.Truncated
  unfolding fixed_of
  fixed_out h = simp (lt-leb _ _ h)

module _ (x : Number) where
  pub unsigned_in : x.value < 2 ^ 32 → unsigned_of x ≡ Ok (x.value, x.next)
  unfolding unsigned_of
  unsigned_in l = simp (lt-ltb x.value (2 ^ 32) l)

  pub unsigned_over : 2 ^ 32 ≤ x.value → unsigned_of x ≡ Err Refusal.Value
  unfolding unsigned_of
  unsigned_over l = simp (le-ltb x.value (2 ^ 32) l)

  pub plus_in : x.value < x.half → x.value < 2 ^ 31 → signed_of x ≡ Ok (x.value, x.next)
  unfolding signed_of
  plus_in l m = simp (lt-ltb x.value x.half l, lt-ltb x.value (2 ^ 31) m)

  pub plus_over : x.value < x.half → 2 ^ 31 ≤ x.value → signed_of x ≡ Err Refusal.Value
  unfolding signed_of
  plus_over l m = simp (lt-ltb x.value x.half l, le-ltb x.value (2 ^ 31) m)

  -- the code takes the half off first
  taken : x.half ≤ x.value → x.half + x.half - x.value ≡ x.half - (x.value - x.half)
  taken l = omega arith

  pub minus_in : x.half ≤ x.value → x.half - (x.value - x.half) ≤ 2 ^ 31 → signed_of x ≡ Ok (2 ^ 32 - (x.half - (x.value - x.half)), x.next)
  unfolding signed_of
  minus_in l m = rw (taken l) (simp (le-ltb x.value x.half l, le-leb (x.half - (x.value - x.half)) (2 ^ 31) m))

  pub minus_over : x.half ≤ x.value → 2 ^ 31 < x.half - (x.value - x.half) → signed_of x ≡ Err Refusal.Value
  unfolding signed_of
  minus_over l m = rw (taken l) (simp (le-ltb x.value x.half l, lt-leb (x.half - (x.value - x.half)) (2 ^ 31) m))

-- a refusal is handed on
pub unsigned_refused : (r : Refusal) → and_then (Err r) unsigned_of ≡ Err r
unsigned_refused r = refl

pub signed_refused : (r : Refusal) → and_then (Err r) signed_of ≡ Err r
signed_refused r = refl

-- a value goes on as far as the number
module _ {at len : ℕ} where
  pub unsigned_on : (n : Answered Number) → NumberOn at len n → ReadsOn (NoLeb len) at len (and_then n unsigned_of)
  unfolding unsigned_of
  unsigned_on n (NumberOn.number {n = x} b p q) =
      pick_each (ReadsOn (NoLeb len) at len) (ltb x.value (2 ^ 32)) _ _ (λ t. ReadsOn.value (ltb-true x.value (2 ^ 32) t) p q) (λ _. ReadsOn.refused NoLeb.value)
  unsigned_on n (NumberOn.refused r) = ReadsOn.refused r

  pub signed_on : (n : Answered Number) → NumberOn at len n → ReadsOn (NoLeb len) at len (and_then n signed_of)
  unfolding signed_of
  signed_on n (NumberOn.number {n = x} b p q) =
      let P = ReadsOn (NoLeb len) at len in
      pick_both P (ltb x.value x.half) _ _
      (pick_each P (ltb x.value (2 ^ 31)) _ _ (λ t. let l = ltb-true x.value (2 ^ 31) t in ReadsOn.value (omega arith) p q) (λ _. ReadsOn.refused NoLeb.value))
      (pick_both P (leb (x.half + x.half - x.value) (2 ^ 31)) _ _ (ReadsOn.value (omega arith) p q) (ReadsOn.refused NoLeb.value))
  signed_on n (NumberOn.refused r) = ReadsOn.refused r
