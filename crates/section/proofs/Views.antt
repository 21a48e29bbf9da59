-- Laws of views. The borrow checker's rule for `&s[a..e]` gives r with the two equations that the laws take, each by `refl`. Assumes nothing.
use Rattle.std.proofs.Common.{◌≡◌, ℕ, ◌+◌, ◌-◌, ◌<◌, ◌≤◌, List, length, take, drop, sym, refl, ◌∙◌, add_comm, arith, length-drop, length-take-le, Bor, le-leb}
use borrow.Author.Tests.{lt-leb}
use Rattle.section.specs.View.{Spot, bytes_of, Part, part_from, suffix_from}

-- the contract leaves one answer: two such parts have the same pointer and the same bytes
pub part_one : {s r q : Bor (List ℕ)} {p : Spot} → Part s r p → Part s q p → (r.ref_ptr ≡ q.ref_ptr) × (r.now ≡ q.now)
part_one a b = (a.place ∙ sym b.place, a.bytes ∙ sym b.bytes)

module _ (s r : Bor (List ℕ)) where
  -- any part, at the numbers that a definition gives
  pub view_made : (a n e : ℕ) (p : Spot) → p ≡ (a, n) → e - a ≡ n → r.ref_ptr ≡ (s.ref_ptr.0, a + s.ref_ptr.1) → r.now ≡ take (e - a) (drop a s.now) → Part s r p
  view_made a n e p k m f q = rw k (record { place = f ∙ simp (add_comm a); bytes = q ∙ simp m })

  pub empty_made : r.ref_ptr ≡ (s.ref_ptr.0, 0 + s.ref_ptr.1) → r.now ≡ take 0 (drop 0 s.now) → Part s r (0, 0)
  empty_made = view_made 0 0 0 (0, 0) refl refl

-- ---- where the parts lie
pub spot_in : (len a n : ℕ) → a + n ≤ len → part_from len a n ≡ (a, n)
unfolding part_from
spot_in len a n h = simp (le-leb _ _ h)

pub spot_out : (len a n : ℕ) → len < a + n → part_from len a n ≡ (0, 0)
unfolding part_from
spot_out len a n h = simp (lt-leb _ _ h)

pub suffix_in : (len a : ℕ) → a ≤ len → suffix_from len a ≡ (a, len - a)
unfolding suffix_from
suffix_in len a h = simp (le-leb _ _ h)

pub suffix_out : (len a : ℕ) → len < a → suffix_from len a ≡ (0, 0)
unfolding suffix_from
suffix_out len a h = simp (lt-leb _ _ h)

-- ---- how long they are
pub bytes_length : (s : List ℕ) (a n : ℕ) → a + n ≤ length s → length (bytes_of s (a, n)) ≡ n
bytes_length s a n h =
    let k : n ≤ length s - a = omega arith in
    length-take-le n (drop a s) (rw (length-drop a s) k)
