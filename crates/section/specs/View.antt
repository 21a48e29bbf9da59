-- A part of a lent slice, with its place in memory.
use Rattle.std.specs.Prelude.{◌≡◌, ℕ, ◌+◌, ◌-◌, List, take, drop, nat_le}
use Rattle.std.specs.Borrow.{Bor}
use Rattle.section.specs.Pick.{pick}

-- a place in a slice: where a part begins, and how many bytes it has
abbrev pub Spot : Type 0
Spot = ℕ × ℕ

-- the bytes that stand there
abbrev pub bytes_of : List ℕ → Spot → List ℕ
bytes_of s p = take p.1 (drop p.0 s)

-- r is the part of s at a place: it stands in s's own memory, at the place, and has the bytes that stand there
pub record Part (s r : Bor (List ℕ)) (p : Spot) : Type 0 where
  pub place : r.ref_ptr ≡ (s.ref_ptr.0, s.ref_ptr.1 + p.0)
  pub bytes : r.now ≡ bytes_of s.now p

-- the n bytes from a on, of a slice of len bytes; the empty part at the start where they are not all there
unfoldable pub part_from : ℕ → ℕ → ℕ → Spot
part_from len a n = pick (nat_le (a + n) len) (a, n) (0, 0)

-- all from a on
unfoldable pub suffix_from : ℕ → ℕ → Spot
suffix_from len a = pick (nat_le a len) (a, len - a) (0, 0)
