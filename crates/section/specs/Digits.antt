-- Numbers that bytes write as digits, the lowest first, and where a LEB ends. The bytes are f 0, f 1, ..: of a slice, of the
-- instructions of an entry, or of whatever else is read byte by byte.
use Rattle.std.specs.Prelude.{ℕ, zero, suc, ◌+◌, ◌*◌, ◌%◌, ◌^◌, List, nat_lt, slice_index}
use Rattle.section.specs.Pick.{pick}

-- the bytes of a list from a position on; past the end a byte counts as 0
abbrev pub bytes_at : List ℕ → ℕ → ℕ → ℕ
bytes_at s at i = slice_index s (at + i)

-- the sum of (f i mod b) · b ^ i, for each i below n
abbrev pub digits : ℕ → (ℕ → ℕ) → ℕ → ℕ
digits b f zero = 0
digits b f (suc n) = digits b f n + f n % b * b ^ n

-- how a LEB ends: after so many bytes, by the end of the data, or not within five bytes
pub data End : Type 0 where
  after : ℕ → End
  early long : End

-- where k bytes at or above 0x80 are passed, n are there and m more are looked at
unfoldable pub end_from : (ℕ → ℕ) → ℕ → ℕ → ℕ → End
end_from f n zero k = long
end_from f n (suc m) k = pick (nat_lt k n) (pick (nat_lt (f k) 0x80) (after (k + 1)) (end_from f n m (k + 1))) early

-- a LEB stops at the first byte below 0x80, and has at most five
unfoldable pub end_of : (ℕ → ℕ) → ℕ → End
end_of f n = end_from f n 5 0
