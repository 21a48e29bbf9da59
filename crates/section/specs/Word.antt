-- A little-endian word of a list of bytes.
use Rattle.std.specs.Prelude.{ℕ, ◌+◌, ◌*◌, ◌%◌, Bool, List, length, ◌==◌, nat_le, Option, Some, None}
use Rattle.section.specs.Pick.{pick}
use Rattle.section.specs.Digits.{bytes_at, digits}

abbrev pub le32 : ℕ → ℕ → ℕ → ℕ → ℕ
le32 a b c d = a + 0x100 * b + 0x10000 * c + 0x1000000 * d

-- the number of the four bytes from o on
unfoldable pub word : List ℕ → ℕ → ℕ
word xs o = digits 256 (bytes_at xs o) 4

-- the word at o, where all of it is there
unfoldable pub word_at : List ℕ → ℕ → Option ℕ
word_at xs o = pick (nat_le (o + 4) (length xs)) (Some (word xs o)) None

-- and 0 where it is not
unfoldable pub word_or_zero : List ℕ → ℕ → ℕ
word_or_zero xs o = pick (nat_le (o + 4) (length xs)) (word xs o) 0

abbrev pub is_aligned : ℕ → Bool
is_aligned o = o % 4 == 0
