-- The words of a lent stack, at any address: a word partly or wholly outside is not there.
use Rattle.std.specs.Prelude.{ℕ, ◌+◌, List, length, nat_le, Option, Some, None}
use Rattle.std.specs.Option.{option_and_then}
use Rattle.section.specs.Pick.{pick}
use Rattle.section.specs.Digits.{bytes_at, digits}
use Rattle.section.specs.Place.{addr, offset_of}
use Rattle.section.specs.Word.{word_at}
use Rattle.section.specs.declared.Addr.{Addr}

-- the word at an address
unfoldable pub stack_word : List ℕ → Addr → ℕ → Option ℕ
stack_word st base at = option_and_then (λ o. word_at st o.0) (offset_of base (length st) (addr at))

-- the number of the eight bytes from o on, where all of them are there
unfoldable pub double_at : List ℕ → ℕ → Option ℕ
double_at st o = pick (nat_le (o + 8) (length st)) (Some (digits 256 (bytes_at st o) 8)) None

-- the double word at an address
unfoldable pub stack_double : List ℕ → Addr → ℕ → Option ℕ
stack_double st base at = option_and_then (λ o. double_at st o.0) (offset_of base (length st) (addr at))
