-- The order of instruction bytes: words in rising order, inside a word byte 3 down to byte 0. Running out is the end.
use Rattle.std.specs.Prelude.{ℕ, ◌+◌, ◌-◌, ◌*◌, ◌/◌, ◌%◌, ◌≤◌, List, length, slice_index, nat_lt, Option, Some, None, Ok}
use Rattle.section.specs.Pick.{pick}
use Rattle.section.specs.Check.{Answered, and_then}
use Rattle.section.specs.Rule.{words_rule, WholeWords}

-- where byte number k of the instructions lies
abbrev pub place : ℕ → ℕ
place k = k / 4 * 4 + (3 - k % 4)

-- byte number k
abbrev pub instruction_byte : List ℕ → ℕ → ℕ
instruction_byte w k = slice_index w (place k)

-- what stands at a position: a byte, or none past the end
abbrev pub Byte : Type 0
Byte = Answered (Option ℕ)

unfoldable pub byte_of : List ℕ → ℕ → Byte
byte_of w k = and_then (words_rule (length w)) (λ _. Ok (pick (nat_lt k (length w)) (Some (instruction_byte w k)) None))

-- ---- a position in or just past words that pass
pub record WithinWords (w : List ℕ) (k : ℕ) : Type 0 where
  pub within : k ≤ length w
  pub words : WholeWords (length w)
