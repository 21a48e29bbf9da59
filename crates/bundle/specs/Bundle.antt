-- The bundle: three sections, each after its u32 count, and then the end. Every test in the paper's order.
use Rattle.std.specs.Prelude.{ℕ, ◌+◌, ◌*◌, ◌/◌, List, Bool, length, nat_le, ◌==◌, Ok}
use Rattle.std.specs.Option.{ok_or}
use Rattle.std.specs.Result.{result_and}
use Rattle.section.specs.Check.{Answered, need, and_then}
use Rattle.section.specs.Rule.{index_most, table_most, index_rule, table_rule}
use Rattle.section.specs.Place.{addr, off}
use Rattle.section.specs.Word.{word, word_at}
use Rattle.section.specs.declared.Addr.{Addr}
use Rattle.section.specs.declared.Refusal.{Refusal}
use Rattle.bundle.specs.declared.Bundle.{Bundle}

-- 8,192 entries of 8 bytes and 16,384 words are the most
abbrev pub most_entries : ℕ
most_entries = index_most / 8

abbrev pub most_words : ℕ
most_words = table_most / 4

-- the largest bundle: three counts, two addresses, and both sections at their most
abbrev pub most_bytes : ℕ
most_bytes = 20 + index_most + table_most

-- a bundle, or why there is none
abbrev pub BundleRead : Type 0
BundleRead = Answered Bundle

-- a count: 18 where the bytes end before it
abbrev pub count_at : List ℕ → ℕ → Answered ℕ
count_at xs at = ok_or (word_at xs at) Refusal.Bundle

abbrev pub counted : List ℕ → ℕ → (ℕ → BundleRead) → BundleRead
counted xs at go = and_then (count_at xs at) go

-- a test, and its refusal
abbrev pub tested : Bool → Refusal → BundleRead → BundleRead
tested t r go = result_and (need t r) go

-- last: 1 where an address plus its section's length is over 2 ^ 32
unfoldable pub laid_of : Addr → Addr → ℕ → ℕ → BundleRead
laid_of a b n m =
    result_and (index_rule (8 * n) a)
    (result_and (table_rule (4 * m) b)
    (Ok (record { index_address = a; table_address = b; index = off 16; index_bytes = 8 * n; table = off (20 + 8 * n); table_bytes = 4 * m })))

-- the word count (1 if over 16,384), its bytes, leftovers
unfoldable pub from_words : List ℕ → Addr → Addr → ℕ → BundleRead
from_words xs a b n =
    counted xs (16 + 8 * n)
    (λ m. tested (nat_le m most_words) Refusal.Section
    (tested (nat_le (20 + 8 * n + 4 * m) (length xs)) Refusal.Bundle
    (tested (nat_le (length xs) (20 + 8 * n + 4 * m)) Refusal.Bundle
    (laid_of a b n m))))

-- the entry count (1 if over 8,192), its bytes
unfoldable pub from_entries : List ℕ → Addr → Addr → BundleRead
from_entries xs a b =
    counted xs 12
    (λ n. tested (nat_le n most_entries) Refusal.Section
    (tested (nat_le (16 + 8 * n) (length xs)) Refusal.Bundle
    (from_words xs a b n)))

-- the first count, 2, and its bytes: the index's address and the table's
unfoldable pub bundle_of : List ℕ → BundleRead
bundle_of xs =
    counted xs 0
    (λ first. tested (first == 2) Refusal.Bundle
    (tested (nat_le 12 (length xs)) Refusal.Bundle
    (from_entries xs (addr (word xs 4)) (addr (word xs 8)))))
