-- The entries of the table.
use Rattle.std.specs.Prelude.{ℕ, ◌+◌, ◌*◌, ◌/◌, ◌%◌, ◌^◌, List, length, nat_le, nat_lt, ◌==◌, Ok, Err, ok_or}
use Rattle.std.specs.Result.{result_and}
use Rattle.section.specs.Pick.{pick}
use Rattle.section.specs.Check.{Answered, need, and_then}
use Rattle.section.specs.Rule.{table_rule}
use Rattle.section.specs.Word.{word_at, is_aligned}
use Rattle.section.specs.Place.{off, address_of}
use Rattle.section.specs.Prel31.{prel31_of}
use Rattle.section.specs.declared.Addr.{Addr}
use Rattle.section.specs.declared.Off.{Off}
use Rattle.section.specs.declared.Refusal.{Refusal}
use Rattle.entry.specs.declared.Personality.{Personality}
use Rattle.entry.specs.declared.Held.{Held}
use Rattle.entry.specs.declared.TableEntry.{TableEntry}

-- n words of instructions from o on; the language data begins where they end
abbrev pub entry_of : Personality → ℕ → ℕ → ℕ → TableEntry
entry_of p o n skip = record { personality = p; span = record { held = Held.Table; at = off o; words = n; skip = skip }; language = off (o + 4 * n) }

-- the same, where they end within a table of len bytes
unfoldable pub fitting : ℕ → Personality → ℕ → ℕ → ℕ → Answered TableEntry
fitting len p o n skip = pick (nat_le (o + 4 * n) len) (Ok (entry_of p o n skip)) (Err Refusal.Truncated)

-- the low nibble of byte 3
abbrev pub selector_of : ℕ → ℕ
selector_of w = w / 2 ^ 24 % 16

-- bit 31 set: selector 0 has this word alone, skip 1; for 1 and 2 byte 2 counts further words, skip 2
unfoldable pub compact_of : ℕ → ℕ → ℕ → Answered TableEntry
compact_of len o w =
    pick (selector_of w == 0) (fitting len (Personality.Compact (selector_of w)) o 1 1)
    (pick (nat_lt (selector_of w) 3) (fitting len (Personality.Compact (selector_of w)) o (1 + w / 2 ^ 16 % 256) 2)
    (Err Refusal.Selector))

-- bit 31 clear: the word leads to the personality, from its own place; byte 3 of the second word counts further words, skip 1
unfoldable pub generic_of : List ℕ → Addr → ℕ → ℕ → Answered TableEntry
generic_of ys a o w =
    and_then (ok_or (word_at ys (o + 4)) Refusal.Truncated)
    (λ v. fitting (length ys) (Personality.Generic (prel31_of w (address_of a (off o)))) (o + 4) (1 + v / 2 ^ 24) 1)

unfoldable pub entry_by : List ℕ → Addr → ℕ → ℕ → Answered TableEntry
entry_by ys a o w = pick (nat_lt w (2 ^ 31)) (generic_of ys a o w) (compact_of (length ys) o w)

-- the section rule, then alignment (5), then the words (6)
unfoldable pub table_entry_of : List ℕ → Addr → Off → Answered TableEntry
table_entry_of ys a o =
    result_and (table_rule (length ys) a)
    (result_and (need (is_aligned o.0) Refusal.Place) (and_then (ok_or (word_at ys o.0) Refusal.Truncated) (entry_by ys a o.0)))
