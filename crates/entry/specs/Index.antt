-- The entries of the index: a function word, then a content word.
use Rattle.std.specs.Prelude.{ℕ, ◌+◌, ◌*◌, ◌/◌, ◌%◌, ◌^◌, List, length, nat_lt, ◌==◌, Ok, Err}
use Rattle.std.specs.Result.{result_and}
use Rattle.section.specs.Pick.{pick}
use Rattle.section.specs.Check.{Answered, Check, need, and_then}
use Rattle.section.specs.Rule.{index_rule}
use Rattle.section.specs.Word.{word}
use Rattle.section.specs.Place.{off, address_of}
use Rattle.section.specs.Prel31.{prel31_of}
use Rattle.section.specs.declared.Addr.{Addr}
use Rattle.section.specs.declared.Off.{Off}
use Rattle.section.specs.declared.Refusal.{Refusal}
use Rattle.entry.specs.declared.Personality.{Personality}
use Rattle.entry.specs.declared.Held.{Held}
use Rattle.entry.specs.declared.Content.{Content}
use Rattle.entry.specs.declared.IndexEntry.{IndexEntry}

-- how many entries of 8 bytes an index has
abbrev pub entries : List ℕ → ℕ
entries xs = length xs / 8

-- the section rule, and 6 for a number at or past the count
unfoldable pub numbered : ℕ → Addr → ℕ → Check
numbered len a k = result_and (index_rule len a) (need (nat_lt k (len / 8)) Refusal.Truncated)

-- where the function word of entry k leads, from its own place
unfoldable pub function_of : List ℕ → Addr → ℕ → Addr
function_of xs a k = prel31_of (word xs (8 * k)) (address_of a (off (8 * k)))

-- the function of an entry that is there: with bit 31 of its word set 3
unfoldable pub function_in : List ℕ → Addr → ℕ → Answered Addr
function_in xs a k = pick (nat_lt (word xs (8 * k)) (2 ^ 31)) (Ok (function_of xs a k)) (Err Refusal.Corrupt)

unfoldable pub function_at : List ℕ → Addr → ℕ → Answered Addr
function_at xs a k = result_and (numbered (length xs) a k) (function_in xs a k)

-- a content word w at offset o: 0x00000001 cannot unwind; bit 31 set, its three low bytes are instructions, for the selector in bits 27-24; else it
-- leads to the table, from its own place
unfoldable pub content_of : ℕ → Addr → Off → Content
content_of w a o =
    pick (w == 0x00000001) Content.CannotUnwind
    (pick (nat_lt w (2 ^ 31)) (Content.Table (prel31_of w (address_of a o)))
    (Content.Compact (Personality.Compact (w / 2 ^ 24 % 16)) (record { held = Held.Index; at = o; words = 1; skip = 1 })))

unfoldable pub content_at : List ℕ → Addr → ℕ → Answered Content
content_at xs a k = result_and (numbered (length xs) a k) (Ok (content_of (word xs (8 * k + 4)) a (off (8 * k + 4))))

-- entry k: its function, then its content
unfoldable pub index_entry_of : List ℕ → Addr → ℕ → Answered IndexEntry
index_entry_of xs a k = and_then (function_at xs a k) (λ f. and_then (content_at xs a k) (λ c. Ok (record { function = f; content = c })))
