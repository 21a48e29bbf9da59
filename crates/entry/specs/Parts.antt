-- The parts of the two sections that entries name: instruction words and language data.
use Rattle.std.specs.Prelude.{ℕ, ◌*◌, List, length, Ok, Err}
use Rattle.std.specs.Borrow.{Bor}
use Rattle.section.specs.Check.{Answered}
use Rattle.section.specs.View.{Spot, bytes_of, Part, part_from, suffix_from}
use Rattle.section.specs.declared.Off.{Off}
use Rattle.entry.specs.declared.Held.{Held}
use Rattle.entry.specs.declared.Span.{Span}
use Rattle.entry.specs.declared.TableEntry.{TableEntry}

-- index or table, whichever held the words
abbrev pub chosen : {X : Type 0} → Held → X → X → X
chosen Held.Index i t = i
chosen Held.Table i t = t

-- where the words of a span are, in a section of len bytes
abbrev pub words_spot : ℕ → Span → Spot
words_spot len n = part_from len n.at.0 (4 * n.words)

-- r is the words of a span, in whichever section holds them: a record, so that the sections and the span can be read off its type
pub record Words (i t r : Bor (List ℕ)) (n : Span) : Type 0 where
  pub part : Part (chosen n.held i t) r (words_spot (length (chosen n.held i t).now) n)

-- where the language data is that begins at an offset of a table of len bytes: from there to the table's end
abbrev pub language_spot : ℕ → Off → Spot
language_spot len o = suffix_from len o.0

-- that of what was read: of an entry, from its end on
abbrev pub language_read : ℕ → Answered TableEntry → Spot
language_read len (Ok e) = language_spot len e.language
language_read len (Err r) = (0, 0)

-- ---- their bytes
abbrev pub words_in : List ℕ → Span → List ℕ
words_in s n = bytes_of s (words_spot (length s) n)

-- from whichever section holds them
abbrev pub held_words : List ℕ → List ℕ → Span → List ℕ
held_words xs ys n = words_in (chosen n.held xs ys) n

abbrev pub language_in : List ℕ → Off → List ℕ
language_in ys o = bytes_of ys (language_spot (length ys) o)
