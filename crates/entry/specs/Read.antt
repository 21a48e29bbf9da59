-- What the readers can give where the section passes: what has no case here cannot happen.
use Rattle.std.specs.Prelude.{ℕ, ◌+◌, ◌*◌, ◌^◌, ◌≤◌, ◌<◌, ◌≡◌, List, length, Ok, Err}
use Rattle.section.specs.Check.{Answered}
use Rattle.section.specs.Rule.{words_most, IndexSection}
use Rattle.section.specs.Word.{word}
use Rattle.section.specs.declared.Addr.{Addr}
use Rattle.section.specs.declared.Refusal.{Refusal}
use Rattle.entry.specs.Index.{entries, function_of}
use Rattle.entry.specs.declared.Personality.{Personality}
use Rattle.entry.specs.declared.Held.{Held}
use Rattle.entry.specs.declared.Span.{Span}
use Rattle.entry.specs.declared.Content.{Content}
use Rattle.entry.specs.declared.IndexEntry.{IndexEntry}
use Rattle.entry.specs.declared.TableEntry.{TableEntry}

-- at least one word, all of them in a section of len bytes, of which 1 or 2 bytes are skipped
pub record Inside (len : ℕ) (n : Span) : Type 0 where
  pub some : 1 ≤ n.words
  pub within : n.at.0 + 4 * n.words ≤ len
  pub short : 4 * n.words ≤ words_most
  pub skips : 1 ≤ n.skip
  pub skips_few : n.skip ≤ 2

-- content of an index of len bytes
pub data Contents (len : ℕ) : Content → Type 0 where
  cannot : Contents len Content.CannotUnwind
  compact : {n : ℕ} {s : Span} → n < 16 → s.held ≡ Held.Index → Inside len s → Contents len (Content.Compact (Personality.Compact n) s)
  table : {a : Addr} → a.0 < 2 ^ 32 → Contents len (Content.Table a)

-- a function, or 3; 6 exactly at or past the count
pub data FunctionGives (xs : List ℕ) (a : Addr) (k : ℕ) : Answered Addr → Type 0 where
  at : k < entries xs → (function_of xs a k).0 < 2 ^ 32 → FunctionGives xs a k (Ok (function_of xs a k))
  corrupt : k < entries xs → FunctionGives xs a k (Err Refusal.Corrupt)
  truncated : entries xs ≤ k → FunctionGives xs a k (Err Refusal.Truncated)

-- what a function that was read tells
pub record FunctionTold (xs : List ℕ) (a : Addr) (k : ℕ) (f : Addr) : Type 0 where
  pub section : IndexSection (length xs) a
  pub there : k < entries xs
  pub sound : word xs (8 * k) < 2 ^ 31
  pub is : f ≡ function_of xs a k

pub data ContentGives (xs : List ℕ) (k : ℕ) : Answered Content → Type 0 where
  is : {c : Content} → k < entries xs → Contents (length xs) c → ContentGives xs k (Ok c)
  truncated : entries xs ≤ k → ContentGives xs k (Err Refusal.Truncated)

pub data IndexGives (xs : List ℕ) (k : ℕ) : Answered IndexEntry → Type 0 where
  entry : {e : IndexEntry} → k < entries xs → e.function.0 < 2 ^ 32 → Contents (length xs) e.content → IndexGives xs k (Ok e)
  corrupt : k < entries xs → IndexGives xs k (Err Refusal.Corrupt)
  truncated : entries xs ≤ k → IndexGives xs k (Err Refusal.Truncated)

-- who unwinds an entry of the table: a selector that is known, or an address
pub data Known : Personality → Type 0 where
  compact : {n : ℕ} → n < 3 → Known (Personality.Compact n)
  generic : {a : Addr} → a.0 < 2 ^ 32 → Known (Personality.Generic a)

-- an entry of a table of len bytes: the language data begins where the words end
pub record Entered (len : ℕ) (e : TableEntry) : Type 0 where
  pub known : Known e.personality
  pub held : e.span.held ≡ Held.Table
  pub inside : Inside len e.span
  pub language : e.language.0 ≡ e.span.at.0 + 4 * e.span.words

-- the refusals of a table entry: 5, 6 and 7
pub data TableRefusal : Refusal → Type 0 where
  place : TableRefusal Refusal.Place
  truncated : TableRefusal Refusal.Truncated
  selector : TableRefusal Refusal.Selector

pub data TableGives (len : ℕ) : Answered TableEntry → Type 0 where
  entry : {e : TableEntry} → Entered len e → TableGives len (Ok e)
  refused : {r : Refusal} → TableRefusal r → TableGives len (Err r)
