-- What an entry of an image can lead to where the sections pass: what has no case here cannot happen. So no entry gives 1, nor do its words.
use Rattle.std.specs.Prelude.{ℕ, ◌*◌, ◌^◌, ◌≤◌, ◌<◌, ◌≡◌, length, Ok, Err}
use Rattle.section.specs.Check.{Answered}
use Rattle.section.specs.Rule.{words_most, table_most}
use Rattle.section.specs.declared.Addr.{Addr}
use Rattle.section.specs.declared.Off.{Off}
use Rattle.section.specs.declared.Refusal.{Refusal}
use Rattle.entry.specs.declared.Span.{Span}
use Rattle.image.specs.Image.{Image, words_of, language_of}
use Rattle.image.specs.declared.Found.{Found}

-- instruction words that can be read: whole words, not too many, with a skip of 1 or 2
pub record Readable (i : Image) (n : Span) : Type 0 where
  pub whole : length (words_of i n) ≡ 4 * n.words
  pub some : 1 ≤ n.words
  pub short : length (words_of i n) ≤ words_most
  pub skips : 1 ≤ n.skip
  pub skips_few : n.skip ≤ 2

-- the refusals of an entry that is there: 3, 5, 6 and 7
pub data EntryRefusal : Refusal → Type 0 where
  corrupt : EntryRefusal Refusal.Corrupt
  place : EntryRefusal Refusal.Place
  truncated : EntryRefusal Refusal.Truncated
  selector : EntryRefusal Refusal.Selector

pub data Leads (i : Image) : Answered Found → Type 0 where
  cannot : {f : Addr} → f.0 < 2 ^ 32 → Leads i (Ok (Found.CannotUnwind f))
  compact : {f : Addr} {n : ℕ} {s : Span} → f.0 < 2 ^ 32 → n < 16 → Readable i s → Leads i (Ok (Found.Compact f n s))
  generic : {f p : Addr} {s : Span} {o : Off} → f.0 < 2 ^ 32 → p.0 < 2 ^ 32 → Readable i s → o.0 ≤ length i.table → length (language_of i o) ≤ table_most
      → Leads i (Ok (Found.Generic f p s o))
  refused : {r : Refusal} → EntryRefusal r → Leads i (Err r)

-- what an entry leads to names the function f
pub data Names (f : Addr) : Answered Found → Type 0 where
  cannot : Names f (Ok (Found.CannotUnwind f))
  compact : {n : ℕ} {s : Span} → Names f (Ok (Found.Compact f n s))
  generic : {p : Addr} {s : Span} {o : Off} → Names f (Ok (Found.Generic f p s o))
  refused : {r : Refusal} → Names f (Err r)
