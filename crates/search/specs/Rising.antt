-- What the search is for: on an index whose functions rise, the last function at or below the counter.
use Rattle.std.specs.Prelude.{ℕ, ◌+◌, ◌*◌, ◌^◌, ◌≤◌, ◌<◌, ◌≡◌, List, length, Ok, Err}
use Rattle.section.specs.Check.{Answered}
use Rattle.section.specs.Rule.{IndexSection}
use Rattle.section.specs.Word.{word}
use Rattle.section.specs.declared.Addr.{Addr}
use Rattle.section.specs.declared.Refusal.{Refusal}
use Rattle.entry.specs.Index.{entries, function_of, function_at}
use Rattle.search.specs.Search.{hit}
use Rattle.search.specs.declared.Hit.{Hit}

-- of any entry that is found, on rising functions or not: it is there, its function was read, at or below the counter, with at most 14 words read
pub record Begins (xs : List ℕ) (a counter : Addr) (h : Hit) : Type 0 where
  pub inside : h.entry < entries xs
  pub read : function_at xs a h.entry ≡ Ok h.function
  pub below : h.function.0 ≤ counter.0
  pub few : h.probes ≤ 14

-- the section passes, every function word is sound, and each function is above the one before
pub record Rising (xs : List ℕ) (a : Addr) : Type 0 where
  pub section : IndexSection (length xs) a
  pub sound : (k : ℕ) → k < entries xs → word xs (8 * k) < 2 ^ 31
  pub rises : (k : ℕ) → k + 1 < entries xs → (function_of xs a k).0 < (function_of xs a (k + 1)).0

-- the stretch of entry k holds the counter: from its function to below the next, and from the last one on
pub record Holds (xs : List ℕ) (a counter : Addr) (k : ℕ) : Type 0 where
  pub inside : k < entries xs
  pub starts : (function_of xs a k).0 ≤ counter.0
  pub ends : k + 1 < entries xs → counter.0 < (function_of xs a (k + 1)).0

-- an entry was found: the last function at or below the counter, and the only stretch that holds it
pub record Located (xs : List ℕ) (a counter : Addr) (r : Answered Hit) : Type 0 where
  pub entry : ℕ
  pub probes : ℕ
  pub found : r ≡ Ok (hit entry (function_of xs a entry) probes)
  pub few : probes ≤ 14
  pub covers : Holds xs a counter entry
  pub last : (j : ℕ) → j < entries xs → (function_of xs a j).0 ≤ counter.0 → j ≤ entry
  pub only : (j : ℕ) → Holds xs a counter j → j ≡ entry

-- what a search can give on rising functions: that one entry, or 2 where no function is at or below the counter
pub data SearchGives (xs : List ℕ) (a counter : Addr) (r : Answered Hit) : Type 0 where
  located : Located xs a counter r → SearchGives xs a counter r
  none : r ≡ Err Refusal.NoEntry → ((j : ℕ) → j < entries xs → counter.0 < (function_of xs a j).0) → SearchGives xs a counter r
