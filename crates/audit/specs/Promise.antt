-- What is promised of an image that the audit passes: what has no case here cannot happen.
use Rattle.std.specs.Prelude.{ℕ, ◌^◌, ◌<◌, ◌≡◌, List, length, Ok, Err}
use Rattle.section.specs.Check.{Answered}
use Rattle.section.specs.Rule.{stack_most, Section}
use Rattle.section.specs.declared.Addr.{Addr}
use Rattle.section.specs.declared.Off.{Off}
use Rattle.section.specs.declared.Refusal.{Refusal}
use Rattle.entry.specs.declared.Span.{Span}
use Rattle.lsda.specs.Header.{header_of}
use Rattle.lsda.specs.Site.{resolved}
use Rattle.lsda.specs.Sites.{sites_from, Covers, First, Nowhere}
use Rattle.lsda.specs.declared.Header.{Header}
use Rattle.lsda.specs.declared.Site.{Site}
use Rattle.image.specs.Image.{Image, count_of, entry_at, language_of}
use Rattle.image.specs.declared.Found.{Found}
use Rattle.search.specs.Rising as rising
use Rattle.lookup.specs.Answers.{looked_answer}
use Rattle.lookup.specs.Lookup.{lookup_of}
use Rattle.lookup.specs.declared.Looked.{Looked}
use Rattle.step.specs.Answers.{step_answer}
use Rattle.step.specs.Step.{step_of}
use Rattle.step.specs.declared.Arrival.{Arrival}
use Rattle.step.specs.declared.Registers.{Registers}
use Rattle.audit.specs.Sound.{start_of}

-- entry k is the one whose stretch, up to the next function, holds the counter
pub record Stretch (i : Image) (c : Addr) (k : ℕ) : Type 0 where
  pub holds : rising.Holds i.index i.index_at c k
  pub only : (j : ℕ) → rising.Holds i.index i.index_at c j → j ≡ k

-- the language data of a generic entry
pub record Generic (i : Image) (k : ℕ) (p : Addr) (h : Header) : Type 0 where
  pub span : Span
  pub language : Off
  pub leads : entry_at i k ≡ Ok (Found.Generic (start_of i k) p span language)
  pub header : header_of (language_of i language) (start_of i k) ≡ Ok h

-- a lookup's answer: that entry with its function's address, and of a generic one the first site that covers the counter; 2 where no function starts at
-- or below the counter; 11 where no site of that entry covers it
pub data LookupGives (i : Image) (c : Addr) : Answered Looked → Type 0 where
  no_entry : ((k : ℕ) → k < count_of i → c.0 < (start_of i k).0) → LookupGives i c (Err Refusal.NoEntry)
  cannot : {k : ℕ} → Stretch i c k → entry_at i k ≡ Ok (Found.CannotUnwind (start_of i k)) → LookupGives i c (Ok (Looked.CannotUnwind k (start_of i k)))
  compact : {k n : ℕ} {s : Span} → Stretch i c k → entry_at i k ≡ Ok (Found.Compact (start_of i k) n s) → LookupGives i c (Ok (Looked.Compact k (start_of i k) s.held n))
  site : {k : ℕ} {p : Addr} {h : Header} {x : Site} → Stretch i c k → (g : Generic i k p h)
      → First (Covers c) (sites_from (language_of i g.language) h h.start.0) x
      → LookupGives i c (Ok (Looked.Generic k (start_of i k) p (resolved h.base x)))
  no_site : {k : ℕ} {p : Addr} {h : Header} → Stretch i c k → (g : Generic i k p h)
      → Nowhere (Covers c) (sites_from (language_of i g.language) h h.start.0)
      → LookupGives i c (Err Refusal.NoSite)

-- in the paper's numbers: 0, 2 or 11
pub data LookupNumber : ℕ → Type 0 where
  answered : LookupNumber 0
  no_entry : LookupNumber 2
  no_site : LookupNumber 11

-- where a step leads: the next frame, cannot-unwind, 2, 12 or 17
pub data StepGives : Answered Arrival → Type 0 where
  frame : {n : ℕ} → StepGives (Ok (Arrival.Frame n))
  cannot : StepGives (Ok Arrival.CannotUnwind)
  no_entry : StepGives (Err Refusal.NoEntry)
  refused : StepGives (Err Refusal.Refused)
  stack : StepGives (Err Refusal.Stack)

-- in the paper's numbers: 0, 2, 12 or 17
pub data StepNumber : ℕ → Type 0 where
  stepped : StepNumber 0
  no_entry : StepNumber 2
  refused : StepNumber 12
  stack : StepNumber 17

pub record Promise (i : Image) : Type 0 where
  pub lookups : (c : Addr) → c.0 < 2 ^ 32 → LookupGives i c (lookup_of i c)
  pub lookup_numbers : (c : Addr) → c.0 < 2 ^ 32 → LookupNumber (looked_answer (lookup_of i c)).number
  pub steps : (st : List ℕ) (base : Addr) → Section stack_most (length st) base → (r : Registers) → StepGives (step_of i st base r).arrival
  pub step_numbers : (st : List ℕ) (base : Addr) → Section stack_most (length st) base → (r : Registers) → StepNumber (step_answer (step_of i st base r)).number
