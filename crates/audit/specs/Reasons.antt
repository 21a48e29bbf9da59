-- Why an audit does not pass: 2 and 11 are answers of a lookup, 12 and 17 of a step, 18 a bundle's.
use Rattle.std.specs.Prelude.{ℕ, ◌<◌}
use Rattle.section.specs.declared.Refusal.{Refusal}
use Rattle.image.specs.Image.{Image, count_of, Sections}

-- what an entry can be at fault with
pub data EntryFault : Refusal → Type 0 where
  corrupt : EntryFault Refusal.Corrupt
  unsorted : EntryFault Refusal.Unsorted
  place : EntryFault Refusal.Place
  truncated : EntryFault Refusal.Truncated
  selector : EntryFault Refusal.Selector
  encoding : EntryFault Refusal.Encoding
  value : EntryFault Refusal.Value
  sum : EntryFault Refusal.Sum
  reserved : EntryFault Refusal.Reserved
  unsupported : EntryFault Refusal.Unsupported
  malformed : EntryFault Refusal.Malformed
  regs : EntryFault Refusal.Regs

-- 1 only where the sections do not pass, with entry 0; else a fault of an entry that is there
pub data NoPass (i : Image) : Refusal → ℕ → Type 0 where
  section : (Sections i → ⊥) → NoPass i Refusal.Section 0
  entry : {r : Refusal} {k : ℕ} → Sections i → k < count_of i → EntryFault r → NoPass i r k
