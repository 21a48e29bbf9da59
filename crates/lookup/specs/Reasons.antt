-- Why a lookup is refused: 4 is the audit's alone, 12 to 17 are a step's, 18 a bundle's.
use Rattle.section.specs.declared.Refusal.{Refusal}
use Rattle.image.specs.Image.{Image, Sections}

-- 1 only where the sections do not pass
pub data NoLookup (i : Image) : Refusal → Type 0 where
  section : (Sections i → ⊥) → NoLookup i Refusal.Section
  no_entry : NoLookup i Refusal.NoEntry
  corrupt : NoLookup i Refusal.Corrupt
  place : NoLookup i Refusal.Place
  truncated : NoLookup i Refusal.Truncated
  selector : NoLookup i Refusal.Selector
  encoding : NoLookup i Refusal.Encoding
  value : NoLookup i Refusal.Value
  sum : NoLookup i Refusal.Sum
  no_site : NoLookup i Refusal.NoSite
