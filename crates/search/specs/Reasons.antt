-- Why a search is refused: 1, 2 or 3, and nothing else.
use Rattle.std.specs.Prelude.{ℕ}
use Rattle.section.specs.Rule.{IndexSection}
use Rattle.section.specs.declared.Addr.{Addr}
use Rattle.section.specs.declared.Refusal.{Refusal}

-- of an index of so many bytes at an address
pub data NoHit (len : ℕ) (a : Addr) : Refusal → Type 0 where
  section : (IndexSection len a → ⊥) → NoHit len a Refusal.Section
  no_entry : NoHit len a Refusal.NoEntry
  corrupt : NoHit len a Refusal.Corrupt
