-- Why a step is refused: 4 is the audit's alone, 8 to 11 are a lookup's, 18 a bundle's.
use Rattle.std.specs.Prelude.{ℕ, List, length}
use Rattle.section.specs.Rule.{stack_most, Section}
use Rattle.section.specs.declared.Addr.{Addr}
use Rattle.section.specs.declared.Refusal.{Refusal}
use Rattle.image.specs.Image.{Image, Sections}

-- 1 only where a section or the stack does not pass
pub data NoStep (i : Image) (st : List ℕ) (base : Addr) : Refusal → Type 0 where
  section : ((Sections i × Section stack_most (length st) base) → ⊥) → NoStep i st base Refusal.Section
  no_entry : NoStep i st base Refusal.NoEntry
  corrupt : NoStep i st base Refusal.Corrupt
  place : NoStep i st base Refusal.Place
  truncated : NoStep i st base Refusal.Truncated
  selector : NoStep i st base Refusal.Selector
  refused : NoStep i st base Refusal.Refused
  reserved : NoStep i st base Refusal.Reserved
  unsupported : NoStep i st base Refusal.Unsupported
  malformed : NoStep i st base Refusal.Malformed
  regs : NoStep i st base Refusal.Regs
  stack : NoStep i st base Refusal.Stack
