-- Why language data of so many bytes is refused.
use Rattle.std.specs.Prelude.{ℕ}
use Rattle.section.specs.declared.Refusal.{Refusal}
use Rattle.pointer.specs.Reads.{NoPointer}

-- a site, or the audit of all: a field is not read, or a sum does not fit
pub data Faulty (len : ℕ) : Refusal → Type 0 where
  unread : {r : Refusal} → NoPointer len r → Faulty len r
  sum : Faulty len Refusal.Sum

-- the answer for a counter: one of these, or no site covers it
pub data NoCallSite (len : ℕ) : Refusal → Type 0 where
  faulty : {r : Refusal} → Faulty len r → NoCallSite len r
  none : NoCallSite len Refusal.NoSite
