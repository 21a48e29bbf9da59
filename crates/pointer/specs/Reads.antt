-- What a reader's answer can be: a value of 32 bits, with a place further on and not past the end; or a refusal for one of a few reasons.
use Rattle.std.specs.Prelude.{ℕ, ◌^◌, ◌<◌, ◌≤◌, Ok, Err}
use Rattle.section.specs.Rule.{table_most}
use Rattle.section.specs.declared.Off.{Off}
use Rattle.section.specs.declared.Refusal.{Refusal}
use Rattle.pointer.specs.Number.{Read}

pub data ReadsOn (Why : Refusal → Type 0) (at len : ℕ) : Read → Type 0 where
  value : {v : ℕ} {next : Off} → v < 2 ^ 32 → at < next.0 → next.0 ≤ len → ReadsOn Why at len (Ok (v, next))
  refused : {r : Refusal} → Why r → ReadsOn Why at len (Err r)

-- why no LEB is read in data of so many bytes
pub data NoLeb (len : ℕ) : Refusal → Type 0 where
  long : table_most < len → NoLeb len Refusal.Section
  truncated : NoLeb len Refusal.Truncated
  value : NoLeb len Refusal.Value

-- why no pointer is
pub data NoPointer (len : ℕ) : Refusal → Type 0 where
  long : table_most < len → NoPointer len Refusal.Section
  truncated : NoPointer len Refusal.Truncated
  encoding : NoPointer len Refusal.Encoding
  value : NoPointer len Refusal.Value
