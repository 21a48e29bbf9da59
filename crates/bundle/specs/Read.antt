-- What reading a bundle can give: what has no case here cannot happen.
use Rattle.std.specs.Prelude.{ℕ, ◌+◌, ◌≡◌, Ok, Err}
use Rattle.section.specs.Rule.{table_most, Section, IndexSection}
use Rattle.section.specs.declared.Refusal.{Refusal}
use Rattle.bundle.specs.declared.Bundle.{Bundle}
use Rattle.bundle.specs.Bundle.{BundleRead}

-- both sections lie in the bundle, one after the other up to its end, and meet the section rule where they are meant to stand
pub record Placed (len : ℕ) (b : Bundle) : Type 0 where
  pub index : b.index.0 ≡ 16
  pub table : b.table.0 ≡ 20 + b.index_bytes
  pub whole : 20 + b.index_bytes + b.table_bytes ≡ len
  pub index_section : IndexSection b.index_bytes b.index_address
  pub table_section : Section table_most b.table_bytes b.table_address

-- a bundle, 18 or 1
pub data BundleGives (len : ℕ) : BundleRead → Type 0 where
  is : {b : Bundle} → Placed len b → BundleGives len (Ok b)
  bundle : BundleGives len (Err Refusal.Bundle)
  section : BundleGives len (Err Refusal.Section)
