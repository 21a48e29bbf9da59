-- The paper's number and values of each answer.
use Rattle.std.specs.Prelude.{[], ◌∷◌, Ok, Err}
use Rattle.section.specs.Answer.{Answer, given, refused, counted}
use Rattle.section.specs.Number.{number}
use Rattle.bundle.specs.Audit.{Report}
use Rattle.bundle.specs.Bundle.{BundleRead}
use Rattle.bundle.specs.declared.BundleFault.{BundleFault}

-- index address, table address, offset and bytes of the index, offset and bytes of the table
abbrev pub bundle_answer : BundleRead → Answer
bundle_answer x = counted 6 (λ b. b.index_address.0 ∷ b.table_address.0 ∷ b.index.0 ∷ b.index_bytes ∷ b.table.0 ∷ b.table_bytes ∷ []) x

-- the entries of a bundle that passes; the entry at fault, or 0 where it is the bundle's or a section's fault
abbrev pub report_answer : Report → Answer
report_answer (Ok n) = given (n ∷ [])
report_answer (Err (BundleFault.Entry f)) = record { number = number f.refusal; row = f.entry ∷ [] }
report_answer (Err (BundleFault.Bundle r)) = refused 1 r
