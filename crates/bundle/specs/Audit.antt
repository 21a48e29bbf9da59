-- The audit of a bundle, as the program prints it.
use Rattle.std.specs.Prelude.{ℕ, ◌-◌, ◌/◌, List, nat_le, Result, Ok, Err}
use Rattle.std.specs.Result.{result_and}
use Rattle.section.specs.Check.{Check, need, on_answer}
use Rattle.section.specs.View.{bytes_of}
use Rattle.section.specs.declared.Refusal.{Refusal}
use Rattle.image.specs.Image.{Image, image}
use Rattle.audit.specs.Audit.{Verdict, audit_of}
use Rattle.bundle.specs.Bundle.{bundle_of}
use Rattle.bundle.specs.declared.Bundle.{Bundle}
use Rattle.bundle.specs.declared.BundleFault.{BundleFault}

-- a table's last `fill` bytes may only fill its last word: at most 3 do, and a table of no words has none; else 18
unfoldable pub fill_rule : ℕ → ℕ → Check
fill_rule fill len = result_and (need (nat_le fill 3) Refusal.Bundle) (need (nat_le fill len) Refusal.Bundle)

-- the image that a bundle holds: its sections are parts of the bundle's bytes, and the fill is no part of the table
abbrev pub image_in : List ℕ → ℕ → Bundle → Image
image_in xs fill b = image (bytes_of xs (b.index.0, b.index_bytes)) b.index_address (bytes_of xs (b.table.0, b.table_bytes - fill)) b.table_address

-- the entries of a bundle that passes, or its fault
abbrev pub Report : Type 0
Report = Result ℕ BundleFault

-- ok N, N index entries; or fault R at entry I
abbrev pub reported_of : ℕ → Verdict → Report
reported_of n (Ok x) = Ok n
reported_of n (Err f) = Err (BundleFault.Entry f)

-- fault R, the bundle's or a section's
abbrev pub refused_bundle : Refusal → Report
refused_bundle r = Err (BundleFault.Bundle r)

-- the bundle, then its fill, then its image
unfoldable pub audit_bundle_of : List ℕ → ℕ → Report
audit_bundle_of xs fill =
    on_answer (bundle_of xs) (λ b.
    on_answer (fill_rule fill b.table_bytes) (λ _. reported_of (b.index_bytes / 8) (audit_of (image_in xs fill b))) refused_bundle) refused_bundle
