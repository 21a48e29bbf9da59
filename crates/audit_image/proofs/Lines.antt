-- The line of each report, from its words and numbers as they are said one after another. Assumes nothing.
use Prim.Native.Nat.{ℕ}
use mathlib.Core.Path.{◌≡◌, refl}
use mathlib.Core.List.{List, ◌++◌}
use Rattle.std.specs.Prelude.{codes, decimal, Ok, Err}
use Rattle.section.specs.Number.{number}
use Rattle.section.specs.declared.Refusal.{Refusal}
use Rattle.audit.specs.declared.Fault.{Fault}
use Rattle.bundle.specs.declared.BundleFault.{BundleFault}
use Rattle.audit_image.specs.Line.{line_of}

module _ {a b c : List ℕ} where
  pub passed_line : (n : ℕ) → a ≡ codes "ok " → b ≡ a ++ decimal n → c ≡ b ++ codes "\n" → c ≡ line_of (Ok n)
  unfolding line_of
  passed_line n ea eb ec = rw (ec, eb, ea) refl

  pub fault_line : (r : Refusal) (m : ℕ) → m ≡ number r → a ≡ codes "fault " → b ≡ a ++ decimal m → c ≡ b ++ codes "\n" → c ≡ line_of (Err (BundleFault.Bundle r))
  unfolding line_of
  fault_line r m em ea eb ec = rw (ec, eb, ea, em) refl

  pub entry_line : (f : Fault) (m : ℕ) {d e : List ℕ} → m ≡ number f.refusal → a ≡ codes "fault " → b ≡ a ++ decimal m → c ≡ b ++ codes " at entry " → d ≡ c ++ decimal f.entry → e ≡ d ++ codes "\n" → e ≡ line_of (Err (BundleFault.Entry f))
  unfolding line_of
  entry_line f m em ea eb ec ed ee = rw (ee, ed, ec, eb, ea, em) refl
