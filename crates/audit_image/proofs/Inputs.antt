-- The line of the bytes that were read is that of the whole input; and the contract of `audited` leaves one line, as those bytes are an input themselves. Assumes nothing.
use Prim.Native.Nat.{ℕ, ◌<◌, ◌≤◌}
use mathlib.Core.Path.{◌≡◌, sym, ap, ◌∙◌}
use mathlib.Core.List.{List}
use native.Mathlib.Omega.{arith}
use lib.ListN.{length, take}
use lib.Seq.{length-take-le, take_all}
use Rattle.bundle.specs.Audit.{audit_bundle_of}
use Rattle.bundle.specs.Bundle.{most_bytes}
use Rattle.bundle.proofs.Input.{audit_same}
use Rattle.audit_image.specs.Line.{line_of, written}
use Rattle.audit_image.specs.Input.{Received, LineOfInput}
use Rattle.audit_image.specs.declared.line.Line.{Line}

-- the bytes that were read say as much as the whole input does
pub line_of_bytes : (buffer : List ℕ) (n fill : ℕ) → most_bytes < length buffer → (l : Line) → written l ≡ line_of (audit_bundle_of (take n buffer) fill) → LineOfInput buffer n fill l
line_of_bytes buffer n fill room l e input h =
    e ∙ ap line_of (ap (λ (b : List ℕ). audit_bundle_of b fill) h ∙ audit_same input (length buffer) fill room)

received_itself : (buffer : List ℕ) (n : ℕ) → n ≤ length buffer → Received buffer n (take n buffer)
received_itself buffer n h = let e = length-take-le n buffer h in sym (take_all (length buffer) (take n buffer) (omega arith))

pub line_one : (buffer : List ℕ) (n fill : ℕ) → n ≤ length buffer → (l m : Line) → LineOfInput buffer n fill l → LineOfInput buffer n fill m → written l ≡ written m
line_one buffer n fill h l m p q = p (take n buffer) (received_itself buffer n h) ∙ sym (q (take n buffer) (received_itself buffer n h))
