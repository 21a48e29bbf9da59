-- The line of an input of any length, of which the program has only what its buffer holds; and the fill that its argument says.
use Rattle.std.specs.Prelude.{ℕ, ◌≡◌, Option, Some, None, List, ◌==◌, length, slice_index, take}
use Rattle.section.specs.Pick.{pick}
use Rattle.bundle.specs.Audit.{audit_bundle_of}
use Rattle.audit_image.specs.Line.{line_of, written}
use Rattle.audit_image.specs.declared.line.Line.{Line}

-- the first n bytes of the buffer are the input's first: all of them, or as many as the buffer holds
abbrev pub Received : List ℕ → ℕ → List ℕ → Type 0
Received buffer n input = take n buffer ≡ take (length buffer) input

-- whatever the input was, the line is its own, with so many bytes at the table's end that only fill its last word
abbrev pub LineOfInput : List ℕ → ℕ → ℕ → Line → Type 0
LineOfInput buffer n fill l = (input : List ℕ) → Received buffer n input → written l ≡ line_of (audit_bundle_of input fill)

-- an argument of one character, 1, 2 or 3 in ASCII, says so many bytes; any other says nothing
abbrev pub digit_of : ℕ → Option ℕ
digit_of d = pick (d == 0x31) (Some 1) (pick (d == 0x32) (Some 2) (pick (d == 0x33) (Some 3) None))

abbrev pub fill_of : List ℕ → Option ℕ
fill_of argument = pick (length argument == 1) (digit_of (slice_index argument 0)) None
