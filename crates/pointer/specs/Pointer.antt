-- The LEB reader and the pointer reader.
use Rattle.std.specs.Prelude.{ℕ, List, [], ◌∷◌, length, nat_le, ◌==◌, Err}
use Rattle.section.specs.declared.Refusal.{Refusal}
use Rattle.section.specs.Check.{Answered, and_then}
use Rattle.section.specs.Pick.{pick}
use Rattle.section.specs.Rule.{table_most}
use Rattle.pointer.specs.Number.{Read, leb_of, fixed_of, unsigned_of, signed_of}

-- how a value is written: as a LEB, as so many bytes, or in no way that is read
pub data Form : Type 0 where
  uleb sleb omitted : Form
  unsigned signed : ℕ → Form

-- the encodings; any other is omit (0xFF) or unknown
abbrev pub forms : List (ℕ × Form)
forms =
    (0x00, unsigned 8)
    ∷ (0x04, unsigned 8)
    ∷ (0x01, uleb)
    ∷ (0x02, unsigned 2)
    ∷ (0x03, unsigned 4)
    ∷ (0x09, sleb)
    ∷ (0x0A, signed 2)
    ∷ (0x0B, signed 4)
    ∷ (0x0C, signed 8)
    ∷ []

abbrev pub form_in : List (ℕ × Form) → ℕ → Form
form_in [] e = omitted
form_in (x ∷ xs) e = pick (e == x.0) x.1 (form_in xs e)

abbrev pub form_of : ℕ → Form
form_of = form_in forms

-- the value at `at`, by its form: without one no byte is read
unfoldable pub formed : List ℕ → ℕ → Form → Read
formed s at uleb = and_then (leb_of s at) unsigned_of
formed s at sleb = and_then (leb_of s at) signed_of
formed s at (unsigned n) = and_then (fixed_of s at n) unsigned_of
formed s at (signed n) = and_then (fixed_of s at n) signed_of
formed s at omitted = Err Refusal.Encoding

-- data that is too long is refused before anything else
unfoldable pub sized : {A : Type 0} → List ℕ → Answered A → Answered A
sized s r = pick (nat_le (length s) table_most) r (Err Refusal.Section)

unfoldable pub uleb_of : List ℕ → ℕ → Read
uleb_of s at = sized s (formed s at uleb)

unfoldable pub sleb_of : List ℕ → ℕ → Read
sleb_of s at = sized s (formed s at sleb)

unfoldable pub pointer_of : List ℕ → ℕ → ℕ → Read
pointer_of s at e = sized s (formed s at (form_of e))
