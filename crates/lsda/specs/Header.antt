-- The header of the language data.
use Rattle.std.specs.Prelude.{ℕ, ◌+◌, List, length, slice_index, nat_lt, ◌==◌, Ok, Err}
use Rattle.section.specs.Check.{Answered, and_then}
use Rattle.section.specs.Pick.{pick}
use Rattle.section.specs.Place.{addr, off}
use Rattle.section.specs.declared.Addr.{Addr}
use Rattle.section.specs.declared.Off.{Off}
use Rattle.section.specs.declared.Refusal.{Refusal}
use Rattle.pointer.specs.Number.{Read}
use Rattle.pointer.specs.Pointer.{sized, uleb_of, pointer_of}
use Rattle.lsda.specs.declared.Header.{Header}

-- reading ends with a refusal, or goes on with what was read and the place after it
abbrev pub reading : {A X : Type 0} → Answered (A × Off) → (A → Off → Answered X) → Answered X
reading r go = and_then r (λ x. go x.0 x.1)

unfoldable pub byte_at : List ℕ → ℕ → Read
byte_at s at = pick (nat_lt at (length s)) (Ok (slice_index s at, off (at + 1))) (Err Refusal.Truncated)

-- base encoding byte; unless FF, the base. Default: the function's address
unfoldable pub base_at : List ℕ → Addr → ℕ → Answered (Addr × Off)
base_at s function at =
    reading (byte_at s at) (λ e p.
    pick (e == 0xFF) (Ok (function, p)) (reading (pointer_of s p.0 e) (λ v q. Ok (addr v, q))))

-- type encoding byte; unless FF, a ULEB
unfoldable pub types_at : List ℕ → ℕ → Read
types_at s at = reading (byte_at s at) (λ e p. pick (e == 0xFF) (Ok (0, p)) (uleb_of s p.0))

-- call-site encoding byte; table length ULEB. The table stands from there to below its start plus length
unfoldable pub table_at : List ℕ → Addr → ℕ → Answered Header
table_at s base at =
    reading (byte_at s at) (λ e p.
    reading (uleb_of s p.0) (λ n q.
    Ok (record { base = base; encoding = e; start = q; end = q.0 + n })))

unfoldable pub header_of : List ℕ → Addr → Answered Header
header_of s function =
    sized s
    (reading (base_at s function 0) (λ base p.
    reading (types_at s p.0) (λ _ q.
    table_at s base q.0)))
