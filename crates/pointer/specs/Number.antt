-- The numbers that LEBs and fields of a fixed width write, and the 32-bit values that they stand for.
use Rattle.std.specs.Prelude.{ℕ, ◌+◌, ◌-◌, ◌/◌, ◌^◌, ◌<◌, List, length, nat_lt, nat_le, Ok, Err}
use Rattle.section.specs.declared.Refusal.{Refusal}
use Rattle.section.specs.Check.{Answered}
use Rattle.section.specs.Digits.{bytes_at, digits, End, after, early, long, end_of}
use Rattle.section.specs.Pick.{pick}
use Rattle.section.specs.Place.{off}
use Rattle.section.specs.declared.Off.{Off}
use Rattle.pointer.specs.declared.number.Number.{Number}

-- a value, and the place after it; or why there is none
abbrev pub Read : Type 0
Read = Answered (ℕ × Off)

-- n digits in base b: the number, half of b ^ n, and the place after them
abbrev pub found : ℕ → List ℕ → ℕ → ℕ → Number
found b s at n = record { value = digits b (bytes_at s at) n; half = b ^ n / 2; next = off (at + n) }

-- the digits of a LEB are the low seven bits of its bytes; 6 where the data ends before it, 9 where it has more than five
unfoldable pub ended : List ℕ → ℕ → End → Answered Number
ended s at (after n) = Ok (found 0x80 s at n)
ended s at early = Err Refusal.Truncated
ended s at long = Err Refusal.Value

-- the LEB at `at`
unfoldable pub leb_of : List ℕ → ℕ → Answered Number
leb_of s at = ended s at (end_of (bytes_at s at) (length s - at))

-- the n bytes at `at`; 6 where they are not all there
unfoldable pub fixed_of : List ℕ → ℕ → ℕ → Answered Number
fixed_of s at n = pick (nat_le (at + n) (length s)) (Ok (found 0x100 s at n)) (Err Refusal.Truncated)

-- unsigned: the number itself, which must be below 2 ^ 32
unfoldable pub unsigned_of : Number → Read
unsigned_of x = pick (nat_lt x.value (2 ^ 32)) (Ok (x.value, x.next)) (Err Refusal.Value)

-- signed: below the half a number stands for itself, from the half on for -(h + h - v). It must be in -2 ^ 31 to 2 ^ 31 - 1, and is taken modulo 2 ^ 32
unfoldable pub signed_of : Number → Read
signed_of x =
    pick (nat_lt x.value x.half)
    (pick (nat_lt x.value (2 ^ 31)) (Ok (x.value, x.next)) (Err Refusal.Value))
    (pick (nat_le (x.half + x.half - x.value) (2 ^ 31)) (Ok (2 ^ 32 - (x.half + x.half - x.value), x.next)) (Err Refusal.Value))

-- the number lies below twice the half
abbrev pub Bounded : Number → Type 0
Bounded x = x.value < x.half + x.half
