-- prel31: the low 31 bits are two's complement, from -2^30 to 2^30 - 1; the target is the word's own address plus this, wrapping at 2^32.
use Rattle.std.specs.Prelude.{ℕ, ◌+◌, ◌-◌, ◌%◌, ◌^◌, ◌<◌, ◌≤◌, nat_lt}
use Rattle.section.specs.Pick.{pick}
use Rattle.section.specs.Place.{addr}
use Rattle.section.specs.declared.Addr.{Addr}

-- a distance: so many bytes up, or so many down
pub data Distance : Type 0 where
  up down : ℕ → Distance

-- the 31 bits as two's complement: below 2 ^ 30 themselves, from there on 2 ^ 31 less
abbrev pub signed31 : ℕ → Distance
signed31 n = pick (nat_lt n (2 ^ 30)) (up n) (down (2 ^ 31 - n))

-- an address moved by a distance, modulo 2 ^ 32
abbrev pub moved : ℕ → Distance → ℕ
moved p (up n) = (p + n) % 2 ^ 32
moved p (down n) = (p + (2 ^ 32 - n)) % 2 ^ 32

unfoldable pub prel31_of : ℕ → Addr → Addr
prel31_of w place = addr (moved place.0 (signed31 (w % 2 ^ 31)))

-- the range of a signed reading: up to 2 ^ 30 - 1 up, up to 2 ^ 30 down
pub data Ranged : Distance → Type 0 where
  up : {n : ℕ} → n < 2 ^ 30 → Ranged (Distance.up n)
  down : {n : ℕ} → 0 < n → n ≤ 2 ^ 30 → Ranged (Distance.down n)
