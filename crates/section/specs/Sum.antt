-- Sums of addresses that must fit: at most 0xFFFFFFFF.
use Rattle.std.specs.Prelude.{ℕ, ◌+◌, nat_le, Option, Some, None}
use Rattle.section.specs.Pick.{pick}
use Rattle.section.specs.Place.{addr}
use Rattle.section.specs.declared.Addr.{Addr}

-- the address n bytes up, where that is at most 0xFFFFFFFF
unfoldable pub plus_of : Addr → ℕ → Option Addr
plus_of a n = pick (nat_le (a.0 + n) 0xFFFFFFFF) (Some (addr (a.0 + n))) None
