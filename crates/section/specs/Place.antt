-- Addresses and offsets: a section's address plus an offset, and its inverse, are the only ways between them.
use Rattle.std.specs.Prelude.{ℕ, ◌+◌, ◌-◌, ◌%◌, ◌^◌, nat_lt, Option, Some, None}
use Rattle.section.specs.Pick.{pick}
use Rattle.section.specs.declared.Addr.{Addr}
use Rattle.section.specs.declared.Off.{Off}

abbrev pub addr : ℕ → Addr
addr n = record { 0 = n }

abbrev pub off : ℕ → Off
off n = record { 0 = n }

-- section address plus offset
abbrev pub address_of : Addr → Off → Addr
address_of s o = addr ((s.0 + o.0) % 2 ^ 32)

-- and back: what lies below the section, or at or past its end, has no offset
unfoldable pub offset_of : Addr → ℕ → Addr → Option Off
offset_of s len a = pick (nat_lt a.0 s.0) None (pick (nat_lt (a.0 - s.0) len) (Some (off (a.0 - s.0))) None)
