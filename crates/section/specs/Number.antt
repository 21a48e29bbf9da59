-- The paper's table "Numbers a caller can get".
use Rattle.std.specs.Prelude.{ℕ}
use Rattle.section.specs.declared.Refusal.{Refusal}
use Rattle.section.specs.declared.Refusal.TheVariants.{Section, NoEntry, Corrupt, Unsorted, Place, Truncated, Selector, Encoding, Value, Sum, NoSite, Refused, Reserved, Unsupported, Malformed, Regs, Stack, Bundle}

abbrev pub number : Refusal → ℕ
number Section = 1
number NoEntry = 2
number Corrupt = 3
number Unsorted = 4
number Place = 5
number Truncated = 6
number Selector = 7
number Encoding = 8
number Value = 9
number Sum = 10
number NoSite = 11
number Refused = 12
number Reserved = 13
number Unsupported = 14
number Malformed = 15
number Regs = 16
number Stack = 17
number Bundle = 18
