-- The section rule: how long a section may be, and where it may stand.
use Rattle.std.specs.Prelude.{◌≡◌, ℕ, ◌+◌, ◌%◌, ◌^◌, ◌≤◌, ◌==◌, nat_le}
use Rattle.std.specs.Result.{result_and}
use Rattle.section.specs.Check.{Check, need}
use Rattle.section.specs.declared.Addr.{Addr}
use Rattle.section.specs.declared.Refusal.{Refusal}

-- the most bytes of an index, of a table or language data, of a stack, and of instruction words
abbrev pub index_most : ℕ
index_most = 65536

abbrev pub table_most : ℕ
table_most = 65536

abbrev pub stack_most : ℕ
stack_most = 65536

abbrev pub words_most : ℕ
words_most = 65536

-- at most `most` bytes, and address plus length at most 2 ^ 32
unfoldable pub rule_of : ℕ → ℕ → Addr → Check
rule_of len most a = result_and (need (nat_le len most) Refusal.Section) (need (nat_le (a.0 + len) (2 ^ 32)) Refusal.Section)

-- an index has a multiple of 8 bytes
unfoldable pub index_rule : ℕ → Addr → Check
index_rule len a = result_and (rule_of len index_most a) (need (len % 8 == 0) Refusal.Section)

abbrev pub table_rule : ℕ → Addr → Check
table_rule len a = rule_of len table_most a

abbrev pub stack_rule : ℕ → Addr → Check
stack_rule len a = rule_of len stack_most a

-- instruction words: a multiple of 4 bytes, wherever they stand
unfoldable pub words_rule : ℕ → Check
words_rule len = result_and (need (nat_le len words_most) Refusal.Section) (need (len % 4 == 0) Refusal.Section)

-- ---- what passes, in words
pub record Section (most len : ℕ) (a : Addr) : Type 0 where
  pub short : len ≤ most
  pub placed : a.0 + len ≤ 2 ^ 32

pub record IndexSection (len : ℕ) (a : Addr) : Type 0 where
  pub section : Section index_most len a
  pub whole : len % 8 ≡ 0

pub record WholeWords (len : ℕ) : Type 0 where
  pub short : len ≤ words_most
  pub whole : len % 4 ≡ 0
