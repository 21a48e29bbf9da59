-- The section rule passes exactly the sections that it describes, and its only fault is 1; so does the rule of instruction words. Assumes nothing.
use Rattle.std.proofs.Common.{◌≡◌, ℕ, ◌+◌, ◌%◌, ◌^◌, ◌<◌, ◌≤◌, Bool, true, false, eqb, leb, ◌↔◌, ne_eqb, le-leb, Err}
use borrow.Author.Tests.{lt-leb}
use Rattle.std.specs.Result.{result_and}
use Rattle.section.specs.Check.{Check, fine, need}
use Rattle.section.specs.Rule.{index_most, words_most, rule_of, index_rule, words_rule, Section, IndexSection, WholeWords}
use Rattle.section.specs.declared.Addr.{Addr}
use Rattle.section.specs.declared.Refusal.{Refusal}
use Rattle.section.proofs.Checks.{need_le, need_eq, and_exact, named}

pub section_exact : (most len : ℕ) (a : Addr) → (rule_of len most a ≡ fine) ↔ Section most len a
unfolding rule_of
section_exact most len a =
    named (and_exact _ _ (need_le len most Refusal.Section) (need_le (a.0 + len) (2 ^ 32) Refusal.Section)) (λ p. record { short = p.0; placed = p.1 }) (λ s. (s.short, s.placed))

pub index_exact : (len : ℕ) (a : Addr) → (index_rule len a ≡ fine) ↔ IndexSection len a
unfolding index_rule
index_exact len a =
    named (and_exact _ _ (section_exact index_most len a) (need_eq (len % 8) 0 Refusal.Section)) (λ p. record { section = p.0; whole = p.1 }) (λ s. (s.section, s.whole))

pub words_exact : (len : ℕ) → (words_rule len ≡ fine) ↔ WholeWords len
unfolding words_rule
words_exact len =
    named (and_exact _ _ (need_le len words_most Refusal.Section) (need_eq (len % 4) 0 Refusal.Section)) (λ p. record { short = p.0; whole = p.1 }) (λ x. (x.short, x.whole))

-- ---- one law for each way through the rules
pub words_long : (len : ℕ) → words_most < len → words_rule len ≡ Err Refusal.Section
unfolding words_rule
words_long len h = rw (lt-leb len words_most h)

pub words_partial : (len : ℕ) → len ≤ words_most → (len % 4 ≡ 0 → ⊥) → words_rule len ≡ Err Refusal.Section
unfolding words_rule
words_partial len h g = rw (le-leb len words_most h, ne_eqb (len % 4) 0 g)

module _ (most len : ℕ) (a : Addr) where
  pub rule_long : most < len → rule_of len most a ≡ Err Refusal.Section
  unfolding rule_of
  rule_long h = rw (lt-leb _ _ h)

  pub rule_over : len ≤ most → 2 ^ 32 < a.0 + len → rule_of len most a ≡ Err Refusal.Section
  unfolding rule_of
  rule_over h g = rw (le-leb _ _ h, lt-leb _ _ g)

  pub rule_fine : len ≤ most → a.0 + len ≤ 2 ^ 32 → rule_of len most a ≡ fine
  rule_fine h g = (section_exact most len a).1 (record { short = h; placed = g })

-- ---- the only fault is 1
data OnlySection : Check → Type 0 where
  pass : OnlySection fine
  fault : OnlySection (Err Refusal.Section)

need_section : (t : Bool) → OnlySection (need t Refusal.Section)
need_section true = OnlySection.pass
need_section false = OnlySection.fault

and_section : (a b : Check) → OnlySection a → OnlySection b → OnlySection (result_and a b)
and_section a b OnlySection.pass q = q
and_section a b OnlySection.fault q = OnlySection.fault

section_told : (x : Check) (r : Refusal) → OnlySection x → x ≡ Err r → r ≡ Refusal.Section
section_told x r OnlySection.pass e = cc
section_told x r OnlySection.fault e = cc

rule_section : (most len : ℕ) (a : Addr) → OnlySection (rule_of len most a)
unfolding rule_of
rule_section most len a = and_section _ _ (need_section (leb len most)) (need_section (leb (a.0 + len) (2 ^ 32)))

pub rule_fault : (most len : ℕ) (a : Addr) (r : Refusal) → rule_of len most a ≡ Err r → r ≡ Refusal.Section
rule_fault most len a r e = section_told _ r (rule_section most len a) e

pub index_fault : (len : ℕ) (a : Addr) (r : Refusal) → index_rule len a ≡ Err r → r ≡ Refusal.Section
unfolding index_rule
index_fault len a r e = section_told _ r (and_section _ _ (rule_section index_most len a) (need_section (eqb (len % 8) 0))) e
