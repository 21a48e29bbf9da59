-- The loop's turn: a digit more, and how the ULEB ends is seen after it. Assumes nothing.
use Rattle.std.proofs.Common.{ℕ, ◌+◌, ◌%◌, refl, sym, ap, ◌∙◌, arith, lit<, rules}
use Rattle.section.proofs.Digits.{Grown, grow}
use Rattle.section.proofs.Ends.{at_first, at_long, at_early, at_last, at_more}
use Rattle.instruction.specs.Decode.{bytes_from}
use Rattle.instruction.proofs.Laws.{long_by, long_after}
use Rattle.instruction.proofs.uleb.pop_long.Goals as goal
use Rattle.instruction.proofs.uleb.pop_long.Goals.{After-wide-byte, else-loop-k-test, then-loop-k-test+then-at-k}

-- the turn's new number and scale
grown : (c : After-wide-byte) → Grown 128 5 (bytes_from c.args.at.words.now c.args.at.next) c.loop-k.k c.loop-k.value c.loop-k.scale (c.wide-byte.result % 128)
grown c =
    grow 128 5 (lit< tt) _ (omega arith) c.loop-k.invariant.2 c.loop-k.invariant.1 (ap (λ (n : ℕ). n % 128) (c.wide-byte.ensures ∙ c.byte.ensures))

pub loop-k-init : goal.loop-k-init
loop-k-init c = (search rules, refl, refl, at_first _ _)

pub overflow_mul-value : goal.overflow_mul-value
overflow_mul-value c = let g = grown ((goal.at.overflow_mul-value c).After-wide-byte) in omega arith

pub overflow_add-value : goal.overflow_add-value
overflow_add-value c = let g = grown ((goal.at.overflow_add-value c).After-wide-byte) in omega arith

pub overflow_mul-scale : goal.overflow_mul-scale
overflow_mul-scale c = let g = grown ((goal.at.overflow_mul-scale c).After-wide-byte) in omega arith

pub loop-k-preserved : goal.loop-k-preserved
loop-k-preserved c = let g = grown ((goal.at.loop-k-preserved c).After-wide-byte) in
    (omega arith, g.scale_next, g.next, c.loop-k.invariant.3 ∙ at_more _ _ _ (omega arith) (omega arith) (omega arith))

pub returns : goal.returns
returns c = c.error_at.ensures ∙ elim c.loop-k-test.branch [
  | else-loop-k-test w ↦ sym (long_by _ _ _ (c.loop-k.invariant.3 ∙ at_long _ _ _ (omega arith)))
  | then-loop-k-test+then-at-k w ↦ sym (long_by _ _ _ (c.loop-k.invariant.3 ∙ at_early _ _ _ (omega arith) (omega arith)))
]

pub returns-then-byte-lt128 : goal.returns-then-byte-lt128
returns-then-byte-lt128 c = let g = grown ((goal.at.returns-then-byte-lt128 c).After-wide-byte) in
    c.long.ensures
    ∙ long_after c.args.at.words.now c.args.at.next (c.loop-k.k + 1) (omega arith) g.next
    ∙ sym (long_by _ _ _ (c.loop-k.invariant.3 ∙ at_last _ _ _ (omega arith) (omega arith) (omega arith)))
