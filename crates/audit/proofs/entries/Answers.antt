-- What is left of the entries, tested in turn, is what the contract asks. Assumes nothing.
use Rattle.std.proofs.Common.{◌+◌, ◌-◌, ◌/◌, length, refl, sym, ◌∙◌, arith}
use Rattle.audit.proofs.Turns.{floor_first, turn_first, turn_fault, turn_next}
use Rattle.audit.proofs.entries.Goals as goal

pub loop-number-init : goal.loop-number-init
loop-number-init c = (refl, floor_first _, turn_first _ _ _ (omega arith))

pub returns-in-Err : goal.returns-in-Err
returns-in-Err c =
    let left = length c.args.image.index.bytes.now / 8 - (c.loop-number.number + 1) in
    sym (c.loop-number.invariant.2 ∙ turn_fault _ left _ _ (omega arith) _ c.loop-number.invariant.1 _ (sym c.check_entry.ensures ∙ c.in-Err.is))

pub loop-number-preserved : goal.loop-number-preserved
loop-number-preserved c =
    let left = length c.args.image.index.bytes.now / 8 - (c.loop-number.number + 1) in
    let t = turn_next _ left _ _ (omega arith) _ c.loop-number.invariant.1 _ (sym c.check_entry.ensures ∙ c.in-Ok.is) in
    (c.loop-number.invariant.0, t.1, c.loop-number.invariant.2 ∙ t.0)
