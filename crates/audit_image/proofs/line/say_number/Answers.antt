-- The fewest digits of a number of 32 bits are at most ten, and those of the definition. Assumes nothing.
use Rattle.audit_image.specs.Line.{written}
use mathlib.Core.List.{◌++◌}
use mathlib.Core.Path.{◌∙◌, ap}
use native.Mathlib.Omega.{arith}
use Rattle.audit_image.proofs.Decimal.{at_most_ten, digits_shown}
use Rattle.audit_image.proofs.line.say_number.Goals as goal

pub say-requires : goal.say-requires
say-requires c = let few = at_most_ten _ _ c.decimal-k.ensures.len (omega arith) in
    record { bytes = c.requires.bytes; fits = omega arith }

pub returns : goal.returns
returns c = let few = at_most_ten _ _ c.decimal-k.ensures.len (omega arith) in
    record {
      text = c.say.ensures.text ∙ ap (λ t. written c.args.line ++ t) (c.decimal-k.ensures.digits ∙ digits_shown c.args.n _ c.decimal-k.ensures.len (omega arith));
      bytes = c.say.ensures.bytes;
      length = omega arith;
    }
