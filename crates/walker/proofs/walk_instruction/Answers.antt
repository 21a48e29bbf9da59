-- The start, the step and what is made of them are the definition's. Assumes nothing.
use Rattle.walker.proofs.Laws.{instruction_walked}
use Rattle.walker.proofs.walk_instruction.Goals as goal

pub returns : goal.returns
returns c = cc (instruction_walked _ _ c.args.skip c.args.pos c.from_bytes-start.ensures.1.0)
