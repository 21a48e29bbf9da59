-- Each of the sixteen masks is what the definition computes at its place. Assumes nothing.
use Rattle.std.proofs.Common.{ℕ, ◌%◌, Bool, List, [], ◌∷◌, ap, eqb, eqb→eq, slice_index_or, rules}
use Rattle.instruction.specs.Decode.{step, pop_run, run_mask}
use Rattle.instruction.specs.declared.Instruction.{Instruction}
use Rattle.instruction.proofs.Table.{at}
use Rattle.instruction.proofs.ranges.pop_run.Goals as goal

runs : List ℕ
runs = 0x10 ∷ 0x30 ∷ 0x70 ∷ 0xF0 ∷ 0x1F0 ∷ 0x3F0 ∷ 0x7F0 ∷ 0xFF0 ∷ 0x4010 ∷ 0x4030 ∷ 0x4070 ∷ 0x40F0 ∷ 0x41F0 ∷ 0x43F0 ∷ 0x47F0 ∷ 0x4FF0 ∷ []

right : ℕ → ℕ → Bool
right k x = eqb x (run_mask k)

pub returns : goal.returns
unfolding pop_run runs right
returns c = ap (λ (m : ℕ). step (Instruction.RegPop m) c.args.next) (eqb→eq (slice_index_or runs (c.args.b % 16) 0) (run_mask (c.args.b % 16)) (at right runs tt (c.args.b % 16) (search rules)))
