-- Too many entries. Assumes nothing.
use Rattle.std.proofs.Common.{sym, arith}
use Rattle.bundle.proofs.Laws.{count_is, entries_many}
use Rattle.bundle.proofs.read.from_entries.Goals as goal

pub returns-then-n : goal.returns-then-n
returns-then-n c = sym (entries_many _ _ _ c.in_ok-n.n (count_is _ _ _ (sym c.in_ok-n.ensures)) (omega arith))
