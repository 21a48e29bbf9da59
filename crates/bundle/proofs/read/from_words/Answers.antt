-- Too many words; and one test of the length stands for the definition's two. Assumes nothing.
use Rattle.std.proofs.Common.{sym, arith}
use Rattle.bundle.proofs.Laws.{count_is, words_many, words_length}
use Rattle.bundle.proofs.read.from_words.Goals as goal

pub returns-then-m : goal.returns-then-m
returns-then-m c = sym (words_many _ _ _ _ c.in_ok-m.m (count_is _ _ _ (sym c.in_ok-m.ensures)) (omega arith))

pub returns-then-bytes-n : goal.returns-then-bytes-n
returns-then-bytes-n c = sym (words_length _ _ _ _ c.in_ok-m.m (count_is _ _ _ (sym c.in_ok-m.ensures)) (omega arith) c.if-bytes-n.true)
