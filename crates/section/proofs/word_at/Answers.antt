-- Four bytes that are there are the word, and past the end there is none. Assumes nothing.
use Rattle.std.proofs.Common.{sym, ap, ◌∙◌, arith, Some}
use Rattle.section.proofs.Words.{word_in, word_out, word_bytes}
use Rattle.section.proofs.word_at.Goals as goal

pub returns-then-o-s : goal.returns-then-o-s
returns-then-o-s c = ap Some (c.from_le.ensures ∙ word_bytes c.args.s.now c.args.at.0 c.type_inv.s) ∙ sym (word_in _ _ (omega arith))

pub returns-else-o-s : goal.returns-else-o-s
returns-else-o-s c = sym (word_out _ _ (omega arith))
