-- The paper's number and values of an audit's answer: the entry at fault, 0 for a section's.
use Rattle.std.specs.Prelude.{[], ◌∷◌, Ok, Err}
use Rattle.section.specs.Answer.{Answer, given}
use Rattle.section.specs.Number.{number}
use Rattle.audit.specs.Audit.{Verdict}

abbrev pub verdict_answer : Verdict → Answer
verdict_answer (Ok x) = given (0 ∷ [])
verdict_answer (Err f) = record { number = number f.refusal; row = f.entry ∷ [] }
