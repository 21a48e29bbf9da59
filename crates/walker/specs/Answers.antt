-- The paper's number and values for each answer of a walk.
use Rattle.std.specs.Prelude.{ℕ, [], ◌∷◌}
use Rattle.std.specs.Option.{option_map_or}
use Rattle.section.specs.Answer.{Answer, counted}
use Rattle.instruction.specs.Answers.{decoded_answer}
use Rattle.instruction.specs.declared.Instruction.{Instruction}
use Rattle.walker.specs.declared.Walked.{Walked}

-- whether a byte is there, the byte, next position
abbrev pub walked_byte_answer : Walked ℕ → Answer
walked_byte_answer x = counted 3 (λ o. option_map_or (λ b. 1 ∷ b ∷ x.pos ∷ []) o (0 ∷ 0 ∷ x.pos ∷ [])) x.got

-- kind, a, b, next position; at the end of the bytes the next position is the walker's
abbrev pub walked_instruction_answer : Walked (Instruction × ℕ) → Answer
walked_instruction_answer x = decoded_answer x.pos x.got
