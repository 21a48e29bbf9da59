-- The paper's number and values for each answer of this crate, as the C library gives them.
use Rattle.std.specs.Prelude.{ℕ, List, [], ◌∷◌}
use Rattle.std.specs.Option.{option_map_or}
use Rattle.section.specs.Answer.{Answer, counted}
use Rattle.instruction.specs.Bytes.{Byte}
use Rattle.instruction.specs.Decode.{Decoded}
use Rattle.instruction.specs.declared.Instruction.{Instruction}

-- whether a byte is there, and the byte
abbrev pub byte_answer : Byte → Answer
byte_answer x = counted 2 (λ o. option_map_or (λ b. 1 ∷ b ∷ []) o (0 ∷ 0 ∷ [])) x

-- kind, a, b, next position
abbrev pub instruction_row : Instruction → ℕ → List ℕ
instruction_row (Instruction.DataPop size) next = 1 ∷ size ∷ 0 ∷ next ∷ []
instruction_row (Instruction.DataPush size) next = 2 ∷ size ∷ 0 ∷ next ∷ []
instruction_row (Instruction.RegPop mask) next = 3 ∷ mask ∷ 0 ∷ next ∷ []
instruction_row (Instruction.RegToSp register) next = 4 ∷ register ∷ 0 ∷ next ∷ []
instruction_row (Instruction.VfpPop start count) next = 5 ∷ start ∷ count ∷ next ∷ []
instruction_row Instruction.Finish next = 6 ∷ 0 ∷ 0 ∷ next ∷ []
instruction_row Instruction.Refused next = 7 ∷ 0 ∷ 0 ∷ next ∷ []
instruction_row Instruction.Reserved next = 8 ∷ 0 ∷ 0 ∷ next ∷ []
instruction_row Instruction.Unimplemented next = 9 ∷ 0 ∷ 0 ∷ next ∷ []
instruction_row Instruction.Error next = 10 ∷ 0 ∷ 0 ∷ next ∷ []

-- what was decoded at a position; at the end of the bytes the next position is that position
abbrev pub decoded_answer : ℕ → Decoded → Answer
decoded_answer at d = counted 4 (λ o. option_map_or (λ s. instruction_row s.0 s.1) o (0 ∷ 0 ∷ 0 ∷ at ∷ [])) d
