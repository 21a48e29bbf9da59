-- The instructions, by ranges of the first byte b; n is the position after it. The paper's list, line by line.
use Rattle.std.specs.Prelude.{ℕ, ◌+◌, ◌-◌, ◌*◌, ◌/◌, ◌%◌, ◌^◌, ◌<◌, List, length, nat_le, ◌==◌, Option, Some, None, Ok}
use Rattle.std.specs.Option.{option_map_or}
use Rattle.section.specs.Pick.{pick}
use Rattle.section.specs.Digits.{digits, End, end_of}
use Rattle.section.specs.Check.{Answered, and_then}
use Rattle.instruction.specs.Bytes.{instruction_byte, byte_of}
use Rattle.instruction.specs.declared.Instruction.{Instruction}
use Rattle.instruction.specs.declared.Instruction.TheVariants.{DataPop, DataPush, RegPop, RegToSp, VfpPop, Finish, Refused, Reserved, Unimplemented, Error}

-- an instruction, with the position after it
abbrev pub Step : Type 0
Step = Answered (Instruction × ℕ)

abbrev pub step : Instruction → ℕ → Step
step i n = Ok (i, n)

-- after Error the walk is at its end
abbrev pub error_at : List ℕ → Step
error_at w = step Error (length w)

-- an instruction with a second byte; a missing byte is Error
abbrev pub with_second : List ℕ → ℕ → (ℕ → Step) → Step
with_second w n f = and_then (byte_of w n) (λ o. option_map_or f o (error_at w))

-- 00-3F: pop 4 to 256 data bytes, (low six bits) * 4 + 4; 40-7F: push, same size
abbrev pub size_of : ℕ → ℕ
size_of b = b % 64 * 4 + 4

-- 80-8F with a second byte: 80 00 Refused; else the mask (low nibble * 256 + second) * 16
abbrev pub mask_of : ℕ → ℕ → Step
mask_of n m = pick (m == 0) (step Refused n) (step (RegPop (m * 16)) n)

unfoldable pub pop_mask : List ℕ → ℕ → ℕ → Step
pop_mask w n b = with_second w n (λ c. mask_of (n + 1) (b % 16 * 256 + c))

-- 90-9F: sp from that register; 9D and 9F Reserved
unfoldable pub to_sp : ℕ → ℕ → Step
to_sp n b = pick (b == 0x9D) (step Reserved n) (pick (b == 0x9F) (step Reserved n) (step (RegToSp (b % 16)) n))

-- A0-A7: registers 4 to 4 + n; A8-AF: those and 14
abbrev pub run_mask : ℕ → ℕ
run_mask i = (2 ^ (i % 8 + 1) - 1) * 2 ^ 4 + i / 8 * 2 ^ 14

unfoldable pub pop_run : ℕ → ℕ → Step
pop_run n b = step (RegPop (run_mask (b % 16))) n

-- B1 with a second byte: Reserved if 0 or high nibble set; else that mask
unfoldable pub low_mask : List ℕ → ℕ → Step
low_mask w n = with_second w n (λ c. pick (c == 0) (step Reserved (n + 1)) (pick (nat_le 0x10 c) (step Reserved (n + 1)) (step (RegPop c) (n + 1))))

-- B2 with ULEB v: pop 4v + 0x204. At most five bytes, v at most 0x3FFFFF7E; else Error
abbrev pub bytes_from : List ℕ → ℕ → ℕ → ℕ
bytes_from w n i = instruction_byte w (n + i)

unfoldable pub long_of : List ℕ → ℕ → ℕ → Step
long_of w n v = pick (nat_le v 0x3FFFFF7E) (step (DataPop (4 * v + 0x204)) n) (error_at w)

abbrev pub ended_long : List ℕ → ℕ → End → Step
ended_long w n (End.after k) = long_of w (n + k) (digits 128 (bytes_from w n) k)
ended_long w n End.early = error_at w
ended_long w n End.long = error_at w

unfoldable pub pop_long : List ℕ → ℕ → Step
pop_long w n = ended_long w n (end_of (bytes_from w n) (length w - n))

-- C8, C9 with a second byte: VFP pop, start (high nibble) + 16 or high nibble, count (low nibble) + 1
unfoldable pub vfp_pop : List ℕ → ℕ → ℕ → Step
vfp_pop w n more = with_second w n (λ c. step (VfpPop (c / 16 + more) (c % 16 + 1)) (n + 1))

-- B0 Finish; all others: Unimplemented, one byte taken
unfoldable pub single_of : List ℕ → ℕ → ℕ → Step
single_of w n b =
    pick (b == 0xB0) (step Finish n)
    (pick (b == 0xB1) (low_mask w n)
    (pick (b == 0xB2) (pop_long w n)
    (pick (b == 0xC8) (vfp_pop w n 16)
    (pick (b == 0xC9) (vfp_pop w n 0)
    (step Unimplemented n)))))

unfoldable pub opcode_of : List ℕ → ℕ → ℕ → Step
opcode_of w n b =
    pick (nat_le b 0x3F) (step (DataPop (size_of b)) n)
    (pick (nat_le b 0x7F) (step (DataPush (size_of b)) n)
    (pick (nat_le b 0x8F) (pop_mask w n b)
    (pick (nat_le b 0x9F) (to_sp n b)
    (pick (nat_le b 0xAF) (pop_run n b)
    (single_of w n b)))))

-- the instruction at position k, or none past the end
abbrev pub Decoded : Type 0
Decoded = Answered (Option (Instruction × ℕ))

unfoldable pub decode_of : List ℕ → ℕ → Decoded
decode_of w k = and_then (byte_of w k) (λ o. option_map_or (λ b. and_then (opcode_of w (k + 1) b) (λ s. Ok (Some s))) o (Ok None))

-- ---- what is decoded: the register that sp is taken from is one of the sixteen
abbrev pub Named : Instruction → Type 0
Named (RegToSp r) = r < 16
Named (DataPop n) = Unit
Named (DataPush n) = Unit
Named (RegPop n) = Unit
Named (VfpPop s n) = Unit
Named Finish = Unit
Named Refused = Unit
Named Reserved = Unit
Named Unimplemented = Unit
Named Error = Unit
