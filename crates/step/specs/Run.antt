-- The instructions of one frame, executed in turn, and how many they were.
use Rattle.std.specs.Prelude.{ℕ, ◌+◌, Bool, false, ◌||◌, List, nat_le, slice_index, slice_set, Ok, Err}
use Rattle.section.specs.Pick.{pick}
use Rattle.section.specs.Check.{Answered, on_answer}
use Rattle.section.specs.Walk.{Trail}
use Rattle.section.specs.declared.Addr.{Addr}
use Rattle.section.specs.declared.Refusal.{Refusal}
use Rattle.instruction.specs.Program.{program_of}
use Rattle.instruction.specs.declared.Instruction.{Instruction}
use Rattle.step.specs.Execute.{registers, execute_of}
use Rattle.step.specs.declared.Registers.{Registers}
use Rattle.step.specs.declared.Arrival.{Arrival}
use Rattle.step.specs.declared.Stepped.{Stepped}
use Rattle.step.specs.declared.execute.Outcome.{Outcome}

-- 15 takes 14 unless it was loaded in this frame
abbrev pub linked : List ℕ → Bool → List ℕ
linked core loaded = pick loaded core (slice_set core 15 (slice_index core 14))

-- Finish or the end of the bytes: the next frame, with the number of instructions executed
abbrev pub framed : Registers → Bool → ℕ → Stepped
framed r loaded n = record { arrival = Ok (Arrival.Frame n); registers = registers (linked r.core loaded) r.vfp }

-- the registers given
abbrev pub handed : Registers → Answered Arrival → Stepped
handed given a = record { arrival = a; registers = given }

abbrev pub refused_step : Registers → Refusal → Stepped
refused_step given r = handed given (Err r)

-- after an outcome: what the next instructions lead to, with whether 15 was loaded so far, or the end of the frame
abbrev pub after : Outcome → Bool → (Bool → Stepped) → (Bool → Stepped) → Stepped
after (Outcome.Next pc) loaded go end = go (loaded || pc)
after Outcome.Finished loaded go end = end loaded

-- the instructions in turn; r, loaded and n are the registers, whether 15 was loaded, and how many were executed so far. Finish counts, a bare end does not
unfoldable pub run_from : Trail Instruction → List ℕ → Addr → Registers → Registers → Bool → ℕ → Stepped
run_from Trail.end st base given r loaded n = framed r loaded n
run_from (Trail.stop why) st base given r loaded n = refused_step given why
run_from (Trail.more i t) st base given r loaded n =
    on_answer (execute_of st base r i)
    (λ e. after e.0 loaded (λ l. run_from t st base given e.1 l (n + 1)) (λ l. framed e.1 l (n + 1)))
    (refused_step given)

-- a skip over 2 is 1
unfoldable pub run_of : List ℕ → ℕ → List ℕ → Addr → Registers → Stepped
run_of w skip st base given =
    pick (nat_le skip 2) (run_from (program_of w skip) st base given given false 0) (refused_step given Refusal.Section)

-- the step that code reports: the count of its run, and the registers as it leaves them. A refusal hands back those given
abbrev pub ends_as : Registers → Answered ℕ → List ℕ → List ℕ → Stepped
ends_as given x core vfp = on_answer x (λ n. record { arrival = Ok (Arrival.Frame n); registers = registers core vfp }) (refused_step given)

-- ---- where instructions lead that the audit passes: to the next frame, the refusal that they themselves ask, or the stack's
pub data Arrives : Answered Arrival → Type 0 where
  frame : {n : ℕ} → Arrives (Ok (Arrival.Frame n))
  refused : Arrives (Err Refusal.Refused)
  stack : Arrives (Err Refusal.Stack)

-- and where any whole words lead, from a skip of at most 2
pub data Ended : Answered Arrival → Type 0 where
  frame : {n : ℕ} → Ended (Ok (Arrival.Frame n))
  refused : Ended (Err Refusal.Refused)
  reserved : Ended (Err Refusal.Reserved)
  unsupported : Ended (Err Refusal.Unsupported)
  malformed : Ended (Err Refusal.Malformed)
  regs : Ended (Err Refusal.Regs)
  stack : Ended (Err Refusal.Stack)
