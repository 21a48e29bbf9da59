-- Laws of the run of a frame, a turn at a time. Assumes nothing.
use Rattle.std.proofs.Common.{◌≡◌, ℕ, ◌+◌, ◌<◌, ◌≤◌, Bool, false, ◌||◌, List, refl, ap, le-leb, Some, None, Ok, Err}
use borrow.Author.Tests.{lt-leb}
use Rattle.section.specs.declared.Addr.{Addr}
use Rattle.section.specs.declared.Refusal.{Refusal}
use Rattle.instruction.specs.Decode.{decode_of}
use Rattle.instruction.specs.Program.{ends_of, program_of}
use Rattle.instruction.specs.declared.Instruction.{Instruction}
use Rattle.instruction.proofs.Program.{program_end, program_refused, program_next, program_starts}
use Rattle.step.specs.Execute.{next, finished, execute_of}
use Rattle.step.specs.Run.{framed, refused_step, run_from, run_of}
use Rattle.step.specs.declared.Registers.{Registers}
use Rattle.step.specs.declared.execute.Outcome.{Outcome}

-- the end of a frame is no next instruction
not_next : {X : Type 0} (r r' : Registers) (pc : Bool) → finished r ≡ next r' pc → X
not_next r r' pc e =
    let s : Path (Outcome × Registers) (Outcome.Finished, r) (Outcome.Next pc, r') = cc in
    let o : Outcome.Finished ≡ Outcome.Next pc = ap (λ x. x.0) s in
    cc

-- an instruction that leads to a next one does not end the walk
next_goes_on : (st : List ℕ) (base : Addr) (r : Registers) (i : Instruction) (r' : Registers) (pc : Bool) → execute_of st base r i ≡ next r' pc → ends_of i ≡ false
unfolding execute_of
next_goes_on st base r (Instruction.DataPop n) r' pc e = refl
next_goes_on st base r (Instruction.DataPush n) r' pc e = refl
next_goes_on st base r (Instruction.RegPop n) r' pc e = refl
next_goes_on st base r (Instruction.RegToSp n) r' pc e = refl
next_goes_on st base r (Instruction.VfpPop s n) r' pc e = refl
next_goes_on st base r Instruction.Finish r' pc e = not_next r r' pc e
next_goes_on st base r Instruction.Refused r' pc e = cc
next_goes_on st base r Instruction.Reserved r' pc e = refl
next_goes_on st base r Instruction.Unimplemented r' pc e = refl
next_goes_on st base r Instruction.Error r' pc e = refl

module _ (w st : List ℕ) (base : Addr) (given : Registers) (at : ℕ) (r : Registers) (loaded : Bool) (n : ℕ) where
  pub run_end : decode_of w at ≡ Ok None → run_from (program_of w at) st base given r loaded n ≡ framed r loaded n
  unfolding run_from
  run_end e = rw (program_end w at e)

  pub run_stop : (why : Refusal) → decode_of w at ≡ Err why → run_from (program_of w at) st base given r loaded n ≡ refused_step given why
  unfolding run_from
  run_stop why e = rw (program_refused w at why e)

  module _ (i : Instruction) (m : ℕ) (e : decode_of w at ≡ Ok (Some (i, m))) where
    pub run_next : (r' : Registers) (pc : Bool) → execute_of st base r i ≡ next r' pc → run_from (program_of w at) st base given r loaded n ≡ run_from (program_of w m) st base given r' (loaded || pc) (n + 1)
    unfolding run_from
    run_next r' pc h = rw (program_next w at i m e (next_goes_on st base r i r' pc h), h)

    pub run_finish : (r' : Registers) → execute_of st base r i ≡ finished r' → run_from (program_of w at) st base given r loaded n ≡ framed r' loaded (n + 1)
    unfolding run_from
    run_finish r' h = rw ((program_starts w at i m e).1, h)

    pub run_refuse : (why : Refusal) → execute_of st base r i ≡ Err why → run_from (program_of w at) st base given r loaded n ≡ refused_step given why
    unfolding run_from
    run_refuse why h = rw ((program_starts w at i m e).1, h)

module _ (w : List ℕ) (skip : ℕ) (st : List ℕ) (base : Addr) (given : Registers) where
  pub run_from_lem : skip ≤ 2 → run_of w skip st base given ≡ run_from (program_of w skip) st base given given false 0
  unfolding run_of
  run_from_lem h = rw (le-leb skip 2 h)

  pub run_over : 2 < skip → run_of w skip st base given ≡ refused_step given Refusal.Section
  unfolding run_of
  run_over h = rw (lt-leb skip 2 h)
