-- How a run can end, whatever the registers and the stack: besides 12 and 17 an instruction is refused only with what an audit has against it. So clean instructions
-- end with the next frame, 12 or 17, and whole words are never refused with 1. Assumes nothing.
use Rattle.std.proofs.Common.{◌≡◌, ℕ, ◌+◌, ◌≤◌, Bool, false, leb, List, length, sym, refl, ◌∙◌, Some, None, Ok, Err}
use Rattle.std.specs.Option.{ok_or}
use Rattle.section.specs.Check.{Answered, fine, and_then, on_answer}
use Rattle.section.specs.Walk.{Trail, checked}
use Rattle.section.specs.declared.Addr.{Addr}
use Rattle.section.specs.declared.Refusal.{Refusal}
use Rattle.section.proofs.Picks.{pick_each}
use Rattle.section.proofs.Checks.{no_fault}
use Rattle.section.proofs.Walks.{checked_stop, more_fine}
use Rattle.section.specs.Rule.{WholeWords}
use Rattle.instruction.specs.Program.{program_of, fault_of, audit_instructions_of, Audited}
use Rattle.instruction.specs.declared.Instruction.{Instruction}
use Rattle.instruction.proofs.Program.{Every, program_every, fault_audited, instructions_exact, audit_from_lem}
use Rattle.step.specs.Execute.{Effect, Popped, sp_of, pop_from, pop_regs, vfp_from, pop_vfp, execute_of}
use Rattle.step.specs.Run.{framed, refused_step, after, run_from, run_of, Arrives, Ended}
use Rattle.step.specs.declared.Registers.{Registers}
use Rattle.step.specs.declared.Arrival.{Arrival}
use Rattle.step.specs.declared.execute.Outcome.{Outcome}
use Rattle.step.proofs.Runs.{run_from_lem}

-- an effect that is no refusal, or one with which a run may end
data Goes (P : Answered Arrival → Type 0) : Effect → Type 0 where
  goes : {e : Outcome × Registers} → Goes P (Ok e)
  refused : {why : Refusal} → P (Err why) → Goes P (Err why)

module _ (P : Answered Arrival → Type 0) (st : List ℕ) (base : Addr) where
  popped : P (Err Refusal.Stack) → (p : Popped) (f : List ℕ × ℕ → Outcome × Registers) → Goes P (and_then (ok_or p Refusal.Stack) (λ x. Ok (f x)))
  popped s (Some x) f = Goes.goes
  popped s None f = Goes.refused s

  executes : P (Err Refusal.Refused) → P (Err Refusal.Stack) → (r : Registers) (i : Instruction) → ((why : Refusal) → fault_of i ≡ Err why → P (Err why)) → Goes P (execute_of st base r i)
  unfolding execute_of pop_regs pop_vfp
  executes a s r (Instruction.DataPop n) h = Goes.goes
  executes a s r (Instruction.DataPush n) h = Goes.goes
  executes a s r (Instruction.RegPop mask) h = popped s (pop_from 16 st base mask 0 (sp_of r.core) r.core) _
  executes a s r (Instruction.RegToSp n) h = Goes.goes
  executes a s r (Instruction.VfpPop start count) h =
      pick_each (Goes P) (leb (start + count) 32) _ _
      (λ _. popped s (vfp_from count st base start (sp_of r.core) r.vfp) _)
      (λ t. Goes.refused (h Refusal.Regs (rw t)))
  executes a s r Instruction.Finish h = Goes.goes
  executes a s r Instruction.Refused h = Goes.refused a
  executes a s r Instruction.Reserved h = Goes.refused (h Refusal.Reserved refl)
  executes a s r Instruction.Unimplemented h = Goes.refused (h Refusal.Unsupported refl)
  executes a s r Instruction.Error h = Goes.refused (h Refusal.Malformed refl)

  module _ (given : Registers) (frame : (n : ℕ) → P (Ok (Arrival.Frame n))) where
    goes_on : (t : Trail Instruction) (loaded : Bool) (n : ℕ) (x : Effect) → Goes P x → ((r : Registers) (l : Bool) → P (run_from t st base given r l (n + 1)).arrival) → P (on_answer x (λ e. after e.0 loaded (λ l. run_from t st base given e.1 l (n + 1)) (λ l. framed e.1 l (n + 1))) (refused_step given)).arrival
    goes_on t loaded n (Ok (Outcome.Next pc, r)) g h = h r _
    goes_on t loaded n (Ok (Outcome.Finished, r)) g h = frame _
    goes_on t loaded n (Err why) (Goes.refused p) h = p

    runs : {Q : Instruction → Type 0} → ((r : Registers) (i : Instruction) → Q i → Goes P (execute_of st base r i)) → {t : Trail Instruction} → Every Q t → (r : Registers) (loaded : Bool) (n : ℕ) → P (run_from t st base given r loaded n).arrival
    unfolding run_from
    runs g Every.end r loaded n = frame n
    runs g (Every.more {i = i} {t = t} q u) r loaded n = goes_on t loaded n (execute_of st base r i) (g r i q) (λ r' l. runs g u r' l (n + 1))

-- a trail that passes has only instructions that pass
passes : (t : Trail Instruction) → checked fault_of t ≡ fine → Every (λ i. fault_of i ≡ fine) t
passes Trail.end e = Every.end
passes (Trail.stop why) e = no_fault why (sym (checked_stop fault_of why) ∙ e)
passes (Trail.more i t) e = let h = more_fine fault_of i t e in Every.more h.0 (passes t h.1)

module _ (w : List ℕ) (skip : ℕ) (st : List ℕ) (base : Addr) (given : Registers) where
  pub clean_run : audit_instructions_of w skip ≡ fine → Arrives (run_of w skip st base given).arrival
  clean_run e =
      let h = ((instructions_exact w skip).0 e).skips in
      rw (run_from_lem w skip st base given h)
      (runs Arrives st base given (λ n. Arrives.frame)
      (λ r i f. executes Arrives st base Arrives.refused Arrives.stack r i (λ why g. no_fault why (sym g ∙ f)))
      (passes (program_of w skip) (sym (audit_from_lem w skip h) ∙ e))
      given
      false
      0)

  pub whole_run : WholeWords (length w) → skip ≤ 2 → Ended (run_of w skip st base given).arrival
  whole_run x h =
      rw (run_from_lem w skip st base given h)
      (runs Ended st base given (λ n. Ended.frame)
      (λ r i _. executes Ended st base Ended.refused Ended.stack r i (λ why g. told why (rw g at (fault_audited i))))
      (program_every w x skip)
      given
      false
      0)
    where
      told : (why : Refusal) → Audited (Err why) → Ended (Err why)
      told why Audited.reserved = Ended.reserved
      told why Audited.unsupported = Ended.unsupported
      told why Audited.malformed = Ended.malformed
      told why Audited.regs = Ended.regs
