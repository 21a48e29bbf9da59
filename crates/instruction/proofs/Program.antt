-- Laws of an entry's instructions as a walk, and that the audit passes exactly the clean ones. Assumes nothing.
use Rattle.std.proofs.Common.{◌≡◌, ℕ, zero, suc, ◌+◌, ◌≤◌, ◌<◌, Bool, true, false, List, length, leb, ◌↔◌, refl, ap, ◌∙◌, arith, le-leb, Some, None, Ok, Err}
use borrow.Author.Tests.{lt-leb}
use Rattle.std.specs.Result.{result_and}
use Rattle.section.specs.Pick.{pick}
use Rattle.section.specs.Check.{Check, fine, need}
use Rattle.section.specs.Walk.{Look, Trail, checked, Upward}
use Rattle.section.specs.declared.Refusal.{Refusal}
use Rattle.section.proofs.Picks.{by_test}
use Rattle.section.proofs.Checks.{need_le, and_exact, named, no_fault}
use Rattle.section.proofs.Walks.{walk_exact, trail_item, trail_done, trail_bad, trail_last, checked_end, checked_stop, checked_more}
use Rattle.section.specs.Rule.{WholeWords}
use Rattle.instruction.specs.Decode.{Decoded, decode_of, Named}
use Rattle.instruction.specs.Program.{ends_of, look_of, instruction_at, program_of, fault_of, audit_instructions_of, Executable, CleanInstructions, Audited}
use Rattle.instruction.specs.declared.Instruction.{Instruction}
use Rattle.instruction.proofs.Laws.{decode_inside, decode_whole, decode_past, decode_each}

-- an instruction with a next one was decoded
item_step : (i : Instruction) (n : ℕ) (t : Bool) (a : Instruction) (m : ℕ) → pick t (Look.last i) (Look.item i n) ≡ Look.item a m → Path Decoded (Ok (Some (i, n))) (Ok (Some (a, m)))
item_step i n true a m e = cc
item_step i n false a m e = cc

item_decoded : (d : Decoded) (a : Instruction) (m : ℕ) → look_of d ≡ Look.item a m → d ≡ Ok (Some (a, m))
item_decoded (Ok (Some (i, n))) a m e = item_step i n (ends_of i) a m e
item_decoded (Ok None) a m e = cc
item_decoded (Err r) a m e = cc

pub instructions_upward : (w : List ℕ) → Upward (instruction_at w) (length w)
instructions_upward w p m a e = let h = decode_inside w p a m (item_decoded (decode_of w p) a m e) in (h.onward, h.within)

executable_fine : (i : Instruction) → Executable i → fault_of i ≡ fine
executable_fine i Executable.data_pop = refl
executable_fine i Executable.data_push = refl
executable_fine i Executable.reg_pop = refl
executable_fine i Executable.reg_to_sp = refl
executable_fine i (Executable.vfp_pop {start = s} {count = n} h) = (need_le (s + n) 32 Refusal.Regs).1 h
executable_fine i Executable.finish = refl
executable_fine i Executable.refused = refl

fine_executable : (i : Instruction) → fault_of i ≡ fine → Executable i
fine_executable (Instruction.DataPop n) e = Executable.data_pop
fine_executable (Instruction.DataPush n) e = Executable.data_push
fine_executable (Instruction.RegPop n) e = Executable.reg_pop
fine_executable (Instruction.RegToSp n) e = Executable.reg_to_sp
fine_executable (Instruction.VfpPop s n) e = Executable.vfp_pop ((need_le (s + n) 32 Refusal.Regs).0 e)
fine_executable Instruction.Finish e = Executable.finish
fine_executable Instruction.Refused e = Executable.refused
fine_executable Instruction.Reserved e = no_fault Refusal.Reserved e
fine_executable Instruction.Unimplemented e = no_fault Refusal.Unsupported e
fine_executable Instruction.Error e = no_fault Refusal.Malformed e

pub executable_exact : (i : Instruction) → (fault_of i ≡ fine) ↔ Executable i
executable_exact i = (fine_executable i, executable_fine i)

-- what passes is clean, and what is clean passes
pub instructions_exact : (w : List ℕ) (skip : ℕ) → (audit_instructions_of w skip ≡ fine) ↔ CleanInstructions w skip
unfolding audit_instructions_of program_of
instructions_exact w skip =
    named
    (and_exact _ _ (need_le skip 2 Refusal.Section) (walk_exact Executable fault_of executable_exact (instruction_at w) (length w) (instructions_upward w) skip))
    (λ p. record { skips = p.0; executable = p.1 })
    (λ c. (c.skips, c.executable))

-- ---- the instructions from a position, by what is decoded there
module _ (w : List ℕ) (at : ℕ) where
  pub program_end : decode_of w at ≡ Ok None → program_of w at ≡ Trail.end
  unfolding program_of
  program_end e = trail_done (instruction_at w) (length w) at (ap look_of e)

  pub program_refused : (r : Refusal) → decode_of w at ≡ Err r → program_of w at ≡ Trail.stop r
  unfolding program_of
  program_refused r e = trail_bad (instruction_at w) (length w) at r (ap look_of e)

  module _ (i : Instruction) (m : ℕ) (e : decode_of w at ≡ Ok (Some (i, m))) where
    pub program_last : ends_of i ≡ true → program_of w at ≡ Trail.more i Trail.end
    unfolding program_of
    program_last t = trail_last (instruction_at w) (length w) at i (ap look_of e ∙ rw t)

    pub program_next : ends_of i ≡ false → program_of w at ≡ Trail.more i (program_of w m)
    unfolding program_of
    program_next t = trail_item (instruction_at w) (length w) (instructions_upward w) at i m (ap look_of e ∙ rw t)

    -- whichever of the two
    pub program_starts : (t : Trail Instruction) × (program_of w at ≡ Trail.more i t)
    program_starts = by_test (ends_of i) (λ h. (Trail.end, program_last h)) (λ h. (program_of w m, program_next h))

-- ---- whole words are decoded to their end: nothing stops the walk, and each instruction is as decoded
pub data Every (P : Instruction → Type 0) : Trail Instruction → Type 0 where
  end : Every P Trail.end
  more : {i : Instruction} {t : Trail Instruction} → P i → Every P t → Every P (Trail.more i t)

every_from : (w : List ℕ) → WholeWords (length w) → (n at : ℕ) → length w ≤ at + n → Every Named (program_of w at)
every_from w x zero at h = rw (program_end w at (decode_past w at x (omega arith))) Every.end
every_from w x (suc n) at h =
    decode_each w at (λ d. decode_of w at ≡ d → Every Named (program_of w at))
    (λ i m r e.
    by_test (ends_of i)
    (λ t. rw (program_last w at i m e t) (Every.more r.register Every.end))
    (λ t. rw (program_next w at i m e t) (Every.more r.register (every_from w x n m (omega arith)))))
    (λ _ _ e. rw (program_end w at e) Every.end)
    (λ r _ e. decode_whole w at x r e)
    refl

pub program_every : (w : List ℕ) → WholeWords (length w) → (at : ℕ) → Every Named (program_of w at)
program_every w x at = every_from w x (length w) at (omega arith)

-- ---- the audit from a position
abbrev pub audit_from : List ℕ → ℕ → Check
audit_from w at = checked fault_of (program_of w at)

module _ (w : List ℕ) (at : ℕ) where
  pub audit_end : decode_of w at ≡ Ok None → audit_from w at ≡ fine
  audit_end e = rw (program_end w at e) (checked_end fault_of)

  pub audit_refused : (r : Refusal) → decode_of w at ≡ Err r → audit_from w at ≡ Err r
  audit_refused r e = rw (program_refused w at r e) (checked_stop fault_of r)

  module _ (i : Instruction) (m : ℕ) (e : decode_of w at ≡ Ok (Some (i, m))) where
    pub audit_fault : (r : Refusal) → fault_of i ≡ Err r → audit_from w at ≡ Err r
    audit_fault r f = let p = program_starts w at i m e in rw (p.1, checked_more fault_of i p.0, f)

    pub audit_last : ends_of i ≡ true → fault_of i ≡ fine → audit_from w at ≡ fine
    audit_last t f = rw (program_last w at i m e t, checked_more fault_of i Trail.end, f) (checked_end fault_of)

    pub audit_next : ends_of i ≡ false → fault_of i ≡ fine → audit_from w at ≡ audit_from w m
    audit_next t f = rw (program_next w at i m e t, checked_more fault_of i (program_of w m), f)

module _ (w : List ℕ) (skip : ℕ) where
  pub audit_over : 2 < skip → audit_instructions_of w skip ≡ Err Refusal.Section
  unfolding audit_instructions_of
  audit_over h = rw (lt-leb skip 2 h)

  pub audit_from_lem : skip ≤ 2 → audit_instructions_of w skip ≡ audit_from w skip
  unfolding audit_instructions_of
  audit_from_lem h = rw (le-leb skip 2 h)

-- an audit's answer says both
pub audit_told : (w : List ℕ) (skip : ℕ) (r : Check) → r ≡ audit_instructions_of w skip → (r ≡ audit_instructions_of w skip) × ((r ≡ fine) ↔ CleanInstructions w skip)
audit_told w skip r e = (e, rw e (instructions_exact w skip))

-- ---- the faults of an audit of whole words
regs_audited : (t : Bool) → Audited (need t Refusal.Regs)
regs_audited true = Audited.passed
regs_audited false = Audited.regs

pub fault_audited : (i : Instruction) → Audited (fault_of i)
fault_audited (Instruction.DataPop n) = Audited.passed
fault_audited (Instruction.DataPush n) = Audited.passed
fault_audited (Instruction.RegPop n) = Audited.passed
fault_audited (Instruction.RegToSp n) = Audited.passed
fault_audited (Instruction.VfpPop s n) = regs_audited (leb (s + n) 32)
fault_audited Instruction.Finish = Audited.passed
fault_audited Instruction.Refused = Audited.passed
fault_audited Instruction.Reserved = Audited.reserved
fault_audited Instruction.Unimplemented = Audited.unsupported
fault_audited Instruction.Error = Audited.malformed

both_audited : (a b : Check) → Audited a → Audited b → Audited (result_and a b)
both_audited fine b p q = q
both_audited (Err r) b p q = p

trail_audited : {P : Instruction → Type 0} {t : Trail Instruction} → Every P t → Audited (checked fault_of t)
trail_audited Every.end = rw (checked_end fault_of) Audited.passed
trail_audited (Every.more {i = i} {t = t} p u) = rw (checked_more fault_of i t) (both_audited (fault_of i) _ (fault_audited i) (trail_audited u))

pub audit_audited : (w : List ℕ) (skip : ℕ) → WholeWords (length w) → skip ≤ 2 → Audited (audit_instructions_of w skip)
audit_audited w skip x h = rw (audit_from_lem w skip h) (trail_audited (program_every w x skip))
