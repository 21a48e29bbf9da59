-- Why a step is refused, put together as the definition is; and that a step in place leaves one answer. Assumes nothing.
use Rattle.std.proofs.Common.{◌≡◌, ℕ, ◌*◌, ◌%◌, ◌≤◌, List, length, sym, refl, ap, ◌∙◌, arith, Ok, Err}
use Rattle.std.specs.Result.{result_and}
use Rattle.section.specs.Check.{Answered, Check, fine, and_then, on_answer}
use Rattle.section.specs.Number.{number}
use Rattle.section.specs.Rule.{stack_most, stack_rule}
use Rattle.section.specs.declared.Addr.{Addr}
use Rattle.section.specs.declared.Refusal.{Refusal}
use Rattle.section.proofs.Checks.{fault_not}
use Rattle.section.proofs.Rules.{section_exact, rule_fault}
use Rattle.entry.specs.declared.Span.{Span}
use Rattle.image.specs.Image.{Image, sections_of, Sections, entry_at, words_of}
use Rattle.image.specs.Read.{Readable, EntryRefusal, Leads}
use Rattle.image.specs.declared.Found.{Found}
use Rattle.image.proofs.Laws.{sections_exact, sections_fault, entry_leads}
use Rattle.search.specs.Reasons.{NoHit}
use Rattle.search.specs.Search.{search_of}
use Rattle.search.specs.declared.Hit.{Hit}
use Rattle.search.proofs.Laws.{found_begins, search_why}
use Rattle.step.specs.Reasons.{NoStep}
use Rattle.step.specs.Run.{refused_step, Ended}
use Rattle.step.specs.Step.{stands, ran_by, stepped_by, counter_of, found_of, step_of}
use Rattle.step.specs.declared.Registers.{Registers}
use Rattle.step.specs.declared.Arrival.{Arrival}
use Rattle.step.specs.declared.Stepped.{Stepped}
use Rattle.step.proofs.Clean.{whole_run}

module _ (i : Image) (st : List ℕ) (base : Addr) where
  -- of an answer P holds, and a refusal is one of a step
  abbrev Reasoned : {A : Type 0} → (A → Type 0) → Answered A → Type 0
  Reasoned P (Ok x) = P x
  Reasoned P (Err r) = NoStep i st base r

  -- ---- on the way to the entry
  tested : {A : Type 0} (P : A → Type 0) (x : Check) (y : Answered A) → ((r : Refusal) → x ≡ Err r → NoStep i st base r) → (x ≡ fine → Reasoned P y) → Reasoned P (result_and x y)
  tested P fine y n h = h refl
  tested P (Err r) y n h = n r refl

  of_search : (r : Refusal) → Sections i → NoHit (length i.index) i.index_at r → NoStep i st base r
  of_search r s (NoHit.section n) = absurd (n s.index)
  of_search r s NoHit.no_entry = NoStep.no_entry
  of_search r s NoHit.corrupt = NoStep.corrupt

  of_entry : (r : Refusal) → EntryRefusal r → NoStep i st base r
  of_entry r EntryRefusal.corrupt = NoStep.corrupt
  of_entry r EntryRefusal.place = NoStep.place
  of_entry r EntryRefusal.truncated = NoStep.truncated
  of_entry r EntryRefusal.selector = NoStep.selector

  abbrev Led : Found → Type 0
  Led f = Leads i (Ok f)

  led : (x : Answered Found) → Leads i x → Reasoned Led x
  led (Ok f) l = l
  led (Err r) (Leads.refused w) = of_entry r w

  searched : (counter : Addr) → Sections i → (y : Answered Hit) → search_of i.index i.index_at counter ≡ y → Reasoned Led (and_then y (λ h. entry_at i h.entry))
  searched counter s (Ok h) e = led (entry_at i h.entry) (entry_leads i s h.entry (found_begins i.index i.index_at counter h e).inside)
  searched counter s (Err r) e = of_search r s (search_why i.index i.index_at counter r e)

  found_reasoned : (counter : Addr) → Reasoned Led (found_of i st base counter)
  unfolding found_of
  found_reasoned counter =
      tested Led (sections_of i) _
      (λ r e. rw (sections_fault i r e) (NoStep.section (λ p. fault_not (sections_of i) r (sections_exact i) e p.0)))
      (λ s. tested Led (stack_rule (length st) base) _
      (λ r e. rw (rule_fault stack_most (length st) base r e) (NoStep.section (λ p. fault_not (stack_rule (length st) base) r (section_exact stack_most (length st) base) e p.1)))
      (λ _. searched counter ((sections_exact i).0 s) (search_of i.index i.index_at counter) refl))

  -- ---- and from there
  of_ended : (a : Answered Arrival) → Ended a → Reasoned (λ _. Unit) a
  of_ended a Ended.frame = tt
  of_ended a Ended.refused = NoStep.refused
  of_ended a Ended.reserved = NoStep.reserved
  of_ended a Ended.unsupported = NoStep.unsupported
  of_ended a Ended.malformed = NoStep.malformed
  of_ended a Ended.regs = NoStep.regs
  of_ended a Ended.stack = NoStep.stack

  module _ (given : Registers) where
    of_ran : (s : Span) → Readable i s → Reasoned (λ _. Unit) (ran_by i st base given s).arrival
    of_ran s w =
        of_ended _ (whole_run (words_of i s) s.skip st base given (record { short = w.short; whole = whole (length (words_of i s)) s.words w.whole }) w.skips_few)
      where
        whole : (n k : ℕ) → n ≡ 4 * k → n % 4 ≡ 0
        whole n k e = omega arith

    of_found : (f : Found) → Led f → Reasoned (λ _. Unit) (stepped_by i st base given f).arrival
    unfolding stepped_by
    of_found f (Leads.cannot _) = tt
    of_found f (Leads.compact {s = s} _ _ w) = of_ran s w
    of_found f (Leads.generic {s = s} _ _ w _ _) = of_ran s w

    of_step : Reasoned (λ _. Unit) (step_of i st base given).arrival
    unfolding step_of
    of_step = go (found_of i st base (counter_of given)) (found_reasoned (counter_of given))
      where
        go : (x : Answered Found) → Reasoned Led x → Reasoned (λ _. Unit) (on_answer x (stepped_by i st base given) (refused_step given)).arrival
        go (Ok f) l = of_found f l
        go (Err r) n = n

    pub step_why : (r : Refusal) → (step_of i st base given).arrival ≡ Err r → NoStep i st base r
    step_why r e = rw e at of_step

-- a step in place leaves one answer: where it leads, with the count, and every register
pub stands_one : (a b : Answered Arrival) (core vfp core' vfp' : List ℕ) (x : Stepped) → stands a core vfp ≡ x → stands b core' vfp' ≡ x → (a ≡ b) × (core ≡ core') × (vfp ≡ vfp')
stands_one a b core vfp core' vfp' x p q =
    let e = p ∙ sym q in
    (ap (λ (s : Stepped). s.arrival) e, ap (λ (s : Stepped). s.registers.core) e, ap (λ (s : Stepped). s.registers.vfp) e)

-- in the paper's numbers: at most 17, never 4, which is the audit's alone, and never 8 to 11, which are a lookup's
pub step_numbers : (i : Image) (st : List ℕ) (base : Addr) (r : Refusal) → NoStep i st base r → (number r ≤ 17) × (number r ≡ 4 → ⊥) × (8 ≤ number r → number r ≤ 11 → ⊥)
step_numbers i st base r (NoStep.section _) = (omega arith, λ e. omega arith, λ a b. omega arith)
step_numbers i st base r NoStep.no_entry = (omega arith, λ e. omega arith, λ a b. omega arith)
step_numbers i st base r NoStep.corrupt = (omega arith, λ e. omega arith, λ a b. omega arith)
step_numbers i st base r NoStep.place = (omega arith, λ e. omega arith, λ a b. omega arith)
step_numbers i st base r NoStep.truncated = (omega arith, λ e. omega arith, λ a b. omega arith)
step_numbers i st base r NoStep.selector = (omega arith, λ e. omega arith, λ a b. omega arith)
step_numbers i st base r NoStep.refused = (omega arith, λ e. omega arith, λ a b. omega arith)
step_numbers i st base r NoStep.reserved = (omega arith, λ e. omega arith, λ a b. omega arith)
step_numbers i st base r NoStep.unsupported = (omega arith, λ e. omega arith, λ a b. omega arith)
step_numbers i st base r NoStep.malformed = (omega arith, λ e. omega arith, λ a b. omega arith)
step_numbers i st base r NoStep.regs = (omega arith, λ e. omega arith, λ a b. omega arith)
step_numbers i st base r NoStep.stack = (omega arith, λ e. omega arith, λ a b. omega arith)
