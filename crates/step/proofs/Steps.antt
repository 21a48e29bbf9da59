-- Laws of a step: one for each way to an answer. Assumes nothing.
use Rattle.std.proofs.Common.{◌≡◌, ℕ, List, length, sym, refl, ap, ◌∙◌, Ok, Err}
use Rattle.section.specs.Check.{Answered, fine, on_answer}
use Rattle.section.specs.Rule.{stack_rule}
use Rattle.section.specs.declared.Addr.{Addr}
use Rattle.section.specs.declared.Off.{Off}
use Rattle.section.specs.declared.Refusal.{Refusal}
use Rattle.entry.specs.declared.Span.{Span}
use Rattle.image.specs.Image.{Image, sections_of, entry_at, led_by, words_of}
use Rattle.image.specs.declared.Found.{Found}
use Rattle.search.specs.Search.{search_of}
use Rattle.search.specs.declared.Hit.{Hit}
use Rattle.search.proofs.Laws.{found_led}
use Rattle.instruction.specs.Program.{audit_instructions_of}
use Rattle.step.specs.Run.{refused_step, run_of, Arrives}
use Rattle.step.specs.Step.{ran_by, stepped_by, counter_of, found_of, step_of}
use Rattle.step.specs.declared.Registers.{Registers}
use Rattle.step.specs.declared.Stepped.{Stepped}
use Rattle.step.specs.declared.Arrival.{Arrival}
use Rattle.step.proofs.Clean.{clean_run}

-- the run of a span's words, w, is the step by the span
pub span_ran : (i : Image) (st : List ℕ) (base : Addr) (given : Registers) (s : Span) {w : List ℕ} → w ≡ words_of i s → {x : Stepped}
    → run_of w s.skip st base given ≡ x → x ≡ ran_by i st base given s
span_ran i st base given s words ran = sym ran ∙ ap (λ (l : List ℕ). run_of l s.skip st base given) words

module _ (i : Image) (st : List ℕ) (base : Addr) (given : Registers) where
  -- ---- where a step leads, by what the entry leads to
  pub cannot_arrives : (f : Addr) → (stepped_by i st base given (Found.CannotUnwind f)).arrival ≡ Ok Arrival.CannotUnwind
  unfolding stepped_by
  cannot_arrives f = refl

  module _ (s : Span) (clean : audit_instructions_of (words_of i s) s.skip ≡ fine) where
    ran_arrives : Arrives (ran_by i st base given s).arrival
    ran_arrives = clean_run (words_of i s) s.skip st base given clean

    pub compact_arrives : (f : Addr) (n : ℕ) → Arrives (stepped_by i st base given (Found.Compact f n s)).arrival
    unfolding stepped_by
    compact_arrives f n = ran_arrives

    pub generic_arrives : (f p : Addr) (o : Off) → Arrives (stepped_by i st base given (Found.Generic f p s o)).arrival
    unfolding stepped_by
    generic_arrives f p o = ran_arrives

  -- ---- where a section or the stack does not pass
  pub step_sections : (r : Refusal) → sections_of i ≡ Err r → step_of i st base given ≡ refused_step given r
  unfolding step_of found_of
  step_sections r e = rw e

  pub step_stack : sections_of i ≡ fine → (r : Refusal) → stack_rule (length st) base ≡ Err r → step_of i st base given ≡ refused_step given r
  unfolding step_of found_of
  step_stack passes r e = rw (passes, e)

  -- ---- and by what the search finds
  module _ (passes : sections_of i ≡ fine) (lent : stack_rule (length st) base ≡ fine) where
    pub step_refused : (r : Refusal) → search_of i.index i.index_at (counter_of given) ≡ Err r → step_of i st base given ≡ refused_step given r
    unfolding step_of found_of
    step_refused r e = rw (passes, lent, e)

    pub step_hit : (h : Hit) → search_of i.index i.index_at (counter_of given) ≡ Ok h
        → step_of i st base given ≡ on_answer (entry_at i h.entry) (stepped_by i st base given) (refused_step given)
    unfolding step_of found_of
    step_hit h e = rw (passes, lent, e)

    -- the function that the search read leads on
    pub step_led : (h : Hit) → search_of i.index i.index_at (counter_of given) ≡ Ok h → {x : Answered Found} → led_by i h.entry h.function ≡ x
        → step_of i st base given ≡ on_answer x (stepped_by i st base given) (refused_step given)
    step_led h e l = rw (← l, found_led i (counter_of given) h e) (step_hit h e)
