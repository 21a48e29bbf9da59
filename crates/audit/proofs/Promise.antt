-- An image that the audit passes keeps the promise: at every counter, and from every register set and stack. Assumes nothing.
use Prim.Native.Nat.{ℕ, ◌+◌, ◌<◌}
use mathlib.Core.Path.{◌≡◌, refl, sym}
use mathlib.Core.List.{List}
use native.Mathlib.Numerals.{add-one}
use lib.ListN.{length}
use Rattle.std.proofs.Common.{Ok}
use Rattle.section.specs.Check.{Answered, fine, and_then, on_answer}
use Rattle.section.specs.Rule.{stack_most, stack_rule, Section}
use Rattle.section.specs.declared.Addr.{Addr}
use Rattle.section.specs.declared.Refusal.{Refusal}
use Rattle.section.proofs.Rules.{section_exact}
use Rattle.instruction.proofs.Program.{instructions_exact}
use Rattle.entry.proofs.Laws.{function_sound}
use Rattle.lsda.specs.Sites.{sites_from, call_site_of, Sited}
use Rattle.lsda.proofs.Laws.{sites_exact, clean_sites}
use Rattle.image.specs.Image.{Image, count_of, sections_of, entry_at, words_of, language_of}
use Rattle.image.specs.Read.{Names}
use Rattle.image.specs.declared.Found.{Found}
use Rattle.image.proofs.Laws.{sections_exact, entry_led, led_names}
use Rattle.search.specs.Rising as rising
use Rattle.search.specs.Search.{search_of, hit}
use Rattle.search.proofs.Laws.{answers}
use Rattle.lookup.specs.Answers.{looked_answer}
use Rattle.lookup.specs.Lookup.{looked_at, lookup_of}
use Rattle.lookup.specs.declared.Looked.{Looked}
use Rattle.lookup.proofs.Laws.{lookup_refused, lookup_hit}
use Rattle.lsda.specs.declared.CallSite.{CallSite}
use Rattle.step.specs.Answers.{arrival_answer}
use Rattle.step.specs.Run.{Arrives, refused_step}
use Rattle.step.specs.Step.{stepped_by, counter_of, step_of}
use Rattle.step.specs.declared.Arrival.{Arrival}
use Rattle.step.specs.declared.Registers.{Registers}
use Rattle.step.proofs.Steps.{step_refused, step_hit, cannot_arrives, compact_arrives, generic_arrives}
use Rattle.audit.specs.Audit.{passed, audit_of}
use Rattle.audit.specs.Sound.{SoundFound, start_of, Sound}
use Rattle.audit.specs.Promise.{Stretch, Generic, LookupGives, LookupNumber, StepGives, StepNumber, Promise}
use Rattle.audit.proofs.Exact.{audit_exact}

module _ (i : Image) (s : Sound i) where
  pass : sections_of i ≡ fine
  pass = (sections_exact i).1 s.sections

  -- the functions rise, so the search finds the one entry whose stretch holds a counter
  rises : rising.Rising i.index i.index_at
  rises = record { section = s.sections.index; sound = λ k l. (s.entries k l).sound; rises = λ k l. (s.entries (k + 1) l).above k (sym (add-one k)) }

  -- ---- what an entry leads to names its function
  named : (k : ℕ) → k < count_of i → Names (start_of i k) (entry_at i k)
  named k l =
      let e = function_sound i.index i.index_at k s.sections.index l (s.entries k l).sound in
      rw (entry_led i k pass (start_of i k) e) (led_names i k (start_of i k))

  -- ---- lookups
  module _ (c : Addr) (k : ℕ) (w : Stretch i c k) where
    looked : (x : Answered Found) → entry_at i k ≡ x → Names (start_of i k) x → SoundFound i x → LookupGives i c (and_then x (λ y. looked_at i.table c k y))
    unfolding looked_at
    looked x e Names.cannot q = LookupGives.cannot w e
    looked x e (Names.compact {n = n} {s = t}) q = LookupGives.compact w e
    looked _ e (Names.refused {r = r}) q = elim q [ ]
    looked x e (Names.generic {p = p} {s = t} {o = o}) (SoundFound.generic a q) =
        go (call_site_of (language_of i o) (start_of i k) c)
        (clean_sites (language_of i o) (start_of i k) ((sites_exact (language_of i o) (start_of i k)).1 q) q.header q.read c)
      where
        at : Generic i k p q.header
        at = record { span = t; language = o; leads = e; header = q.read }

        go : (y : Answered CallSite) → Sited q.header.base c (sites_from (language_of i o) q.header q.header.start.0) y → LookupGives i c (and_then y (λ site. Ok (Looked.Generic k (start_of i k) p site)))
        go y (Sited.covered a b) = LookupGives.site w at a
        go y (Sited.none a) = LookupGives.no_site w at a

  lookups : (c : Addr) → LookupGives i c (lookup_of i c)
  lookups c = go (answers i.index i.index_at c rises)
    where
      go : rising.SearchGives i.index i.index_at c (search_of i.index i.index_at c) → LookupGives i c (lookup_of i c)
      go (rising.SearchGives.located l) =
          let k = l.entry in
          rw (lookup_hit i c pass (hit k (start_of i k) l.probes) l.found)
          (looked c k (record { holds = l.covers; only = l.only }) (entry_at i k) refl (named k l.covers.inside) (s.entries k l.covers.inside).leads)
      go (rising.SearchGives.none e n) = rw (lookup_refused i c pass Refusal.NoEntry e) (LookupGives.no_entry n)

  -- ---- steps
  leads : (a : Answered Arrival) → Arrives a → StepGives a
  leads a Arrives.frame = StepGives.frame
  leads a Arrives.refused = StepGives.refused
  leads a Arrives.stack = StepGives.stack

  module _ (st : List ℕ) (base : Addr) (r : Registers) where
    stepped : (x : Answered Found) → SoundFound i x → StepGives (on_answer x (stepped_by i st base r) (refused_step r)).arrival
    stepped x (SoundFound.cannot {f = f}) = rw (cannot_arrives i st base r f) StepGives.cannot
    stepped x (SoundFound.compact {f = f} {n = n} {s = t} p) =
        leads _ (compact_arrives i st base r t ((instructions_exact (words_of i t) t.skip).1 p) f n)
    stepped x (SoundFound.generic {f = f} {p = a} {s = t} {o = o} p q) =
        leads _ (generic_arrives i st base r t ((instructions_exact (words_of i t) t.skip).1 p) f a o)

    steps : Section stack_most (length st) base → StepGives (step_of i st base r).arrival
    steps lent = go (answers i.index i.index_at (counter_of r) rises)
      where
        fits : stack_rule (length st) base ≡ fine
        fits = (section_exact stack_most (length st) base).1 lent

        go : rising.SearchGives i.index i.index_at (counter_of r) (search_of i.index i.index_at (counter_of r)) → StepGives (step_of i st base r).arrival
        go (rising.SearchGives.located l) =
            let k = l.entry in
            rw (step_hit i st base r pass fits (hit k (start_of i k) l.probes) l.found) (stepped (entry_at i k) (s.entries k l.covers.inside).leads)
        go (rising.SearchGives.none e n) = rw (step_refused i st base r pass fits Refusal.NoEntry e) StepGives.no_entry

-- ---- in the paper's numbers
lookup_number : (i : Image) (c : Addr) (x : Answered Looked) → LookupGives i c x → LookupNumber (looked_answer x).number
lookup_number i c x (LookupGives.no_entry n) = LookupNumber.no_entry
lookup_number i c x (LookupGives.cannot w e) = LookupNumber.answered
lookup_number i c x (LookupGives.compact w e) = LookupNumber.answered
lookup_number i c x (LookupGives.site w g f) = LookupNumber.answered
lookup_number i c x (LookupGives.no_site w g n) = LookupNumber.no_site

step_number : (a : Answered Arrival) → StepGives a → StepNumber (arrival_answer a).number
step_number a StepGives.frame = StepNumber.stepped
step_number a StepGives.cannot = StepNumber.stepped
step_number a StepGives.no_entry = StepNumber.no_entry
step_number a StepGives.refused = StepNumber.refused
step_number a StepGives.stack = StepNumber.stack

pub demand_three : (i : Image) → audit_of i ≡ passed → Promise i
demand_three i e =
    let s = (audit_exact i).0 e in
    record {
      lookups = λ c h. lookups i s c;
      lookup_numbers = λ c h. lookup_number i c (lookup_of i c) (lookups i s c);
      steps = λ st base l r. steps i s st base r l;
      step_numbers = λ st base l r. step_number (step_of i st base r).arrival (steps i s st base r l);
    }
