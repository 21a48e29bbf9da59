-- Why an audit does not pass, put together as the definition is. Assumes nothing.
use Prim.Native.Nat.{ℕ, zero, suc, ◌+◌, ◌*◌, ◌%◌, ◌≤◌, ◌<◌}
use mathlib.Core.Bool.{Bool, true, false}
use mathlib.Core.Path.{◌≡◌, refl}
use native.Mathlib.Omega.{arith}
use lib.Dec.{leb}
use lib.ListN.{length}
use Rattle.std.proofs.Common.{Ok, Err, sym, ap, ◌∙◌}
use Rattle.audit.specs.declared.Fault.{Fault}
use Rattle.std.specs.Result.{result_and}
use Rattle.section.specs.Check.{Answered, Check, fine, need, and_then, on_answer}
use Rattle.section.specs.Number.{number}
use Rattle.section.specs.Rule.{table_most}
use Rattle.section.specs.declared.Addr.{Addr}
use Rattle.section.specs.declared.Off.{Off}
use Rattle.section.specs.declared.Refusal.{Refusal}
use Rattle.section.proofs.Checks.{fault_not}
use Rattle.pointer.specs.Reads.{NoPointer}
use Rattle.instruction.specs.Program.{Audited}
use Rattle.instruction.proofs.Program.{audit_audited}
use Rattle.entry.specs.Index.{function_of, function_at}
use Rattle.entry.specs.Read.{FunctionGives}
use Rattle.entry.specs.declared.Span.{Span}
use Rattle.entry.proofs.Laws.{function_gives}
use Rattle.lsda.specs.Reasons.{Faulty}
use Rattle.lsda.specs.Sites.{audit_sites_of}
use Rattle.lsda.proofs.Laws.{audit_why}
use Rattle.image.specs.Image.{Image, count_of, sections_of, Sections, entry_at, words_of, language_of}
use Rattle.image.specs.Read.{Readable, EntryRefusal, Leads}
use Rattle.image.specs.declared.Found.{Found}
use Rattle.image.proofs.Laws.{sections_exact, sections_fault, entry_leads}
use Rattle.audit.specs.Audit.{Verdict, at_fault, words_check, found_check, floor_of, entry_check, first_fault, audit_of}
use Rattle.audit.specs.Reasons.{EntryFault, NoPass}

abbrev OfCheck : Check → Type 0
OfCheck fine = Unit
OfCheck (Err r) = EntryFault r

of_and : (a b : Check) → OfCheck a → OfCheck b → OfCheck (result_and a b)
of_and fine b p q = q
of_and (Err r) b p q = p

of_need : (t : Bool) → OfCheck (need t Refusal.Unsorted)
of_need true = tt
of_need false = EntryFault.unsorted

of_audited : (x : Check) → Audited x → OfCheck x
of_audited x Audited.passed = tt
of_audited x Audited.reserved = EntryFault.reserved
of_audited x Audited.unsupported = EntryFault.unsupported
of_audited x Audited.malformed = EntryFault.malformed
of_audited x Audited.regs = EntryFault.regs

of_entry : (r : Refusal) → EntryRefusal r → EntryFault r
of_entry r EntryRefusal.corrupt = EntryFault.corrupt
of_entry r EntryRefusal.place = EntryFault.place
of_entry r EntryRefusal.truncated = EntryFault.truncated
of_entry r EntryRefusal.selector = EntryFault.selector

-- language data that is not too long
of_faulty : (len : ℕ) → len ≤ table_most → (r : Refusal) → Faulty len r → EntryFault r
of_faulty len h r (Faulty.unread (NoPointer.long g)) = absurd (omega arith)
of_faulty len h r (Faulty.unread NoPointer.truncated) = EntryFault.truncated
of_faulty len h r (Faulty.unread NoPointer.encoding) = EntryFault.encoding
of_faulty len h r (Faulty.unread NoPointer.value) = EntryFault.value
of_faulty len h r Faulty.sum = EntryFault.sum

module _ (i : Image) where
  of_words : (s : Span) → Readable i s → OfCheck (words_check i.index i.table s)
  of_words s w = of_audited _ (audit_audited (words_of i s) s.skip (record { short = w.short; whole = whole (length (words_of i s)) s.words w.whole }) w.skips_few)
    where
      whole : (n k : ℕ) → n ≡ 4 * k → n % 4 ≡ 0
      whole n k e = omega arith

  of_sites : (f : Addr) (o : Off) → length (language_of i o) ≤ table_most → OfCheck (audit_sites_of (language_of i o) f)
  of_sites f o h = go (audit_sites_of (language_of i o) f) refl
    where
      go : (x : Check) → audit_sites_of (language_of i o) f ≡ x → OfCheck x
      go fine e = tt
      go (Err r) e = of_faulty (length (language_of i o)) h r (audit_why (language_of i o) f r e)

  of_found : (x : Answered Found) → Leads i x → OfCheck (and_then x (λ y. found_check i.index i.table y))
  unfolding found_check
  of_found x (Leads.cannot _) = tt
  of_found x (Leads.compact {s = s} _ _ w) = of_words s w
  of_found x (Leads.generic {f = f} {s = s} {o = o} _ _ w _ h) = of_and (words_check i.index i.table s) _ (of_words s w) (of_sites f o h)
  of_found x (Leads.refused {r = r} w) = of_entry r w

  module _ (s : Sections i) where
    of_check : (k : ℕ) → k < count_of i → OfCheck (entry_check i k)
    unfolding entry_check
    of_check k l = go (function_at i.index i.index_at k) (function_gives i.index i.index_at k s.index)
      where
        go : (x : Answered Addr) → FunctionGives i.index i.index_at k x
            → OfCheck (and_then x (λ f. result_and (need (leb (floor_of i k) f.0) Refusal.Unsorted) (and_then (entry_at i k) (λ y. found_check i.index i.table y))))
        go x (FunctionGives.at _ _) =
            let t = leb (floor_of i k) (function_of i.index i.index_at k).0 in
            of_and (need t Refusal.Unsorted) (and_then (entry_at i k) (λ y. found_check i.index i.table y)) (of_need t) (of_found (entry_at i k) (entry_leads i s k l))
        go x (FunctionGives.corrupt _) = EntryFault.corrupt
        go x (FunctionGives.truncated h) = absurd (omega arith)

    abbrev OfVerdict : Verdict → Type 0
    OfVerdict (Ok x) = Unit
    OfVerdict (Err f) = NoPass i f.refusal f.entry

    of_each : (m k : ℕ) → k + m ≤ count_of i → OfVerdict (first_fault (entry_check i) m k)
    unfolding first_fault
    of_each zero k h = tt
    of_each (suc m) k h = go (entry_check i k) (of_check k (omega arith)) (of_each m (k + 1) (omega arith))
      where
        go : (x : Check) → OfCheck x → OfVerdict (first_fault (entry_check i) m (k + 1)) → OfVerdict (on_answer x (λ _. first_fault (entry_check i) m (k + 1)) (at_fault k))
        go fine p q = q
        go (Err r) p q = NoPass.entry {k = k} s (omega arith) p

  -- the fault of a verdict
  fault_in : Fault → Verdict → Fault
  fault_in d (Ok x) = d
  fault_in d (Err f) = f

  pub audit_refused : (r : Refusal) (k : ℕ) → audit_of i ≡ at_fault k r → NoPass i r k
  unfolding audit_of fault_in
  audit_refused r k e = go (sections_of i) refl e
    where
      told : (s : Sections i) (y : Verdict) → OfVerdict s y → y ≡ at_fault k r → NoPass i r k
      told s y p q = rw q at p

      go : (x : Check) → sections_of i ≡ x → on_answer x (λ _. first_fault (entry_check i) (count_of i) 0) (at_fault 0) ≡ at_fault k r → NoPass i r k
      go fine p q = told ((sections_exact i).0 p) _ (of_each ((sections_exact i).0 p) (count_of i) 0 (omega arith)) q
      go (Err y) p q =
          let f = ap (fault_in (record { refusal = y; entry = 0 })) q in
          let a : r ≡ Refusal.Section = sym (ap (λ (x : Fault). x.refusal) f) ∙ sections_fault i y p in
          let b : k ≡ 0 = sym (ap (λ (x : Fault). x.entry) f) in
          rw (a, b) (NoPass.section (fault_not (sections_of i) y (sections_exact i) p))

-- an entry's faults in the paper's numbers: 3 to 10 and 13 to 16. So never 2 or 11, which a lookup may answer, and never 12 or 17, which a step may
pub fault_numbers : (r : Refusal) → EntryFault r → (3 ≤ number r) × (number r ≤ 16) × (10 < number r → 13 ≤ number r)
fault_numbers r EntryFault.corrupt = (omega arith, omega arith, λ h. omega arith)
fault_numbers r EntryFault.unsorted = (omega arith, omega arith, λ h. omega arith)
fault_numbers r EntryFault.place = (omega arith, omega arith, λ h. omega arith)
fault_numbers r EntryFault.truncated = (omega arith, omega arith, λ h. omega arith)
fault_numbers r EntryFault.selector = (omega arith, omega arith, λ h. omega arith)
fault_numbers r EntryFault.encoding = (omega arith, omega arith, λ h. omega arith)
fault_numbers r EntryFault.value = (omega arith, omega arith, λ h. omega arith)
fault_numbers r EntryFault.sum = (omega arith, omega arith, λ h. omega arith)
fault_numbers r EntryFault.reserved = (omega arith, omega arith, λ h. omega arith)
fault_numbers r EntryFault.unsupported = (omega arith, omega arith, λ h. omega arith)
fault_numbers r EntryFault.malformed = (omega arith, omega arith, λ h. omega arith)
fault_numbers r EntryFault.regs = (omega arith, omega arith, λ h. omega arith)
