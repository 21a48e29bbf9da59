-- The audit passes an image, and not every image is sound or keeps the promise: a `Sound` or a `Promise` that was weakened to say less fails here. Assumes nothing.
use Prim.Native.Nat.{ℕ}
use mathlib.Core.List.{[]}
use mathlib.Core.Path.{◌≡◌, refl, sym, ap, ◌∙◌}
use native.Mathlib.Omega.{arith}
use lib.ListN.{length}
use Rattle.std.proofs.Common.{Ok, Err}
use Rattle.section.specs.Check.{Answered}
use Rattle.section.specs.Digits.{end_from, end_of}
use Rattle.section.specs.Place.{addr, offset_of}
use Rattle.section.specs.Prel31.{prel31_of}
use Rattle.section.specs.Rule.{stack_most, rule_of, index_rule, words_rule, Section}
use Rattle.section.specs.Sum.{plus_of}
use Rattle.section.specs.View.{part_from, suffix_from}
use Rattle.section.specs.Walk.{trail_from, trail_of, checked}
use Rattle.section.specs.Word.{word, word_at}
use Rattle.section.specs.declared.Addr.{Addr}
use Rattle.section.specs.declared.Refusal.{Refusal}
use Rattle.pointer.specs.Number.{ended, leb_of, unsigned_of}
use Rattle.pointer.specs.Pointer.{sized, uleb_of, pointer_of, formed}
use Rattle.instruction.specs.Bytes.{byte_of}
use Rattle.instruction.specs.Decode.{to_sp, single_of, opcode_of, decode_of}
use Rattle.instruction.specs.Program.{program_of, audit_instructions_of}
use Rattle.entry.specs.Index.{numbered, function_of, function_in, function_at, content_of, content_at, index_entry_of}
use Rattle.entry.specs.Table.{fitting, generic_of, entry_by, table_entry_of}
use Rattle.lsda.specs.Header.{byte_at, base_at, types_at, table_at, header_of}
use Rattle.lsda.specs.Site.{pair_at, summed_of, fields_at, site_at, fits_of}
use Rattle.lsda.specs.Sites.{audit_sites_of}
use Rattle.image.specs.Image.{Image, sections_of, entry_at}
use Rattle.search.specs.Search.{halve_from, halve, search_of}
use Rattle.lookup.specs.Answers.{looked_answer}
use Rattle.lookup.specs.Lookup.{lookup_of}
use Rattle.lookup.specs.declared.Looked.{Looked}
use Rattle.step.specs.Answers.{arrival_answer}
use Rattle.step.specs.Execute.{execute_of}
use Rattle.step.specs.Run.{run_from, run_of}
use Rattle.step.specs.Step.{stepped_by, found_of, step_of}
use Rattle.step.specs.declared.Arrival.{Arrival}
use Rattle.audit.specs.Audit.{passed, at_fault, found_check, floor_of, entry_check, first_fault, audit_of}
use Rattle.audit.specs.Promise.{LookupGives, LookupNumber, StepGives, StepNumber, Promise}
use Rattle.audit.specs.Sound.{start_of, Sound}
use Rattle.audit.specs.Witness.{passing, reserved, corrupt, in_first}
use Rattle.audit.proofs.Exact.{audit_exact, no_pass}

-- ---- what the definitions compute
pub passes : audit_of passing ≡ passed
unfolding rule_of index_rule sections_of audit_of first_fault entry_check function_at numbered function_in word function_of prel31_of floor_of entry_at index_entry_of content_at content_of found_check part_from audit_instructions_of program_of trail_of trail_from decode_of byte_of words_rule opcode_of single_of checked offset_of table_entry_of word_at entry_by generic_of fitting suffix_from audit_sites_of header_of base_at byte_at types_at table_at uleb_of sized formed leb_of ended end_of end_from unsigned_of site_at fields_at pair_at pointer_of summed_of plus_of fits_of
passes = refl

reserved_fault : audit_of reserved ≡ at_fault 0 Refusal.Reserved
unfolding rule_of index_rule sections_of audit_of first_fault entry_check function_at numbered function_in word function_of prel31_of floor_of entry_at index_entry_of content_at content_of found_check part_from audit_instructions_of program_of trail_of trail_from decode_of byte_of words_rule opcode_of to_sp checked
reserved_fault = refl

reserved_step : (step_of reserved [] (addr 0) in_first).arrival ≡ Err Refusal.Reserved
unfolding rule_of index_rule sections_of function_at numbered function_in word function_of prel31_of entry_at index_entry_of content_at content_of part_from program_of trail_of trail_from decode_of byte_of words_rule opcode_of to_sp search_of halve halve_from step_of found_of stepped_by run_of run_from execute_of
reserved_step = refl

corrupt_lookup : lookup_of corrupt (addr 0x800) ≡ Err Refusal.Corrupt
unfolding rule_of index_rule sections_of function_at numbered function_in word search_of lookup_of
corrupt_lookup = refl

-- ---- not every image is sound
pub not_sound : Sound reserved → ⊥
not_sound s = no_pass _ (sym reserved_fault ∙ (audit_exact reserved).1 s)

-- ---- nor keeps each part of the promise
no_step : (a : Answered Arrival) → a ≡ Err Refusal.Reserved → StepGives a → ⊥
no_step a e StepGives.frame = let z : ◌≡◌ {A = ℕ} 0 1 = cc in omega arith
no_step a e StepGives.cannot = let z : ◌≡◌ {A = ℕ} 0 1 = cc in omega arith
no_step a e StepGives.no_entry = let z : ◌≡◌ {A = ℕ} 0 1 = cc in omega arith
no_step a e StepGives.refused = let z : ◌≡◌ {A = ℕ} 0 1 = cc in omega arith
no_step a e StepGives.stack = let z : ◌≡◌ {A = ℕ} 0 1 = cc in omega arith

no_step_number : (n : ℕ) → n ≡ 13 → StepNumber n → ⊥
no_step_number n e StepNumber.stepped = omega arith
no_step_number n e StepNumber.no_entry = omega arith
no_step_number n e StepNumber.refused = omega arith
no_step_number n e StepNumber.stack = omega arith

no_lookup : (i : Image) (c : Addr) (x : Answered Looked) → x ≡ Err Refusal.Corrupt → LookupGives i c x → ⊥
no_lookup i c x e (LookupGives.no_entry _) = let z : ◌≡◌ {A = ℕ} 0 1 = cc in omega arith
no_lookup i c x e (LookupGives.cannot _ _) = let z : ◌≡◌ {A = ℕ} 0 1 = cc in omega arith
no_lookup i c x e (LookupGives.compact _ _) = let z : ◌≡◌ {A = ℕ} 0 1 = cc in omega arith
no_lookup i c x e (LookupGives.site _ _ _) = let z : ◌≡◌ {A = ℕ} 0 1 = cc in omega arith
no_lookup i c x e (LookupGives.no_site _ _ _) = let z : ◌≡◌ {A = ℕ} 0 1 = cc in omega arith

no_lookup_number : (n : ℕ) → n ≡ 3 → LookupNumber n → ⊥
no_lookup_number n e LookupNumber.answered = omega arith
no_lookup_number n e LookupNumber.no_entry = omega arith
no_lookup_number n e LookupNumber.no_site = omega arith

empty_stack : Section stack_most (length {A = ℕ} []) (addr 0)
empty_stack = record { short = omega arith; placed = omega arith }

pub not_steps : Promise reserved → ⊥
not_steps p = no_step _ reserved_step (p.steps [] (addr 0) empty_stack in_first)

pub not_step_numbers : Promise reserved → ⊥
not_step_numbers p = no_step_number _ (ap (λ (a : Answered Arrival). (arrival_answer a).number) reserved_step) (p.step_numbers [] (addr 0) empty_stack in_first)

pub not_lookups : Promise corrupt → ⊥
not_lookups p = no_lookup corrupt (addr 0x800) _ corrupt_lookup (p.lookups (addr 0x800) (omega arith))

pub not_lookup_numbers : Promise corrupt → ⊥
not_lookup_numbers p = no_lookup_number _ (ap (λ (x : Answered Looked). (looked_answer x).number) corrupt_lookup) (p.lookup_numbers (addr 0x800) (omega arith))

-- ---- and what is promised of a lookup in the image that passes leaves one answer: not 2 where a function starts, and no entry but the one whose stretch holds the counter
first_starts : (start_of passing 0).0 ≡ 0x800
unfolding word function_of prel31_of
first_starts = refl

last_starts : (start_of passing 2).0 ≡ 0xA00
unfolding word function_of prel31_of
last_starts = refl

pub not_no_entry : LookupGives passing (addr 0x800) (Err Refusal.NoEntry) → ⊥
not_no_entry = go _ refl
  where
    go : (x : Answered Looked) → x ≡ Err Refusal.NoEntry → LookupGives passing (addr 0x800) x → ⊥
    go x e (LookupGives.no_entry n) = omega (arith, n 0 (omega arith), first_starts)
    go x e (LookupGives.cannot _ _) = let z : ◌≡◌ {A = ℕ} 0 1 = cc in omega arith
    go x e (LookupGives.compact _ _) = let z : ◌≡◌ {A = ℕ} 0 1 = cc in omega arith
    go x e (LookupGives.site _ _ _) = let z : ◌≡◌ {A = ℕ} 0 1 = cc in omega arith
    go x e (LookupGives.no_site _ _ _) = let z : ◌≡◌ {A = ℕ} 0 1 = cc in omega arith

pub not_another_entry : LookupGives passing (addr 0x900) (Ok (Looked.CannotUnwind 2 (addr 0xA00))) → ⊥
not_another_entry = go _ refl
  where
    go : (x : Answered Looked) → x ≡ Ok (Looked.CannotUnwind 2 (addr 0xA00)) → LookupGives passing (addr 0x900) x → ⊥
    go x e (LookupGives.no_entry _) = let z : ◌≡◌ {A = ℕ} 0 1 = cc in omega arith
    go x e (LookupGives.cannot {k = k} w _) = let q : k ≡ 2 = cc in let h = rw q at w.holds.starts in omega (arith, h, last_starts)
    go x e (LookupGives.compact _ _) = let z : ◌≡◌ {A = ℕ} 0 1 = cc in omega arith
    go x e (LookupGives.site _ _ _) = let z : ◌≡◌ {A = ℕ} 0 1 = cc in omega arith
    go x e (LookupGives.no_site _ _ _) = let z : ◌≡◌ {A = ℕ} 0 1 = cc in omega arith
