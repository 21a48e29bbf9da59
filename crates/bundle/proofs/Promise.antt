-- What the audit of a bundle reports says what is promised of it. Assumes nothing.
use Prim.Native.Nat.{ℕ, ◌-◌, ◌/◌, ◌≤◌}
use mathlib.Core.Path.{◌≡◌, refl, sym, ap, ◌∙◌}
use mathlib.Core.Logic.{◌↔◌}
use mathlib.Core.List.{List}
use native.Mathlib.Omega.{arith}
use lib.ListN.{length}
use denote.Ref.{Bor}
use Rattle.std.proofs.Common.{Ok, Err}
use Rattle.section.specs.Check.{Check, fine, on_answer}
use Rattle.section.specs.declared.Refusal.{Refusal}
use Rattle.section.specs.View.{Part, part_from}
use Rattle.section.proofs.Views.{bytes_length}
use Rattle.image.specs.Image.{image, count_of, Sections}
use Rattle.audit.specs.Audit.{Verdict, passed, audit_of}
use Rattle.audit.proofs.Exact.{audit_exact}
use Rattle.audit.proofs.Promise.{demand_three}
use Rattle.audit.specs.Reasons.{NoPass}
use Rattle.audit.proofs.Reasons.{audit_refused}
use Rattle.bundle.specs.Audit.{Report, fill_rule, image_in, reported_of, refused_bundle, audit_bundle_of}
use Rattle.audit.specs.declared.Fault.{Fault}
use Rattle.bundle.specs.declared.BundleFault.{BundleFault}
use Rattle.bundle.specs.Bundle.{BundleRead, bundle_of}
use Rattle.bundle.specs.Promise.{SoundBundle, BundlePromise, FaultyEntry}
use Rattle.bundle.specs.declared.Bundle.{Bundle}
use Rattle.bundle.proofs.Laws.{fill_exact, audit_read}
use Rattle.bundle.proofs.Placed.{bundle_placed, part_bytes}

-- a report is one of three
pub fault_no_pass : {X : Type 0} (r : Refusal) (n : ℕ) → refused_bundle r ≡ Ok n → X
fault_no_pass r n e = let z : ◌≡◌ {A = ℕ} 0 1 = cc in absurd (omega arith)

pub fault_no_entry : {X : Type 0} (r : Refusal) (f : Fault) → refused_bundle r ≡ Err (BundleFault.Entry f) → X
fault_no_entry r f e = let z : ◌≡◌ {A = ℕ} 0 1 = cc in absurd (omega arith)

pub pass_no_entry : {X : Type 0} (n : ℕ) (f : Fault) → ◌≡◌ {A = Report} (Ok n) (Err (BundleFault.Entry f)) → X
pass_no_entry n f e = let z : ◌≡◌ {A = ℕ} 0 1 = cc in absurd (omega arith)

pub entry_no_pass : {X : Type 0} (f : Fault) (n : ℕ) → ◌≡◌ {A = Report} (Err (BundleFault.Entry f)) (Ok n) → X
entry_no_pass f n e = let z : ◌≡◌ {A = ℕ} 0 1 = cc in absurd (omega arith)

module _ (xs : List ℕ) (fill : ℕ) where
  -- a bundle that was read, with a fill that fits
  record Filled (b : Bundle) : Type 0 where
    is : bundle_of xs ≡ Ok b
    fills : (fill ≤ 3) × (fill ≤ b.table_bytes)

  -- what a report can be, and what it says
  data Reports : Report → Type 0 where
    refused : {r : Refusal} → Reports (refused_bundle r)
    passes : {b : Bundle} → Filled b → audit_of (image_in xs fill b) ≡ passed → Reports (Ok (b.index_bytes / 8))
    entry : {b : Bundle} {f : Fault} → Filled b → audit_of (image_in xs fill b) ≡ Err f → Reports (Err (BundleFault.Entry f))

  reports : Reports (audit_bundle_of xs fill)
  unfolding audit_bundle_of
  reports = go (bundle_of xs) refl
    where
      verdict : (b : Bundle) → Filled b → (v : Verdict) → audit_of (image_in xs fill b) ≡ v → Reports (reported_of (b.index_bytes / 8) v)
      verdict b f passed e = Reports.passes f e
      verdict b f (Err g) e = Reports.entry f e

      filled : (b : Bundle) → bundle_of xs ≡ Ok b → (c : Check) → fill_rule fill b.table_bytes ≡ c
          → Reports (on_answer c (λ _. reported_of (b.index_bytes / 8) (audit_of (image_in xs fill b))) refused_bundle)
      filled b e fine p = verdict b (record { is = e; fills = (fill_exact fill b.table_bytes).0 p }) (audit_of (image_in xs fill b)) refl
      filled b e (Err r) p = Reports.refused

      go : (x : BundleRead) → bundle_of xs ≡ x
          → Reports (on_answer x (λ b. on_answer (fill_rule fill b.table_bytes) (λ _. reported_of (b.index_bytes / 8) (audit_of (image_in xs fill b))) refused_bundle) refused_bundle)
      go (Ok b) e = filled b e (fill_rule fill b.table_bytes) refl
      go (Err r) e = Reports.refused

  -- ---- the image of a bundle that was read
  module _ (b : Bundle) (e : bundle_of xs ≡ Ok b) where
    index_long : length (image_in xs fill b).index ≡ b.index_bytes
    index_long = let p = bundle_placed xs b e in bytes_length xs b.index.0 b.index_bytes (omega (arith, p.index, p.whole))

    counted : b.index_bytes / 8 ≡ count_of (image_in xs fill b)
    counted = ap (λ n. n / 8) (sym index_long)

    sections : fill ≤ b.table_bytes → Sections (image_in xs fill b)
    sections h =
        let p = bundle_placed xs b e in
        let l = bytes_length xs b.table.0 (b.table_bytes - fill) (omega (arith, p.table, p.whole)) in
        record {
          index = rw index_long p.index_section;
          table = rw l (record { short = omega (arith, p.table_section.short); placed = omega (arith, p.table_section.placed) });
        }

  -- ---- from a report, and back
  pub passed_sound : (n : ℕ) → audit_bundle_of xs fill ≡ Ok n → SoundBundle xs fill n
  passed_sound n e = go (audit_bundle_of xs fill) e reports
    where
      go : (x : Report) → x ≡ Ok n → Reports x → SoundBundle xs fill n
      go x p (Reports.refused {r = r}) = fault_no_pass r n p
      go x p (Reports.passes {b = b} f a) =
          let q : b.index_bytes / 8 ≡ n = cc in
          record { bundle = b; is = f.is; fills = f.fills; entries = sym q ∙ counted b f.is; sound = (audit_exact (image_in xs fill b)).0 a }
      go x p (Reports.entry {f = g} f a) = entry_no_pass g n p

  pub sound_passed : (n : ℕ) → SoundBundle xs fill n → audit_bundle_of xs fill ≡ Ok n
  sound_passed n s =
      audit_read xs fill s.bundle s.is ((fill_exact fill s.bundle.table_bytes).1 s.fills) _ _ refl refl passed (sym ((audit_exact (image_in xs fill s.bundle)).1 s.sound))
      ∙ ap (λ (m : ℕ). Ok m) (counted s.bundle s.is ∙ sym s.entries)

  pub promised : (n : ℕ) → audit_bundle_of xs fill ≡ Ok n → BundlePromise xs fill
  promised n e =
      let s = passed_sound n e in
      let i = image_in xs fill s.bundle in
      record { bundle = s.bundle; is = s.is; promise = demand_three i ((audit_exact i).1 s.sound) }

  at_entry : (b : Bundle) → bundle_of xs ≡ Ok b → Sections (image_in xs fill b) → (r : Refusal) (k : ℕ) → NoPass (image_in xs fill b) r k → FaultyEntry xs fill r k
  at_entry b e s r k (NoPass.section n) = absurd (n s)
  at_entry b e s r k (NoPass.entry _ l f) = record { bundle = b; is = e; there = l; fault = f }

  pub entry_fault : (g : Fault) → audit_bundle_of xs fill ≡ Err (BundleFault.Entry g) → FaultyEntry xs fill g.refusal g.entry
  entry_fault g e = go (audit_bundle_of xs fill) e reports
    where
      go : (x : Report) → x ≡ Err (BundleFault.Entry g) → Reports x → FaultyEntry xs fill g.refusal g.entry
      go x p (Reports.refused {r = r}) = fault_no_entry r g p
      go x p (Reports.passes {b = b} f a) = pass_no_entry (b.index_bytes / 8) g p
      go x p (Reports.entry {b = b} {f = h} f a) =
          let q : h ≡ g = cc in
          at_entry b f.is (sections b f.is f.fills.1) g.refusal g.entry (audit_refused (image_in xs fill b) g.refusal g.entry (rw q at a))

-- ---- so an answer of the audit says all of it
pub record Says (xs : List ℕ) (fill : ℕ) (x : Report) : Type 0 where
  pub demand_three : (n : ℕ) → x ≡ Ok n → BundlePromise xs fill
  pub passes_exactly : (n : ℕ) → (x ≡ Ok n) ↔ SoundBundle xs fill n
  pub entry_fault : (f : Fault) → x ≡ Err (BundleFault.Entry f) → FaultyEntry xs fill f.refusal f.entry

pub report_says : (xs : List ℕ) (fill : ℕ) (x : Report) → x ≡ audit_bundle_of xs fill → Says xs fill x
report_says xs fill x e =
    record {
      demand_three = λ n p. promised xs fill n (sym e ∙ p);
      passes_exactly = λ n. (λ p. passed_sound xs fill n (sym e ∙ p), λ s. e ∙ sound_passed xs fill n s);
      entry_fault = λ f p. entry_fault xs fill f (sym e ∙ p);
    }

-- ---- the report on the two parts that are audited, by the verdict v on them
pub report_on : (s i t : Bor (List ℕ)) (fill : ℕ) (b : Bundle) → bundle_of s.now ≡ Ok b → fill_rule fill b.table_bytes ≡ fine
    → Part s i (part_from (length s.now) b.index.0 b.index_bytes) → Part s t (part_from (length s.now) b.table.0 (b.table_bytes - fill))
    → (v w : Verdict) → v ≡ audit_of (image i.now b.index_address t.now b.table_address) → v ≡ w → audit_bundle_of s.now fill ≡ reported_of (b.index_bytes / 8) w
report_on s i t fill b e f p q v w h k =
    let o = bundle_placed s.now b e in
    let l = ((fill_exact fill b.table_bytes).0 f).1 in
    audit_read s.now fill b e f _ _ (part_bytes _ _ _ _ (omega (arith, o.index, o.whole)) p) (part_bytes _ _ _ _ (omega (arith, o.table, o.whole)) q) v h ∙ ap (reported_of (b.index_bytes / 8)) k
