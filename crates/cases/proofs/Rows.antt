-- The length of the row that each call fills. Assumes nothing.
use Rattle.std.proofs.Common.{◌≡◌, ℕ, zero, suc, List, length, replicate, refl, sym, ap, ◌∙◌, Ok, Err, Option, Some, None}
use Rattle.section.specs.Answer.{Answer, Told, counted}
use Rattle.section.specs.Check.{Answered}
use Rattle.pointer.specs.Answers.{read_answer}
use Rattle.pointer.specs.Number.{Read}
use Rattle.instruction.specs.Answers.{instruction_row, decoded_answer}
use Rattle.instruction.specs.Decode.{Decoded}
use Rattle.instruction.specs.declared.Instruction.{Instruction}
use Rattle.entry.specs.Answers.{content_row, index_answer, table_answer}
use Rattle.entry.specs.declared.Content.{Content}
use Rattle.entry.specs.declared.IndexEntry.{IndexEntry}
use Rattle.entry.specs.declared.TableEntry.{TableEntry}
use Rattle.lsda.specs.Answers.{site_answer}
use Rattle.lsda.specs.declared.CallSite.{CallSite}
use Rattle.search.specs.Answers.{search_answer}
use Rattle.search.specs.declared.Hit.{Hit}
use Rattle.lookup.specs.Answers as lookup
use Rattle.lookup.specs.declared.Looked.{Looked}
use Rattle.step.specs.Answers as step
use Rattle.step.specs.declared.Arrival.{Arrival}
use Rattle.audit.specs.Answers.{verdict_answer}
use Rattle.audit.specs.Audit.{Verdict}
use Rattle.bundle.specs.Answers.{bundle_answer}
use Rattle.bundle.specs.Bundle.{BundleRead}

-- an array that a call has filled has its answer's row
pub filled : {n r : ℕ} {a : Answer} {row : List ℕ} → n ≡ length a.row → Told a r row → n ≡ length row
filled e t = e ∙ ap length (sym t.row)

zeros : (n : ℕ) → n ≡ length {A = ℕ} (replicate n 0)
zeros zero = refl
zeros (suc n) = ap suc (zeros n)

-- a refusal's row is as long as an answer's
row_of : {A : Type 0} (n : ℕ) (row : A → List ℕ) → ((x : A) → n ≡ length (row x)) → (x : Answered A) → n ≡ length (counted n row x).row
row_of n row h (Ok x) = h x
row_of n row h (Err r) = zeros n

pub read_row : (x : Read) → 2 ≡ length (read_answer x).row
read_row x = row_of 2 _ (λ p. refl) x

pub decoded_row : (at : ℕ) (x : Decoded) → 4 ≡ length (decoded_answer at x).row
decoded_row at x = row_of 4 _ go x
  where
    of_instruction : (i : Instruction) (next : ℕ) → 4 ≡ length (instruction_row i next)
    of_instruction (Instruction.DataPop size) next = refl
    of_instruction (Instruction.DataPush size) next = refl
    of_instruction (Instruction.RegPop mask) next = refl
    of_instruction (Instruction.RegToSp register) next = refl
    of_instruction (Instruction.VfpPop start count) next = refl
    of_instruction Instruction.Finish next = refl
    of_instruction Instruction.Refused next = refl
    of_instruction Instruction.Reserved next = refl
    of_instruction Instruction.Unimplemented next = refl
    of_instruction Instruction.Error next = refl

    go : (o : Option (Instruction × ℕ)) → 4 ≡ length (decoded_answer at (Ok o)).row
    go (Some s) = of_instruction s.0 s.1
    go None = refl

content_row_lem : (c : Content) → 5 ≡ length (content_row c)
content_row_lem Content.CannotUnwind = refl
content_row_lem (Content.Compact p s) = refl
content_row_lem (Content.Table a) = refl

pub index_row : (x : Answered IndexEntry) → 6 ≡ length (index_answer x).row
index_row x = row_of 6 _ (λ e. ap suc (content_row_lem e.content)) x

pub table_row_lem : (x : Answered TableEntry) → 6 ≡ length (table_answer x).row
table_row_lem x = row_of 6 _ (λ e. refl) x

pub site_row_lem : (x : Answered CallSite) → 5 ≡ length (site_answer x).row
site_row_lem x = row_of 5 _ (λ w. refl) x

pub search_row : (x : Answered Hit) → 2 ≡ length (search_answer x).row
search_row x = row_of 2 _ (λ h. refl) x

pub looked_row : (x : Answered Looked) → 9 ≡ length (lookup.looked_answer x).row
looked_row x = row_of 9 lookup.looked_row go x
  where
    go : (x : Looked) → 9 ≡ length (lookup.looked_row x)
    go (Looked.CannotUnwind k f) = refl
    go (Looked.Compact k f h n) = refl
    go (Looked.Generic k f p site) = refl

pub arrival_row : (x : Answered Arrival) → 2 ≡ length (step.arrival_answer x).row
arrival_row x = row_of 2 step.arrival_row go x
  where
    go : (x : Arrival) → 2 ≡ length (step.arrival_row x)
    go (Arrival.Frame n) = refl
    go Arrival.CannotUnwind = refl

pub verdict_row : (x : Verdict) → 1 ≡ length (verdict_answer x).row
verdict_row (Ok x) = refl
verdict_row (Err f) = refl

pub bundle_row : (x : BundleRead) → 6 ≡ length (bundle_answer x).row
bundle_row x = row_of 6 _ (λ b. refl) x
