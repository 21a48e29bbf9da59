-- The audit: sections, then each entry in order, and the first fault.
use Rattle.std.specs.Prelude.{ℕ, zero, suc, ◌+◌, List, nat_le, Result, Ok, Err, Option, Some, None}
use Rattle.std.specs.Result.{result_and}
use Rattle.section.specs.Check.{Answered, Check, fine, need, and_then, on_answer}
use Rattle.section.specs.declared.Addr.{Addr}
use Rattle.section.specs.declared.Refusal.{Refusal}
use Rattle.instruction.specs.Program.{audit_instructions_of}
use Rattle.entry.specs.Index.{function_of, function_at}
use Rattle.entry.specs.Parts.{held_words, language_in}
use Rattle.entry.specs.declared.Span.{Span}
use Rattle.lsda.specs.Sites.{audit_sites_of}
use Rattle.image.specs.Image.{Image, count_of, sections_of, entry_at, led_by}
use Rattle.image.specs.declared.Found.{Found}
use Rattle.audit.specs.declared.Fault.{Fault}

-- an image passes, or the first fault and whose it is
abbrev pub Verdict : Type 0
Verdict = Result Unit Fault

pattern abbrev pub passed : Verdict
passed = Ok tt

abbrev pub at_fault : ℕ → Refusal → Verdict
at_fault k r = Err (record { refusal = r; entry = k })

-- the instructions of a span, from whichever section holds them
abbrev pub words_check : List ℕ → List ℕ → Span → Check
words_check xs ys s = audit_instructions_of (held_words xs ys s) s.skip

-- content cannot-unwind; or instructions; then for generic entries the header and each call site
unfoldable pub found_check : List ℕ → List ℕ → Found → Check
found_check xs ys (Found.CannotUnwind f) = fine
found_check xs ys (Found.Compact f n s) = words_check xs ys s
found_check xs ys (Found.Generic f p s o) = result_and (words_check xs ys s) (audit_sites_of (language_in ys o) f)

-- the least address that entry k may have: one above the function before
unfoldable pub floor_of : Image → ℕ → ℕ
floor_of i zero = 0
floor_of i (suc j) = (function_of i.index i.index_at j).0 + 1

-- of entry k: function word sound, address above the last, then an entry that can be read, and what it leads to
unfoldable pub entry_check : Image → ℕ → Check
entry_check i k =
    and_then (function_at i.index i.index_at k) (λ f.
    result_and (need (nat_le (floor_of i k) f.0) Refusal.Unsorted)
    (and_then (entry_at i k) (λ x. found_check i.index i.table x)))

-- of each entry in order: m entries from k on
unfoldable pub first_fault : (ℕ → Check) → ℕ → ℕ → Verdict
first_fault f zero k = passed
first_fault f (suc m) k = on_answer (f k) (λ _. first_fault f m (k + 1)) (at_fault k)

-- a section fault has entry 0
unfoldable pub audit_of : Image → Verdict
audit_of i = on_answer (sections_of i) (λ _. first_fault (entry_check i) (count_of i) 0) (at_fault 0)

-- ---- what code reports
-- the first fault of the entries, as a verdict
abbrev pub verdict_of : Option Fault → Verdict
verdict_of None = passed
verdict_of (Some f) = Err f

-- the test of an entry with its floor, and its function where it passes
unfoldable pub floored : Image → ℕ → ℕ → Answered Addr
floored i k floor =
    and_then (function_at i.index i.index_at k) (λ f.
    result_and (need (nat_le floor f.0) Refusal.Unsorted)
    (and_then (led_by i k f) (λ x.
    result_and (found_check i.index i.table x) (Ok f))))
