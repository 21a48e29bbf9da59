-- How the audit goes on: one law for each way through an entry, and for each turn of the loop over them. Assumes nothing.
use Rattle.std.proofs.Common.{arith, ◌≡◌, ℕ, suc, ◌+◌, ◌≤◌, ◌<◌, List, refl, sym, ap, ◌∙◌, add-one, le-leb, Ok, Err, leb, Option}
use borrow.Author.Tests.{lt-leb}
use Rattle.std.specs.Result.{result_and}
use Rattle.section.specs.Check.{Answered, Check, fine, need, and_then}
use Rattle.section.specs.declared.Addr.{Addr}
use Rattle.section.specs.declared.Off.{Off}
use Rattle.section.specs.declared.Refusal.{Refusal}
use Rattle.instruction.specs.Program.{audit_instructions_of}
use Rattle.entry.specs.Index.{function_at}
use Rattle.entry.specs.declared.Span.{Span}
use Rattle.entry.proofs.Laws.{function_read}
use Rattle.lsda.specs.Sites.{audit_sites_of}
use Rattle.image.specs.Image.{Image, count_of, sections_of, entry_at, led_by}
use Rattle.entry.specs.Parts.{held_words, language_in}
use Rattle.image.specs.declared.Found.{Found}
use Rattle.image.proofs.Laws.{entry_is_led}
use Rattle.audit.specs.Audit.{passed, at_fault, words_check, found_check, floor_of, entry_check, first_fault, verdict_of, audit_of, floored}
use Rattle.audit.specs.declared.Fault.{Fault}

-- ---- what an entry leads to: x is the audit of its words, y of its language data
module _ (xs ys : List ℕ) (s : Span) {w : List ℕ} (words : w ≡ held_words xs ys s) {x : Check} (told : x ≡ audit_instructions_of w s.skip) where
  audited : x ≡ words_check xs ys s
  audited = told ∙ ap (λ (l : List ℕ). audit_instructions_of l s.skip) words

  pub found_compact : (f : Addr) (n : ℕ) → x ≡ found_check xs ys (Found.Compact f n s)
  unfolding found_check
  found_compact f n = audited

  module _ (f p : Addr) (o : Off) where
    pub found_faulty : (r : Refusal) → x ≡ Err r → Err r ≡ found_check xs ys (Found.Generic f p s o)
    unfolding found_check
    found_faulty r e = rw (sym audited ∙ e)

    pub found_sites : x ≡ fine → {l : List ℕ} → l ≡ language_in ys o → {y : Check} → y ≡ audit_sites_of l f → y ≡ found_check xs ys (Found.Generic f p s o)
    unfolding found_check
    found_sites e {l} d q = rw (sym audited ∙ e) (q ∙ ap (λ (b : List ℕ). audit_sites_of b f) d)

-- ---- an entry
-- the test of one whose function f is known, with its floor
abbrev led_check : Image → ℕ → Addr → ℕ → Check
led_check i k f floor = result_and (need (leb floor f.0) Refusal.Unsorted) (and_then (led_by i k f) (λ y. found_check i.index i.table y))

module _ (i : Image) (k : ℕ) (f : Addr) (floor : ℕ) where
  pub led_below : f.0 < floor → led_check i k f floor ≡ Err Refusal.Unsorted
  led_below h = rw (lt-leb floor f.0 h)

  pub led_above : floor ≤ f.0 → {x : Answered Found} → x ≡ led_by i k f → led_check i k f floor ≡ and_then x (λ y. found_check i.index i.table y)
  led_above h e = rw (le-leb floor f.0 h, ← e)

module _ (i : Image) (k : ℕ) where
  entry_refused : (r : Refusal) → function_at i.index i.index_at k ≡ Err r → entry_check i k ≡ Err r
  unfolding entry_check
  entry_refused r e = rw e

  -- ---- tested with its floor
  same : (c : Check) (x : Answered Found) (f : Addr)
      → result_and c (and_then x (λ y. result_and (found_check i.index i.table y) (Ok f))) ≡ result_and (result_and c (and_then x (λ y. found_check i.index i.table y))) (Ok f)
  same (Err r) x f = refl
  same (Ok t) (Err r) f = refl
  same (Ok t) (Ok y) f = refl

  -- where its function is known
  pub floored_led : (f : Addr) (floor : ℕ) → function_at i.index i.index_at k ≡ Ok f → floored i k floor ≡ result_and (led_check i k f floor) (Ok f)
  unfolding floored
  floored_led f floor e = rw e (same (need (leb floor f.0) Refusal.Unsorted) (led_by i k f) f)

  floored_is : floored i k (floor_of i k) ≡ and_then (function_at i.index i.index_at k) (λ f. result_and (entry_check i k) (Ok f))
  unfolding floored entry_check
  floored_is = go (function_at i.index i.index_at k) refl
    where
      go : (x : Answered Addr) → function_at i.index i.index_at k ≡ x
          → and_then x (λ f. result_and (need (leb (floor_of i k) f.0) Refusal.Unsorted) (and_then (led_by i k f) (λ y. result_and (found_check i.index i.table y) (Ok f))))
          ≡ and_then x (λ f. result_and (and_then x (λ g. result_and (need (leb (floor_of i k) g.0) Refusal.Unsorted) (and_then (entry_at i k) (λ y. found_check i.index i.table y)))) (Ok f))
      go (Err r) e = refl
      go (Ok f) e = rw (entry_is_led i k f e) (same (need (leb (floor_of i k) f.0) Refusal.Unsorted) (led_by i k f) f)

  -- what the test says of the entry
  pub entry_fault : (r : Refusal) → floored i k (floor_of i k) ≡ Err r → entry_check i k ≡ Err r
  unfolding entry_check
  entry_fault r e = go (function_at i.index i.index_at k) refl (sym floored_is ∙ e)
    where
      of_test : (c : Check) (f : Addr) → result_and c (Ok f) ≡ Err r → c ≡ Err r
      of_test (Err q) f e = cc
      of_test (Ok t) f e = let z : ◌≡◌ {A = ℕ} 0 1 = cc in absurd (omega arith)

      go : (x : Answered Addr) → function_at i.index i.index_at k ≡ x → and_then x (λ f. result_and (entry_check i k) (Ok f)) ≡ Err r → entry_check i k ≡ Err r
      go (Err q) e h = let k : q ≡ r = cc in entry_refused q e ∙ ap (λ (x : Refusal). Err x) k
      go (Ok f) e h = of_test (entry_check i k) f h

  pub entry_fine : (f : Addr) → floored i k (floor_of i k) ≡ Ok f → (entry_check i k ≡ fine) × (f.0 + 1 ≡ floor_of i (k + 1))
  unfolding floor_of
  entry_fine f e = go (function_at i.index i.index_at k) refl (sym floored_is ∙ e)
    where
      of_test : (c : Check) (g : Addr) → result_and c (Ok g) ≡ Ok f → (c ≡ fine) × (g ≡ f)
      of_test (Err q) g e = let z : ◌≡◌ {A = ℕ} 0 1 = cc in absurd (omega arith)
      of_test fine g e = (refl, cc)

      go : (x : Answered Addr) → function_at i.index i.index_at k ≡ x → and_then x (λ g. result_and (entry_check i k) (Ok g)) ≡ Ok f → (entry_check i k ≡ fine) × (f.0 + 1 ≡ floor_of i (k + 1))
      go (Err q) e h = let z : ◌≡◌ {A = ℕ} 0 1 = cc in absurd (omega arith)
      go (Ok g) e h = let t = of_test (entry_check i k) g h in
          (t.0, rw (add-one k) (ap (λ (a : Addr). a.0 + 1) (sym t.1 ∙ (function_read i.index i.index_at k g e).is)))

-- ---- a turn of the loop: m entries from k on are left
module _ (i : Image) (m k n : ℕ) (more : n ≡ suc m) where
  pub turn_refused : (r : Refusal) → function_at i.index i.index_at k ≡ Err r → first_fault (entry_check i) n k ≡ at_fault k r
  unfolding first_fault
  turn_refused r e = rw (more, entry_refused i k r e)

module _ (i : Image) (m k n : ℕ) (more : n ≡ suc m) (floor : ℕ) (kept : floor ≡ floor_of i k) where
  pub turn_fault : (r : Refusal) → floored i k floor ≡ Err r → first_fault (entry_check i) n k ≡ at_fault k r
  unfolding first_fault
  turn_fault r e = rw (more, entry_fault i k r (rw kept at e))

  pub turn_next : (f : Addr) → floored i k floor ≡ Ok f → (first_fault (entry_check i) n k ≡ first_fault (entry_check i) m (k + 1)) × (f.0 + 1 ≡ floor_of i (k + 1))
  unfolding first_fault
  turn_next f e = let t = entry_fine i k f (rw kept at e) in (rw (more, t.0) refl, t.1)

-- the next floor is one above the function that was read
pub floor_next : (i : Image) (k : ℕ) (f : Addr) → function_at i.index i.index_at k ≡ Ok f → f.0 + 1 ≡ floor_of i (k + 1)
unfolding floor_of
floor_next i k f e = rw (add-one k) (ap (λ (a : Addr). a.0 + 1) (function_read i.index i.index_at k f e).is)

pub floor_first : (i : Image) → 0 ≡ floor_of i 0
unfolding floor_of
floor_first i = refl

pub turn_first : (i : Image) (m n : ℕ) → m ≡ n → first_fault (entry_check i) m 0 ≡ first_fault (entry_check i) n 0
turn_first i m n e = rw e

pub turn_last : (i : Image) (n k : ℕ) → n ≡ 0 → first_fault (entry_check i) n k ≡ passed
unfolding first_fault
turn_last i n k e = rw e

-- ---- the whole
module _ (i : Image) where
  pub audit_sections : (r : Refusal) → sections_of i ≡ Err r → audit_of i ≡ at_fault 0 r
  unfolding audit_of
  audit_sections r e = rw e

  -- by the first fault of the entries that was reported
  pub audit_entries : sections_of i ≡ fine → (x : Option Fault) → verdict_of x ≡ first_fault (entry_check i) (count_of i) 0 → {y : Option Fault} → x ≡ y → audit_of i ≡ verdict_of y
  unfolding audit_of
  audit_entries e x f g = rw e (sym f ∙ ap verdict_of g)
