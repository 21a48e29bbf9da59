-- The audit passes exactly the sound images. Assumes nothing.
use Prim.Native.Nat.{ℕ, zero, suc, ◌+◌, ◌≤◌, ◌<◌}
use mathlib.Core.Path.{◌≡◌, refl}
use mathlib.Core.Logic.{◌↔◌}
use native.Mathlib.Omega.{arith}
use lib.Dec.{leb, eqb}
use borrow.Author.Tests.{eqb-true, eqb-false}
use Rattle.std.proofs.Common.{Ok, Err}
use Rattle.std.specs.Result.{result_and}
use Rattle.section.specs.Check.{Answered, Check, fine, need, and_then, on_answer}
use Rattle.section.specs.declared.Addr.{Addr}
use Rattle.section.specs.declared.Refusal.{Refusal}
use Rattle.section.proofs.Picks.{by_test}
use Rattle.section.proofs.Checks.{no_fault, and_fine, fine_and, need_le, and_exact}
use Rattle.instruction.proofs.Program.{instructions_exact}
use Rattle.entry.specs.Index.{function_at}
use Rattle.entry.proofs.Laws.{function_sound, function_read}
use Rattle.audit.specs.declared.Fault.{Fault}
use Rattle.lsda.specs.Sites.{audit_sites_of}
use Rattle.lsda.proofs.Laws.{sites_exact}
use Rattle.image.specs.Image.{Image, count_of, sections_of, Sections, entry_at, words_of, language_of}
use Rattle.image.specs.declared.Found.{Found}
use Rattle.image.proofs.Laws.{sections_exact}
use Rattle.audit.specs.Audit.{Verdict, passed, at_fault, words_check, found_check, floor_of, entry_check, first_fault, audit_of}
use Rattle.audit.specs.Sound.{SoundFound, start_of, SoundEntry, Sound}

module _ (i : Image) where
  -- ---- what an entry leads to, by its cases
  abbrev checked_found : Answered Found → Check
  checked_found x = and_then x (λ y. found_check i.index i.table y)

  found_sound : (x : Answered Found) → checked_found x ≡ fine → SoundFound i x
  unfolding found_check
  found_sound (Ok (Found.CannotUnwind f)) e = SoundFound.cannot
  found_sound (Ok (Found.Compact f n s)) e = SoundFound.compact ((instructions_exact (words_of i s) s.skip).0 e)
  found_sound (Ok (Found.Generic f p s o)) e =
      let h = and_fine (words_check i.index i.table s) (audit_sites_of (language_of i o) f) e in
      SoundFound.generic ((instructions_exact (words_of i s) s.skip).0 h.0) ((sites_exact (language_of i o) f).0 h.1)
  found_sound (Err r) e = no_fault r e

  sound_found : (x : Answered Found) → SoundFound i x → checked_found x ≡ fine
  unfolding found_check
  sound_found x SoundFound.cannot = refl
  sound_found x (SoundFound.compact {s = s} p) = (instructions_exact (words_of i s) s.skip).1 p
  sound_found x (SoundFound.generic {f = f} {s = s} {o = o} p q) =
      fine_and (words_check i.index i.table s) _ ((instructions_exact (words_of i s) s.skip).1 p) ((sites_exact (language_of i o) f).1 q)

  -- ---- above the function before
  floor_above : (k a : ℕ) → floor_of i k ≤ a → (j : ℕ) → suc j ≡ k → (start_of i j).0 < a
  unfolding floor_of
  floor_above zero a h j e = absurd (omega arith)
  floor_above (suc k) a h j e = let q : j ≡ k = omega arith in rw q (omega arith)

  above_floor : (k a : ℕ) → ((j : ℕ) → suc j ≡ k → (start_of i j).0 < a) → floor_of i k ≤ a
  unfolding floor_of
  above_floor zero a h = omega arith
  above_floor (suc j) a h = let g = h j refl in omega arith

  -- ---- an entry
  entry_exact : Sections i → (k : ℕ) → k < count_of i → (entry_check i k ≡ fine) ↔ SoundEntry i k
  unfolding entry_check
  entry_exact s k l = (λ e. to (function_at i.index i.index_at k) refl e, from)
    where
      test : Addr → Check
      test f = result_and (need (leb (floor_of i k) f.0) Refusal.Unsorted) (checked_found (entry_at i k))

      exact : (f : Addr) → (test f ≡ fine) ↔ ((floor_of i k ≤ f.0) × SoundFound i (entry_at i k))
      exact f = and_exact _ _ (need_le (floor_of i k) f.0 Refusal.Unsorted) (found_sound (entry_at i k), sound_found (entry_at i k))

      to : (x : Answered Addr) → function_at i.index i.index_at k ≡ x → and_then x test ≡ fine → SoundEntry i k
      to (Ok f) r p =
          let t = function_read i.index i.index_at k f r in
          let h = (exact f).0 p in
          let g : floor_of i k ≤ (start_of i k).0 = rw t.is at h.0 in
          record { sound = t.sound; above = floor_above k (start_of i k).0 g; leads = h.1 }
      to (Err r) q p = no_fault r p

      from : SoundEntry i k → and_then (function_at i.index i.index_at k) test ≡ fine
      from x = rw (function_sound i.index i.index_at k s.index l x.sound) ((exact (start_of i k)).1 (above_floor k (start_of i k).0 x.above, x.leads))

-- ---- every entry in order
-- a fault is no pass
pub no_pass : {X : Type 0} (f : Fault) → ◌≡◌ {A = Verdict} (Err f) passed → X
no_pass f e = let z : ◌≡◌ {A = ℕ} 0 1 = cc in absurd (omega arith)

both_pass : (x : Check) (y : Verdict) (k : ℕ) → on_answer x (λ _. y) (at_fault k) ≡ passed → (x ≡ fine) × (y ≡ passed)
both_pass fine y k e = (refl, e)
both_pass (Err r) y k e = no_pass _ e

module _ (f : ℕ → Check) where
  first_all : (m k : ℕ) → first_fault f m k ≡ passed → (j : ℕ) → k ≤ j → j < k + m → f j ≡ fine
  unfolding first_fault
  first_all zero k e j a b = absurd (omega arith)
  first_all (suc m) k e j a b =
      let h = both_pass (f k) (first_fault f m (k + 1)) k e in
      by_test (eqb k j) (λ t. rw (← (eqb-true k j t)) h.0) (λ t. let n = eqb-false k j t in first_all m (k + 1) h.1 j (omega arith) (omega arith))

  all_first : (m k : ℕ) → ((j : ℕ) → k ≤ j → j < k + m → f j ≡ fine) → first_fault f m k ≡ passed
  unfolding first_fault
  all_first zero k h = refl
  all_first (suc m) k h = rw (h k (omega arith) (omega arith)) (all_first m (k + 1) (λ j a b. h j (omega arith) (omega arith)))

pub audit_exact : (i : Image) → (audit_of i ≡ passed) ↔ Sound i
unfolding audit_of
audit_exact i = (
  λ e. let h = both_pass (sections_of i) (first_fault (entry_check i) (count_of i) 0) 0 e in
      let s = (sections_exact i).0 h.0 in
      record { sections = s; entries = λ k l. (entry_exact i s k l).0 (first_all (entry_check i) (count_of i) 0 h.1 k (omega arith) (omega arith)) },
  λ s. rw ((sections_exact i).1 s.sections) (all_first (entry_check i) (count_of i) 0 (λ k a b. let l : k < count_of i = omega arith in (entry_exact i s.sections k l).1 (s.entries k l))),
)
