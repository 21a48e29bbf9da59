-- Laws of the readers, for the crates above. Assumes nothing.
use Rattle.std.proofs.Common.{Err}
use Prim.Native.Nat.{ℕ, suc, ◌<◌, ◌≤◌}
use mathlib.Core.Path.{◌≡◌, refl, ap}
use mathlib.Core.Bool.{Bool}
use mathlib.Core.List.{List, [], ◌∷◌}
use lib.Dec.{leb, eqb}
use lib.ListN.{length}
use borrow.Author.Tests.{le-leb, lt-leb, leb-false, ne_eqb}
use Rattle.section.specs.declared.Refusal.{Refusal}
use Rattle.section.specs.Check.{Answered}
use Rattle.section.specs.Pick.{pick}
use Rattle.section.specs.Rule.{table_most}
use Rattle.section.proofs.Picks.{pick_each, pick_both}
use Rattle.pointer.specs.Number.{Read}
use Rattle.pointer.specs.Pointer.{sized, uleb_of, sleb_of, pointer_of, formed, forms, form_in, form_of, Form}
use Rattle.pointer.specs.Reads.{ReadsOn, NoLeb, NoPointer}
use Rattle.pointer.proofs.Numbers.{leb_on, fixed_on, unsigned_on, signed_on}

-- ---- data that is not too long, and data that is
module _ {A : Type 0} (s : List ℕ) (r : Answered A) where
  pub sized_is : length s ≤ table_most → sized s r ≡ r
  unfolding sized
  sized_is h = ap (λ (t : Bool). pick t r (Err Refusal.Section)) (le-leb _ _ h)

  pub too_long : table_most < length s → sized s r ≡ Err Refusal.Section
  unfolding sized
  too_long h = ap (λ (t : Bool). pick t r (Err Refusal.Section)) (lt-leb _ _ h)

-- what holds of the answer, and of the refusal of data that is too long, holds of both
pub sized_each : {A : Type 0} (s : List ℕ) (P : Answered A → Type 0) → (table_most < length s → P (Err Refusal.Section)) → (r : Answered A) → P r → P (sized s r)
unfolding sized
sized_each s P l r h = pick_each P (leb (length s) table_most) r (Err Refusal.Section) (λ _. h) (λ t. l (leb-false (length s) table_most t))

-- ---- a pointer, once its encoding is known
pub as_formed : (s : List ℕ) (at e : ℕ) (f : Form) → length s ≤ table_most → form_of e ≡ f → pointer_of s at e ≡ formed s at f
unfolding pointer_of
as_formed s at e f h q = rw q (sized_is s (formed s at f) h)

-- an encoding that is not in a table
abbrev Missing : ℕ → List (ℕ × Form) → Type 0
Missing e [] = Unit
Missing e (x ∷ xs) = (e ≡ x.0 → ⊥) × Missing e xs

pub no_form : (e : ℕ) (xs : List (ℕ × Form)) → Missing e xs → form_in xs e ≡ Form.omitted
no_form e [] h = refl
no_form e (x ∷ xs) h = rw (ne_eqb e x.0 h.0) (no_form e xs h.1)

-- ---- each reader goes on, and not past the end
-- what keeps a LEB from being read keeps a pointer
pub leb_why : {len : ℕ} {r : Refusal} → NoLeb len r → NoPointer len r
leb_why (NoLeb.long h) = NoPointer.long h
leb_why NoLeb.truncated = NoPointer.truncated
leb_why NoLeb.value = NoPointer.value

module _ (s : List ℕ) (at : ℕ) where
  abbrev Leb : Read → Type 0
  Leb = ReadsOn (NoLeb (length s)) at (length s)

  abbrev Pointer : Read → Type 0
  Pointer = ReadsOn (NoPointer (length s)) at (length s)

  as_pointer : (r : Read) → Leb r → Pointer r
  as_pointer r (ReadsOn.value f p q) = ReadsOn.value f p q
  as_pointer r (ReadsOn.refused w) = ReadsOn.refused (leb_why w)

  sized_on : (Why : Refusal → Type 0) → (table_most < length s → Why Refusal.Section) → (r : Read) → ReadsOn Why at (length s) r → ReadsOn Why at (length s) (sized s r)
  unfolding sized
  sized_on Why l r h = sized_each s (ReadsOn Why at (length s)) (λ t. ReadsOn.refused (l t)) r h

  uleb_formed : Leb (formed s at Form.uleb)
  unfolding formed
  uleb_formed = unsigned_on _ (leb_on s at)

  sleb_formed : Leb (formed s at Form.sleb)
  unfolding formed
  sleb_formed = signed_on _ (leb_on s at)

  unsigned_formed : (k : ℕ) → Pointer (formed s at (Form.unsigned (suc k)))
  unfolding formed
  unsigned_formed k = as_pointer _ (unsigned_on _ (fixed_on s at k))

  signed_formed : (k : ℕ) → Pointer (formed s at (Form.signed (suc k)))
  unfolding formed
  signed_formed k = as_pointer _ (signed_on _ (fixed_on s at k))

  omitted_formed : Pointer (formed s at Form.omitted)
  unfolding formed
  omitted_formed = ReadsOn.refused NoPointer.encoding

  -- what holds of each form of a table, and of none, holds of an encoding's
  abbrev Each : (Form → Type 0) → List (ℕ × Form) → Type 0
  Each P [] = Unit
  Each P (x ∷ xs) = P x.1 × Each P xs

  form_each : (P : Form → Type 0) → P Form.omitted → (e : ℕ) (xs : List (ℕ × Form)) → Each P xs → P (form_in xs e)
  form_each P o e [] h = o
  form_each P o e (x ∷ xs) h = pick_both P (eqb e x.0) x.1 (form_in xs e) h.0 (form_each P o e xs h.1)

  formed_on : (e : ℕ) → Pointer (formed s at (form_of e))
  formed_on e =
      let u = unsigned_formed in
      let i = signed_formed in
      form_each (λ (f : Form). Pointer (formed s at f)) omitted_formed e forms
      (u 7, (u 7, (as_pointer _ uleb_formed, (u 1, (u 3, (as_pointer _ sleb_formed, (i 1, (i 3, (i 7, tt)))))))))

  pub uleb_on : Leb (uleb_of s at)
  unfolding uleb_of
  uleb_on = sized_on (NoLeb (length s)) NoLeb.long _ uleb_formed

  pub sleb_on : Leb (sleb_of s at)
  unfolding sleb_of
  sleb_on = sized_on (NoLeb (length s)) NoLeb.long _ sleb_formed

  pub pointer_on : (e : ℕ) → Pointer (pointer_of s at e)
  unfolding pointer_of
  pointer_on e = sized_on (NoPointer (length s)) NoPointer.long _ (formed_on e)

  -- the SLEB of the table of forms is the SLEB
  pub pointer_sleb : pointer_of s at 0x09 ≡ sleb_of s at
  unfolding pointer_of sleb_of
  pointer_sleb = refl
