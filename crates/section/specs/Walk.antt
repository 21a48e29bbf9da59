-- A walk: from a place to the next, an item at each, until it is done, meets a last item, or something there cannot be read.
-- Instructions of an entry and call sites of language data are walks over positions; runs, audits and searches are functions of one trail. A place can
-- be anything.
use Rattle.std.specs.Prelude.{◌≡◌, ℕ, zero, suc, ◌<◌, Err}
use Rattle.std.specs.Result.{result_and}
use Rattle.section.specs.Check.{Check, fine}
use Rattle.section.specs.declared.Refusal.{Refusal}

-- what stands at a place
pub data Look (S A : Type 0) : Type 0 where
  done : Look S A
  bad : Refusal → Look S A
  last : A → Look S A
  item : A → S → Look S A

-- what a walk has met, in order
pub data Trail (A : Type 0) : Type 0 where
  end : Trail A
  stop : Refusal → Trail A
  more : A → Trail A → Trail A

abbrev pub go_on : {S A : Type 0} → Look S A → (S → Trail A) → Trail A
go_on done f = end
go_on (bad r) f = stop r
go_on (last a) f = more a end
go_on (item a m) f = more a (f m)

-- at most k places from s on, and then `out`
unfoldable pub trail_from : {S A : Type 0} → Trail A → ℕ → (S → Look S A) → S → Trail A
trail_from out zero look s = out
trail_from out (suc k) look s = go_on (look s) (λ m. trail_from out k look m)

-- the whole walk from a position: a turn for each place below the limit and one for the end are enough where each item lies below it and leads upward
unfoldable pub trail_of : {A : Type 0} → (ℕ → Look ℕ A) → ℕ → ℕ → Trail A
trail_of look limit at = trail_from end (suc limit) look at

-- every item of a trail tested in order, and what stopped it: the first fault
unfoldable pub checked : {A : Type 0} → (A → Check) → Trail A → Check
checked f end = fine
checked f (stop r) = Err r
checked f (more a t) = result_and (f a) (checked f t)

-- ---- without the walk
-- from p the walk comes to q
pub data Reached {S A : Type 0} (look : S → Look S A) : S → S → Type 0 where
  here : {p : S} → Reached look p p
  onward : {p m q : S} {a : A} → look p ≡ item a m → Reached look m q → Reached look p q

-- it can be read, and an item is as it should be
pub data Sound {S A : Type 0} (P : A → Type 0) : Look S A → Type 0 where
  at_end : Sound P done
  at_last : {a : A} → P a → Sound P (last a)
  at_item : {a : A} {m : S} → P a → Sound P (item a m)

-- wherever the walk comes, it is sound
abbrev pub Clean : {S A : Type 0} → (A → Type 0) → (S → Look S A) → S → Type 0
Clean {S} P look from = (q : S) → Reached look from q → Sound P (look q)

-- each item lies below a limit and leads upward
abbrev pub Upward : {A : Type 0} → (ℕ → Look ℕ A) → ℕ → Type 0
Upward {A} look limit = (p m : ℕ) (a : A) → look p ≡ item a m → (p < m) × (p < limit)
