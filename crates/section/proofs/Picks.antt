-- Case splits of `pick`: what holds in both cases of a test holds of what it picks. Assumes nothing.
use Rattle.std.proofs.Common.{◌≡◌, Bool, true, false, refl}
use Rattle.section.specs.Pick.{pick}

-- a proof by both outcomes of a test
pub by_test : {P : Type 0} (t : Bool) → (t ≡ true → P) → (t ≡ false → P) → P
by_test true f g = f refl
by_test false f g = g refl

-- what holds of each where the test picks it holds of the one that is picked
pub pick_each : {A : Type 0} (P : A → Type 0) (t : Bool) (x y : A) → (t ≡ true → P x) → (t ≡ false → P y) → P (pick t x y)
pick_each P true x y a b = a refl
pick_each P false x y a b = b refl

-- the same where the test says nothing
pub pick_both : {A : Type 0} (P : A → Type 0) (t : Bool) (x y : A) → P x → P y → P (pick t x y)
pick_both P true x y a b = a
pick_both P false x y a b = b
