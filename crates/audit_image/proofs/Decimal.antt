-- Decimal digits, as `io` states them, are those of the line's definition. Assumes nothing.
use Prim.Native.Nat.{ℕ, zero, suc, ◌-◌, ◌/◌, ◌%◌, ◌^◌, ◌<◌, ◌≤◌}
use mathlib.Core.Path.{◌≡◌, refl, ◌∙◌, sym}
use mathlib.Core.List.{List, [], ◌∷◌, ◌++◌, append_assoc, append-nil}
use mathlib.Core.Bool.{false}
use lib.Dec.{ltb, eqb}
use borrow.Author.Tests.{lt-ltb, eqb-true, ltb-true, ltb-false}
use native.Mathlib.Omega.{arith}
use native.Mathlib.Nat.{pow-le-pow_right, pow-succ', one-le-pow}
use Rattle.io.specs.Digits.{last_digits, hex_digit_ascii, IsDigitCount}
use Rattle.std.specs.Prelude.{decimal}
use Rattle.std.specs.Fmt.{digits, digits_onto, digit_glyph}
use Rattle.section.proofs.Picks.{by_test}

larger : (k : ℕ) → 10 < k → 10 ^ 10 ≤ 10 ^ (k - 1)
larger k more = let exponents : 10 ≤ k - 1 = omega arith in pow-le-pow_right (omega arith) exponents

-- a number of 32 bits has at most ten digits
pub at_most_ten : (n k : ℕ) → IsDigitCount 10 1 n k → n < 2 ^ 32 → k ≤ 10
at_most_ten n k f low =
    by_test (ltb 10 k)
    (λ t. let more = ltb-true 10 k t in let large = larger k more in let held = f.2 (omega arith) in absurd (omega arith))
    (λ t. ltb-false 10 k t)

last_digit : (n : ℕ) → hex_digit_ascii (n % 10) ≡ digit_glyph false (n % 10)
last_digit n = rw (lt-ltb (n % 10) 10 (omega arith)) refl

one_digit : (most n : ℕ) (acc : List ℕ) → n < 10 → last_digits 10 1 n ++ acc ≡ digits_onto (suc most) 10 false n acc
one_digit most n acc low =
    let none : n / 10 ≡ 0 = omega arith in
    rw (last_digit n, none) refl

more_digits : (most n k : ℕ) (acc : List ℕ) → 10 ≤ n → last_digits 10 k (n / 10) ++ (digit_glyph false (n % 10) ∷ acc) ≡ digits_onto most 10 false (n / 10) (digit_glyph false (n % 10) ∷ acc)
    → last_digits 10 (suc k) n ++ acc ≡ digits_onto (suc most) 10 false n acc
more_digits most n k acc high e =
    by_test (eqb (n / 10) 0)
    (λ t. let none = eqb-true (n / 10) 0 t in absurd (omega arith))
    (λ t. rw (last_digit n, t, append_assoc (last_digits 10 k (n / 10)) (digit_glyph false (n % 10) ∷ []) acc) e)

-- the fewest digits, where there is room for them, before what follows
pub digits_before : (most n k : ℕ) (acc : List ℕ) → IsDigitCount 10 1 n k → k ≤ most → last_digits 10 k n ++ acc ≡ digits_onto most 10 false n acc
digits_before most n zero acc f h = let none = f.0 in absurd (omega arith)
digits_before zero n (suc k) acc f h = absurd (omega arith)
digits_before (suc most) n (suc zero) acc f h = one_digit most n acc f.1
digits_before (suc most) n (suc (suc j)) acc f h =
    let tenth : suc (suc j) - 1 ≡ suc j = omega arith in
    let hundredth : suc j - 1 ≡ j = omega arith in
    let held : 10 ^ suc j ≤ n = rw (← tenth) (f.2 (omega arith)) in
    let above = f.1 in
    let least = one-le-pow j 10 (omega arith) in
    let p = pow-succ' 10 j in
    let q = pow-succ' 10 (suc j) in
    more_digits most n (suc j) acc (omega arith)
    (digits_before most (n / 10) (suc j) (digit_glyph false (n % 10) ∷ acc) (omega arith, omega arith, λ more. rw (hundredth) (omega arith)) (omega arith))

-- the fewest digits are the number in decimal
pub digits_shown : (n k : ℕ) → IsDigitCount 10 1 n k → k ≤ 64 → last_digits 10 k n ≡ decimal n
unfolding digits
digits_shown n k f h = sym (append-nil (last_digits 10 k n)) ∙ digits_before 64 n k [] f h
