-- A text that is copied byte by byte. Assumes nothing.
use Prim.Native.Nat.{ℕ, ◌+◌, ◌<◌, ◌≤◌}
use mathlib.Core.Path.{◌≡◌, ◌∙◌, ap, sym}
use mathlib.Core.List.{List, ◌++◌}
use lib.ListN.{length, get_or, set, take}
use lib.Seq.{paste, paste-suc, take-paste, length-paste, take-length, length-take-le}
use Rattle.io.specs.Counts.{IsPrefixLen}
use native.Mathlib.Numerals.{add-one}
use native.Mathlib.Omega.{arith}

-- what a turn makes of the bytes that were copied so far
pub one_more : (b text : List ℕ) (at k : ℕ) (now : List ℕ) → now ≡ paste b at text k → at + length text ≤ length b → k < length text
    → set now (at + k) (get_or text k 0) ≡ paste b at text (k + 1)
one_more b text at k now e room more = rw (e, add-one k) (paste-suc b at text k 0 (omega arith) more)

-- all of them
pub all_copied : (b text : List ℕ) (at k : ℕ) (now : List ℕ) → now ≡ paste b at text k → at + length text ≤ length b → k ≡ length text
    → take (at + k) now ≡ take at b ++ text
all_copied b text at k now e room k-all = rw (e, k-all) (take-paste b at text (length text) (omega arith) (omega arith) ∙ ap (λ t. take at b ++ t) (take-length text))

pub copied_room : (b text : List ℕ) (at k : ℕ) (now : List ℕ) → now ≡ paste b at text k → at + length text ≤ length b → k ≤ length text → length now ≡ length b
copied_room b text at k now e room few = rw (e) (length-paste b at text k (omega arith) few)

pub counted : (n : ℕ) (xs : List ℕ) → n ≤ length xs → IsPrefixLen n xs
counted n xs h = (h, sym (length-take-le n xs h))
