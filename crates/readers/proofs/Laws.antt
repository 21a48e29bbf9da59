-- What is told of language data is told of the part that was taken. Assumes nothing.
use Prim.Native.Nat.{ℕ}
use mathlib.Core.Path.{◌≡◌, refl}
use mathlib.Core.List.{List, [], ◌∷◌}
use lib.ListN.{length, get_or}
use Rattle.std.specs.Prelude.{Ok, Err}
use Rattle.section.specs.Answer.{Told}
use Rattle.section.specs.Check.{Answered}
use Rattle.section.specs.View.{bytes_of}
use Rattle.entry.specs.Answers.{language_answer}
use Rattle.entry.specs.Parts.{language_read}
use Rattle.entry.specs.declared.TableEntry.{TableEntry}

module _ (ys l : List ℕ) (at b n : ℕ) where
  of_read : (x : Answered TableEntry) → l ≡ bytes_of ys (language_read (length ys) x) → b ≡ get_or l at 0 → n ≡ (language_answer ys at x).number → Told (language_answer ys at x) n (length l ∷ b ∷ [])
  of_read (Ok e) p q h = record { number = h; row = rw (q, p) refl }
  of_read (Err r) p q h = record { number = h; row = rw (q, p) refl }

  -- by what the reader was told to have answered
  pub language_told : {x y : Answered TableEntry} → l ≡ bytes_of ys (language_read (length ys) x) → b ≡ get_or l at 0 → x ≡ y → n ≡ (language_answer ys at y).number
      → Told (language_answer ys at x) n (length l ∷ b ∷ [])
  language_told {x} {y} p q e h = rw e (of_read y (rw e at p) q h)
