-- The images that the audit passes, as the paper describes them and without the walk.
use Rattle.std.specs.Prelude.{ℕ, suc, ◌*◌, ◌^◌, ◌<◌, ◌≡◌, Ok}
use Rattle.section.specs.Check.{Answered}
use Rattle.section.specs.Word.{word}
use Rattle.section.specs.declared.Addr.{Addr}
use Rattle.section.specs.declared.Off.{Off}
use Rattle.instruction.specs.Program.{CleanInstructions}
use Rattle.entry.specs.Index.{function_of}
use Rattle.entry.specs.declared.Span.{Span}
use Rattle.lsda.specs.Sites.{CleanSites}
use Rattle.image.specs.Image.{Image, count_of, Sections, entry_at, words_of, language_of}
use Rattle.image.specs.declared.Found.{Found}

-- content cannot-unwind; or an entry that was read, whose instructions can all be executed, and if it is generic, whose header and call sites read and fit
pub data SoundFound (i : Image) : Answered Found → Type 0 where
  cannot : {f : Addr} → SoundFound i (Ok (Found.CannotUnwind f))
  compact : {f : Addr} {n : ℕ} {s : Span} → CleanInstructions (words_of i s) s.skip → SoundFound i (Ok (Found.Compact f n s))
  generic : {f p : Addr} {s : Span} {o : Off} → CleanInstructions (words_of i s) s.skip → CleanSites (language_of i o) f → SoundFound i (Ok (Found.Generic f p s o))

abbrev pub start_of : Image → ℕ → Addr
start_of i k = function_of i.index i.index_at k

pub record SoundEntry (i : Image) (k : ℕ) : Type 0 where
  pub sound : word i.index (8 * k) < 2 ^ 31
  pub above : (j : ℕ) → suc j ≡ k → (start_of i j).0 < (start_of i k).0
  pub leads : SoundFound i (entry_at i k)

pub record Sound (i : Image) : Type 0 where
  pub sections : Sections i
  pub entries : (k : ℕ) → k < count_of i → SoundEntry i k
