-- Images by which `Sound` and `Promise` can be seen to say something: one that the audit passes, and two that it does not.
use Rattle.std.specs.Prelude.{ℕ, List, [], ◌∷◌, ◌++◌, replicate}
use Rattle.section.specs.Place.{addr}
use Rattle.image.specs.Image.{Image, image}
use Rattle.step.specs.Execute.{registers}
use Rattle.step.specs.declared.Registers.{Registers}

-- a word in memory, from its bytes 3 to 0
abbrev pub memory : ℕ → ℕ → ℕ → ℕ → List ℕ
memory a b c d = d ∷ c ∷ b ∷ a ∷ []

-- three functions from 0x800, 0x900 and 0xA00 on: one whose three instruction bytes stand in the index, a generic one, and one that cannot be unwound
abbrev pub index_of : List ℕ → List ℕ → List ℕ
index_of function content =
    function ++ content
    ++ memory 0x7F 0xFF 0xF8 0xF8 ++ memory 0x00 0x00 0x0F 0xF4
    ++ memory 0x7F 0xFF 0xF9 0xF0 ++ memory 0x00 0x00 0x00 0x01

abbrev pub function800 : List ℕ
function800 = memory 0x7F 0xFF 0xF8 0x00

-- a personality, Finish three times, and language data with one site: FF FF 01 04 10 08 20 00
abbrev pub table : List ℕ
table = memory 0x7F 0xFF 0xEB 0x00 ++ memory 0x00 0xB0 0xB0 0xB0 ++ (0xFF ∷ 0xFF ∷ 0x01 ∷ 0x04 ∷ 0x10 ∷ 0x08 ∷ 0x20 ∷ 0x00 ∷ [])

abbrev pub image_of : List ℕ → Image
image_of index = image index (addr 0x1000) table (addr 0x2000)

-- Finish, three times
abbrev pub passing : Image
passing = image_of (index_of function800 (memory 0x80 0xB0 0xB0 0xB0))

-- 9D is reserved
abbrev pub reserved : Image
reserved = image_of (index_of function800 (memory 0x80 0x9D 0xB0 0xB0))

-- bit 31 of a function word
abbrev pub corrupt : Image
corrupt = image_of (index_of (memory 0xFF 0xFF 0xF8 0x00) (memory 0x80 0xB0 0xB0 0xB0))

-- a task in the first function
abbrev pub in_first : Registers
in_first = registers (replicate 15 0 ++ (0x800 ∷ [])) (replicate 32 0)
