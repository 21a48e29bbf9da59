-- The paper's cases marked [t], in one table: what is read, and the answer in the paper's numbers.
use Rattle.std.specs.Prelude.{ℕ, List, [], ◌∷◌, ◌++◌, length, Ok, Err, Some, None}
use Rattle.section.specs.Answer.{Answer, given, refused}
use Rattle.section.specs.declared.Refusal.{Refusal}
use Rattle.section.specs.Walk.{Look, last, bad, item, Trail, end, stop, more, trail_of}
use Rattle.section.specs.Word.{word}
use Rattle.instruction.specs.Answers.{decoded_answer}
use Rattle.instruction.specs.Decode.{Decoded, decode_of}
use Rattle.entry.specs.Answers.{content_row}
use Rattle.entry.specs.Index.{content_of}
use Rattle.entry.specs.Parts.{words_in}
use Rattle.entry.specs.declared.Content.{Content}
use Rattle.pointer.specs.Answers.{read_answer}
use Rattle.pointer.specs.Pointer.{sleb_of}
use Rattle.section.specs.Place.{addr, off}
use Rattle.lsda.specs.Answers.{site_answer}
use Rattle.lsda.specs.Sites.{call_site_of}

-- the instruction at a position of words, the content word of an index's first entry with all that it holds, the SLEB that bytes begin with, the call
-- site of language data for a function and a counter
pub data Asked : Type 0 where
  instruction : List ℕ → ℕ → Asked
  content : List ℕ → Asked
  sleb : List ℕ → Asked
  site : List ℕ → ℕ → ℕ → Asked

-- the row of what is decoded at a position; a Finish does not end the list
abbrev pub row_of : ℕ → Decoded → Look ℕ (List ℕ)
row_of at (Ok (Some s)) = item (decoded_answer at (Ok (Some s))).row s.1
row_of at (Ok None) = last (decoded_answer at (Ok None)).row
row_of at (Err r) = bad r

unfoldable pub joined : Trail (List ℕ) → List ℕ
joined end = []
joined (stop r) = []
joined (more row t) = row ++ joined t

-- the rows of all instructions of words from a position on, and of their end
unfoldable pub rows_of : List ℕ → ℕ → List ℕ
rows_of words at = joined (trail_of (λ k. row_of k (decode_of words k)) (length words) at)

-- a content's row, and the rows of what a compact one holds
unfoldable pub content_rows : List ℕ → Content → List ℕ
content_rows index Content.CannotUnwind = content_row Content.CannotUnwind
content_rows index (Content.Table a) = content_row (Content.Table a)
content_rows index (Content.Compact p s) = content_row (Content.Compact p s) ++ rows_of (words_in index s) s.skip

unfoldable pub answer_of : Asked → Answer
answer_of (instruction words at) = decoded_answer at (decode_of words at)
answer_of (content index) = given (content_rows index (content_of (word index 4) (addr 0) (off 4)))
answer_of (sleb bytes) = read_answer (sleb_of bytes 0)
answer_of (site bytes function counter) = site_answer (call_site_of bytes (addr function) (addr counter))

pub record Case : Type 0 where
  pub asked : Asked
  pub answer : Answer

abbrev pub case : Asked → List ℕ → Case
case a row = record { asked = a; answer = given row }

-- language data with one site: FF FF 01 04 10 08 20 00
abbrev pub one_site : List ℕ
one_site = 0xFF ∷ 0xFF ∷ 0x01 ∷ 0x04 ∷ 0x10 ∷ 0x08 ∷ 0x20 ∷ 0x00 ∷ []

-- the word in memory whose instruction bytes are a b c d
abbrev pub in_memory : ℕ → ℕ → ℕ → ℕ → List ℕ
in_memory a b c d = d ∷ c ∷ b ∷ a ∷ []

-- what an instruction's row begins with
abbrev pub pop : ℕ → ℕ → List ℕ
pop size next = 1 ∷ size ∷ 0 ∷ next ∷ []

abbrev pub push : ℕ → ℕ → List ℕ
push size next = 2 ∷ size ∷ 0 ∷ next ∷ []

abbrev pub mask : ℕ → ℕ → List ℕ
mask m next = 3 ∷ m ∷ 0 ∷ next ∷ []

abbrev pub vfp : ℕ → ℕ → ℕ → List ℕ
vfp start count next = 5 ∷ start ∷ count ∷ next ∷ []

-- a compact content's row: its selector, and the offset, the count and the skip of its words
abbrev pub compact : ℕ → ℕ → ℕ → ℕ → List ℕ
compact selector at words skip = 1 ∷ selector ∷ at ∷ words ∷ skip ∷ []

-- an instruction without values, by its kind
abbrev pub plain : ℕ → ℕ → List ℕ
plain kind next = kind ∷ 0 ∷ 0 ∷ next ∷ []

abbrev pub End : ℕ
End = 0

abbrev pub Finish : ℕ
Finish = 6

abbrev pub Refused : ℕ
Refused = 7

abbrev pub Reserved : ℕ
Reserved = 8

abbrev pub Error : ℕ
Error = 10

unfoldable pub cases : List Case
cases =
    case (instruction (in_memory 0x00 0 0 0) 0) (pop 4 1)
    ∷ case (instruction (in_memory 0x7F 0 0 0) 0) (push 256 1)
    ∷ case (instruction (in_memory 0x80 0x00 0 0) 0) (plain Refused 2)
    ∷ case (instruction (in_memory 0 0 0 0x80) 3) (plain Error 4)
    ∷ case (instruction (in_memory 0x9D 0 0 0) 0) (plain Reserved 1)
    ∷ case (instruction (in_memory 0xB1 0x10 0 0) 0) (plain Reserved 2)
    ∷ case (instruction (in_memory 0xB2 0x81 0x01 0) 0) (pop 1032 3)
    ∷ case (instruction (in_memory 0xB2 0xFE 0xFE 0xFF ++ in_memory 0xFF 0x03 0 0) 0) (pop 0xFFFFFFFC 6)
    ∷ case (instruction (in_memory 0xB2 0xFF 0xFE 0xFF ++ in_memory 0xFF 0x03 0 0) 0) (plain Error 8)
    ∷ case (instruction (in_memory 0xC8 0x0F 0 0) 0) (vfp 16 16 2)
    ∷ case (content (0 ∷ 0 ∷ 0 ∷ 0 ∷ 0xB0 ∷ 0xB0 ∷ 0xA8 ∷ 0x80 ∷ [])) (compact 0 4 1 1 ++ mask 0x4010 2 ++ plain Finish 3 ++ plain Finish 4 ++ plain End 4)
    ∷ case (sleb (0x7F ∷ [])) (0xFFFFFFFF ∷ 1 ∷ [])
    ∷ case (site one_site 0x08001000 0x08001017) (0x08001010 ∷ 0x08001018 ∷ 0x08001020 ∷ 0 ∷ 0 ∷ [])
    ∷ record { asked = site one_site 0x08001000 0x08001018; answer = refused 5 Refusal.NoSite }
    ∷ []
