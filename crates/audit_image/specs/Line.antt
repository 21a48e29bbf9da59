-- The line that the program prints: ok N, fault R at entry I, or fault R.
use Rattle.std.specs.Prelude.{ℕ, List, ◌++◌, codes, decimal, take, Ok, Err}
use Rattle.bundle.specs.Answers.{report_answer}
use Rattle.bundle.specs.Audit.{Report}
use Rattle.bundle.specs.declared.BundleFault.{BundleFault}
use Rattle.audit_image.specs.declared.line.Line.{Line}

-- N index entries; refusal R, at entry I where it is an entry's
unfoldable pub line_of : Report → List ℕ
line_of (Ok n) = codes "ok " ++ decimal n ++ codes "\n"
line_of (Err (BundleFault.Entry f)) = codes "fault " ++ decimal (report_answer (Err (BundleFault.Entry f))).number ++ codes " at entry " ++ decimal f.entry ++ codes "\n"
line_of (Err (BundleFault.Bundle r)) = codes "fault " ++ decimal (report_answer (Err (BundleFault.Bundle r))).number ++ codes "\n"

-- what a line holds so far
abbrev pub written : Line → List ℕ
written l = take l.len l.bytes

-- the bytes of the longest line, with ten digits for each number
abbrev pub room : ℕ
room = 37
