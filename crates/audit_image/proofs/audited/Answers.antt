-- The report is that of the bytes that were read, and the line is the report's. Assumes nothing.
use mathlib.Core.Path.{◌∙◌, ap}
use Rattle.audit_image.specs.Line.{line_of}
use Rattle.audit_image.proofs.Inputs.{line_of_bytes}
use Rattle.audit_image.proofs.audited.Goals as goal

pub returns : goal.returns
returns c = record {
  line = line_of_bytes _ _ _ c.requires.room _ (c.printed.ensures.text ∙ ap line_of c.audit_bundle.ensures.answer);
  length = c.printed.ensures.length;
}
