-- The answer of the search as the paper counts it: the refusal's number; entry, and the number of function words read.
use Rattle.std.specs.Prelude.{[], ◌∷◌}
use Rattle.section.specs.Answer.{Answer, counted}
use Rattle.section.specs.Check.{Answered}
use Rattle.search.specs.declared.Hit.{Hit}

abbrev pub search_answer : Answered Hit → Answer
search_answer x = counted 2 (λ h. h.entry ∷ h.probes ∷ []) x
