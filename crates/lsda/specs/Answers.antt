-- The paper's number and values of each answer.
use Rattle.std.specs.Prelude.{ℕ, List, [], ◌∷◌, Option, Some, None}
use Rattle.std.specs.Option.{option_map_or}
use Rattle.section.specs.Answer.{Answer, counted}
use Rattle.section.specs.Check.{Answered}
use Rattle.section.specs.declared.Addr.{Addr}
use Rattle.section.specs.declared.Off.{Off}
use Rattle.lsda.specs.Site.{SiteRead}
use Rattle.lsda.specs.declared.Header.{Header}
use Rattle.lsda.specs.declared.Site.{Site}
use Rattle.lsda.specs.declared.CallSite.{CallSite}

-- base, encoding, the table's start and end
abbrev pub header_answer : Answered Header → Answer
header_answer x = counted 4 (λ h. h.base.0 ∷ h.encoding ∷ h.start.0 ∷ h.end ∷ []) x

-- 1 for a site, 0 for the table's end; start, end, pad and action as they are written, next position
abbrev pub site_read_row : Option (Site × Off) → List ℕ
site_read_row (Some x) = 1 ∷ x.0.start.0 ∷ x.0.end.0 ∷ x.0.pad ∷ x.0.action ∷ x.1.0 ∷ []
site_read_row None = 0 ∷ 0 ∷ 0 ∷ 0 ∷ 0 ∷ 0 ∷ []

abbrev pub site_read_answer : SiteRead → Answer
site_read_answer x = counted 6 site_read_row x

-- no pad is 0
abbrev pub pad_number : Option Addr → ℕ
pad_number pad = option_map_or (λ a. a.0) pad 0

-- whether there is an action, and which
abbrev pub has_action : Option ℕ → ℕ
has_action action = option_map_or (λ _. 1) action 0

abbrev pub action_number : Option ℕ → ℕ
action_number action = option_map_or (λ n. n) action 0

-- start, end, pad, has action, action
abbrev pub site_row : CallSite → List ℕ
site_row w = w.start.0 ∷ w.end.0 ∷ pad_number w.pad ∷ has_action w.action ∷ action_number w.action ∷ []

abbrev pub site_answer : Answered CallSite → Answer
site_answer x = counted 5 site_row x
