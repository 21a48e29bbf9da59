-- Answers that a refusal can stand in place of, and tests that pass or give a refusal: one after another, the first refusal counts.
use Rattle.std.specs.Prelude.{Bool, true, false, Result, Ok, Err}
use Rattle.section.specs.declared.Refusal.{Refusal}

-- an answer, or why there is none
abbrev pub Answered : Type 0 → Type 0
Answered A = Result A Refusal

-- a test: it passed, or why not
abbrev pub Check : Type 0
Check = Answered Unit

pattern abbrev pub fine : Check
fine = Ok tt

abbrev pub need : Bool → Refusal → Check
need true r = fine
need false r = Err r

-- what is made of an answer; a refusal stays
abbrev pub and_then : {A B : Type 0} → Answered A → (A → Answered B) → Answered B
and_then (Ok x) f = f x
and_then (Err r) f = Err r

-- what is made of an answer, and of a refusal
abbrev pub on_answer : {A X : Type 0} → Answered A → (A → X) → (Refusal → X) → X
on_answer (Ok x) f g = f x
on_answer (Err r) f g = g r
