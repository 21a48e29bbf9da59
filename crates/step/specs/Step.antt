-- Step: sections, then search by register 15 as it stands, then the entry, then its instructions.
use Rattle.std.specs.Prelude.{ℕ, List, length, slice_index, Ok}
use Rattle.std.specs.Result.{result_and}
use Rattle.section.specs.Check.{Answered, and_then, on_answer}
use Rattle.section.specs.Place.{addr}
use Rattle.section.specs.Rule.{stack_rule}
use Rattle.section.specs.declared.Addr.{Addr}
use Rattle.entry.specs.declared.Span.{Span}
use Rattle.image.specs.Image.{Image, sections_of, entry_at, words_of}
use Rattle.image.specs.declared.Found.{Found}
use Rattle.search.specs.Search.{search_of}
use Rattle.step.specs.Execute.{registers}
use Rattle.step.specs.Run.{handed, refused_step, run_of}
use Rattle.step.specs.declared.Registers.{Registers}
use Rattle.step.specs.declared.Arrival.{Arrival}
use Rattle.step.specs.declared.Stepped.{Stepped}

-- the instructions of a span, from whichever section holds them
abbrev pub ran_by : Image → List ℕ → Addr → Registers → Span → Stepped
ran_by i st base given s = run_of (words_of i s) s.skip st base given

-- cannot-unwind hands back the registers given; a step reads instructions and no language data
unfoldable pub stepped_by : Image → List ℕ → Addr → Registers → Found → Stepped
stepped_by i st base given (Found.CannotUnwind f) = handed given (Ok Arrival.CannotUnwind)
stepped_by i st base given (Found.Compact f n s) = ran_by i st base given s
stepped_by i st base given (Found.Generic f p s o) = ran_by i st base given s

-- the counter is register 15
abbrev pub counter_of : Registers → Addr
counter_of r = addr (slice_index r.core 15)

-- what a step goes by: what the entry leads to, or the first refusal of the tests on the way to it
unfoldable pub found_of : Image → List ℕ → Addr → Addr → Answered Found
found_of i st base counter =
    result_and (sections_of i)
    (result_and (stack_rule (length st) base)
    (and_then (search_of i.index i.index_at counter) (λ h. entry_at i h.entry)))

unfoldable pub step_of : Image → List ℕ → Addr → Registers → Stepped
step_of i st base given = on_answer (found_of i st base (counter_of given)) (stepped_by i st base given) (refused_step given)

-- ---- what code reports: a step in place, with the registers as it leaves them
abbrev pub stands : Answered Arrival → List ℕ → List ℕ → Stepped
stands a core vfp = record { arrival = a; registers = registers core vfp }
