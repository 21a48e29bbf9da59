-- The search of the index, as the paper has it.
use Rattle.std.specs.Prelude.{ℕ, zero, suc, ◌+◌, ◌-◌, ◌/◌, List, Bool, true, false, length, nat_le, nat_lt, ◌==◌, Ok, Err}
use Rattle.std.specs.Result.{result_and}
use Rattle.section.specs.Pick.{pick}
use Rattle.section.specs.Check.{Answered, and_then}
use Rattle.section.specs.Rule.{index_rule}
use Rattle.section.specs.declared.Addr.{Addr}
use Rattle.section.specs.declared.Refusal.{Refusal}
use Rattle.entry.specs.Index.{entries, function_at}
use Rattle.search.specs.declared.Hit.{Hit}

abbrev pub hit : ℕ → Addr → ℕ → Hit
hit entry f probes = record { entry = entry; function = f; probes = probes }

-- the middle becomes low, with its function, or it becomes high
abbrev pub side : Bool → ℕ → Addr → ℕ → Addr → ℕ → (ℕ → Addr → ℕ → Answered Hit) → Answered Hit
side true low f middle g high go = go middle g high
side false low f middle g high go = go low f middle

-- low has function f, and `probes` words were read so far: while high - low exceeds 1, the middle is read; at most the counter it becomes low, else
-- high. At most k turns
unfoldable pub halve_from : ℕ → List ℕ → Addr → Addr → ℕ → Addr → ℕ → ℕ → Answered Hit
halve_from zero xs a counter low f high probes = Ok (hit low f probes)
halve_from (suc k) xs a counter low f high probes =
    pick (nat_lt 1 (high - low))
    (and_then (function_at xs a ((low + high) / 2))
    (λ g. side (nat_le g.0 counter.0) low f ((low + high) / 2) g high (λ low' f' high'. halve_from k xs a counter low' f' high' (probes + 1))))
    (Ok (hit low f probes))

-- each turn makes high - low less, so that many turns are enough
unfoldable pub halve : List ℕ → Addr → Addr → ℕ → Addr → ℕ → ℕ → Answered Hit
halve xs a counter low f high probes = halve_from (high - low) xs a counter low f high probes

-- the section rule; n = 0: 2; function 0 is read, and a counter below it: 2; then low 0, high n
unfoldable pub search_of : List ℕ → Addr → Addr → Answered Hit
search_of xs a counter =
    result_and (index_rule (length xs) a)
    (pick (entries xs == 0) (Err Refusal.NoEntry)
    (and_then (function_at xs a 0) (λ f. pick (nat_lt counter.0 f.0) (Err Refusal.NoEntry) (halve xs a counter 0 f (entries xs) 1))))
