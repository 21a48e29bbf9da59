-- Each turn reads the middle, which is an entry that is there, and goes on as the definition does, with less between low and high. Assumes nothing.
use Rattle.search.specs.Search.{halve}
use mathlib.Core.Path.{◌≡◌}
use Prim.Native.Nat.{◌+◌, ◌-◌, ◌≤◌}
use Rattle.search.proofs.halved.Given as goal

abbrev pub invariant-loop-high : goal.invariant-loop-high
invariant-loop-high l = (l.low ≤ l.high) × (l.high ≤ l.entries) × (l.probes + (l.high - l.low) ≤ l.entries + 1) × (halve l.index.bytes.now l.index.at l.counter 0 l.initial.function l.entries 1 ≡ halve l.index.bytes.now l.index.at l.counter l.low l.function l.high l.probes)

abbrev pub decreases-loop-high : goal.decreases-loop-high
decreases-loop-high l = l.high - l.low
