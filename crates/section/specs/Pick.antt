-- One of two values, by a test. Every definition that goes by a test on numbers is made of it.
use Rattle.std.specs.Prelude.{Bool, true, false}

abbrev pub pick : {X : Type 0} → Bool → X → X → X
pick true a b = a
pick false a b = b
