-- Results of other layers, with a cause in the place of an error.
use Rattle.std.specs.Prelude.{Option, Some, None, Result, Ok, Err}
use Rattle.stream_catalog.specs.Sound.{IsThere}

-- whatever a result is refused by has a cause; want of memory has none
abbrev pub IsCaused : {A E C : Type 0} → (E → Option C) → Result A E → Type 0
IsCaused cause (Ok a) = Unit {0}
IsCaused cause (Err e) = IsThere (cause e)

-- what is there
abbrev pub what_is : {C : Type 0} → (o : Option C) → IsThere o → C
what_is None there = absurd there
what_is (Some c) there = c

-- the same with the cause of its error
abbrev pub with_cause : {A E C : Type 0} → (cause : E → Option C) → (r : Result A E) → IsCaused cause r → Result A C
with_cause cause (Ok a) is = Ok a
with_cause cause (Err e) is = Err (what_is (cause e) is)
