-- What a body has at fault, and which of several faults counts.
use Rattle.std.specs.Prelude.{List, [], ◌∷◌, Option, Some, None}
use Rattle.std.specs.Cmp.Lexicographic.{slice_cmp}
use Rattle.std.specs.Ordering.{nat_cmp, match_ordering}
use Rattle.search_filter.specs.declared.faults.Fault.{Fault}
use Rattle.search_filter.specs.declared.faults.Fault.TheVariants.{Shape, WrongValue}

-- of two faults the one that counts: a wrong shape, else the wrong value of the lesser path
abbrev pub worse : Option Fault → Fault → Fault
worse None f = f
worse (Some Shape) f = Shape
worse (Some (WrongValue p)) Shape = Shape
worse (Some (WrongValue p)) (WrongValue q) = match_ordering (slice_cmp nat_cmp q p) (WrongValue q) (WrongValue p) (WrongValue p)

-- the fault that counts among one that is held and some more
abbrev pub worst_with : Option Fault → List Fault → Option Fault
worst_with held [] = held
worst_with held (f ∷ fs) = worst_with (Some (worse held f)) fs
