use Rattle.std.proofs.Common.{◌≡◌, ◌++◌, take, drop}
use Rattle.std.specs.Prelude.{map}
use Rattle.column_pack.specs.Block.{below_top}
use Rattle.column_pack.proofs.places.flip.Given as goal

abbrev pub invariant-loop-i : goal.invariant-loop-i
invariant-loop-i l = l.places ≡ map below_top (take l.i l.fn.places) ++ drop l.i l.fn.places
