use Rattle.std.proofs.Common.{◌≡◌, take}
use Rattle.std.specs.Prelude.{map, All, FitsSigned}
use Rattle.std.specs.Int.{w64}
use Rattle.column_pack.specs.Block.{height}
use Rattle.column_pack.proofs.places.heights_of.Given as goal

abbrev pub invariant-loop-i : goal.invariant-loop-i
invariant-loop-i l = record { heights : take l.i l.heights ≡ map height (take l.i l.values); signed : All (FitsSigned w64) (take l.i l.values) }
