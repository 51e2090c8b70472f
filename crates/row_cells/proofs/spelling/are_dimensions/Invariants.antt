use Rattle.std.proofs.Common.{◌↔◌, [], length}
use Rattle.row_cells.specs.Dimensions.{SpellDimensionsAfter}
use Rattle.row_cells.proofs.spelling.are_dimensions.Given as goal

abbrev pub invariant-loop-below : goal.invariant-loop-below
invariant-loop-below l = SpellDimensionsAfter [] l.fn.bytes ↔ SpellDimensionsAfter l.below l.rest

abbrev pub decreases-loop-below : goal.decreases-loop-below
decreases-loop-below l = length l.rest
