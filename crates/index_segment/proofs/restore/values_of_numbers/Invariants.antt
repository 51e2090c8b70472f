use Rattle.std.proofs.Common.{◌≡◌, map, take}
use Rattle.row_cells.specs.declared.scalars.Scalar.TheVariants as scalar
use Rattle.index_segment.proofs.restore.values_of_numbers.Given as goal

abbrev pub invariant-loop-number : goal.invariant-loop-number
invariant-loop-number l = l.values.items ≡ map scalar.Whole (take l.number-index l.numbers)
