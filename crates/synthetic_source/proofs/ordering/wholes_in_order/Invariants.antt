use Rattle.std.proofs.Common.{◌≡◌, ◌++◌, drop, map}
use Rattle.row_cells.specs.declared.scalars.Scalar.TheVariants.{Whole}
use Rattle.synthetic_source.proofs.ordering.wholes_in_order.Given as goal

abbrev pub invariant-loop-number : goal.invariant-loop-number
invariant-loop-number l = l.values.items ++ map Whole (drop l.number-index l.number-items) ≡ map Whole l.number-items
