use Rattle.std.proofs.Common.{◌≡◌, ◌++◌, drop, map}
use Rattle.row_cells.specs.declared.scalars.Scalar.TheVariants.{Flag}
use Rattle.synthetic_source.proofs.ordering.flags_in_order.Given as goal

abbrev pub invariant-loop-flag : goal.invariant-loop-flag
invariant-loop-flag l = l.values.items ++ map Flag (drop l.flag-index l.flag-items) ≡ map Flag l.flag-items
