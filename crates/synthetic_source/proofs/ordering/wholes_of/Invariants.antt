use Rattle.std.proofs.Common.{◌≡◌, ◌++◌, drop, map}
use Rattle.row_cells.specs.declared.scalars.Scalar.TheVariants.{Whole}
use Rattle.synthetic_source.specs.Readings.{AreWhole}
use Rattle.synthetic_source.proofs.ordering.wholes_of.Given as goal

abbrev pub invariant-loop-value : goal.invariant-loop-value
invariant-loop-value l = record {
  so_far : map Whole l.numbers.items ++ drop l.value-index l.values ≡ l.values;
  left : AreWhole (drop l.value-index l.values);
}
