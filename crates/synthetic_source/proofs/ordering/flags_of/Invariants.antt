use Rattle.std.proofs.Common.{◌≡◌, ◌++◌, drop, map}
use Rattle.row_cells.specs.declared.scalars.Scalar.TheVariants.{Flag}
use Rattle.row_cells.specs.declared.schemas.FieldType.TheVariants.{Boolean}
use Rattle.synthetic_source.specs.Readings.{AllValues}
use Rattle.synthetic_source.proofs.ordering.flags_of.Given as goal

abbrev pub invariant-loop-value : goal.invariant-loop-value
invariant-loop-value l = record {
  so_far : map Flag l.flags.items ++ drop l.value-index l.values ≡ l.values;
  left : AllValues Boolean (drop l.value-index l.values);
}
