use Rattle.std.proofs.Common.{◌≡◌, ◌++◌, map}
use Rattle.row_cells.specs.declared.scalars.Scalar.TheVariants.{Word}
use Rattle.row_cells.specs.declared.schemas.FieldType.TheVariants.{Keyword}
use Rattle.synthetic_source.specs.Readings.{AllValues}
use Rattle.synthetic_source.proofs.ordering.texts_of.Given as goal

abbrev pub invariant-loop-value : goal.invariant-loop-value
invariant-loop-value l = record {
  so_far : map Word l.texts.items ++ l.value-iterator.rest.items ≡ l.fn.values.items;
  left : AllValues Keyword l.value-iterator.rest.items;
}
