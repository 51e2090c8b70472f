use Rattle.std.proofs.Common.{◌≡◌, map, take}
use Rattle.row_cells.specs.declared.scalars.Scalar.TheVariants as scalar
use Rattle.index_segment.proofs.restore.values_of_texts.Given as goal

abbrev pub invariant-loop-text : goal.invariant-loop-text
invariant-loop-text l = l.values.items ≡ map scalar.Word (take l.text-index l.texts)
