use Rattle.std.proofs.Common.{◌≡◌, ◌++◌, map}
use Rattle.row_cells.specs.declared.scalars.Scalar.TheVariants.{Word}
use Rattle.synthetic_source.proofs.ordering.words_of.Given as goal

abbrev pub invariant-loop-text : goal.invariant-loop-text
invariant-loop-text l = l.values.items ++ map Word l.text-iterator ≡ map Word l.initial.text-iterator
