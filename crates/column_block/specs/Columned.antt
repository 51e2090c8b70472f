-- What a packed column holds.
use Rattle.column_block.specs.declared.kinds.Values.{Values}
use Rattle.column_block.specs.declared.kinds.Values.TheVariants.{Whole, Parts, Wholes, Words}
use Rattle.column_block.specs.declared.columns.Packed.{Packed}
use Rattle.column_block.specs.declared.columns.Packed.TheVariants.{Whole as WholeOf, Parts as PartsOf, Wholes as WholesOf, Words as WordsOf}

abbrev pub values_in : Packed → Values
values_in (WholeOf column) = Whole column
values_in (PartsOf column) = Parts column
values_in (WholesOf column) = Wholes column
values_in (WordsOf column) = Words column
