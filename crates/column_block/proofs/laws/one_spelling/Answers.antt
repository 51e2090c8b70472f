use Rattle.packed_lists.specs.Laws.Fronts.{one-nums}
use Rattle.column_block.proofs.OneColumn.{one-column}
use Rattle.column_block.proofs.laws.one_spelling.Goals as goal

pub returns-clause-numbers : goal.returns-clause-numbers
returns-clause-numbers c = one-nums

pub returns-clause-column : goal.returns-clause-column
returns-clause-column c = one-column
