use Rattle.packed_lists.specs.Laws.Fronts.{same-nums}
use Rattle.column_block.proofs.OneColumn.{one-value}
use Rattle.column_block.proofs.laws.one_value.Goals as goal

pub returns-clause-numbers : goal.returns-clause-numbers
returns-clause-numbers c = same-nums

pub returns-clause-column : goal.returns-clause-column
returns-clause-column c = one-value
