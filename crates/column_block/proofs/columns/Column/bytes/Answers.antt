use Rattle.column_block.proofs.OneColumn.{one-column}
use Rattle.column_block.proofs.columns.Column.bytes.Goals as goal

pub returns-clause-one : goal.returns-clause-one
returns-clause-one c = λ spelling h. one-column c.args.self.now c.bytes_of.result.now spelling (rw (← c.self.view_is) c.bytes_of.ensures) h
