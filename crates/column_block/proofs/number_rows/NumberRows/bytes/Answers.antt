use Rattle.column_block.proofs.NumberRowed.{spelled-rows}
use Rattle.column_block.proofs.number_rows.NumberRows.bytes.Goals as goal

pub returns : goal.returns
returns c = spelled-rows c.args.self.now c.self.inside.rows.lists c.self.inside.rows.front c.bytes.result.now c.bytes.ensures c.self.invariant.0 c.self.view_is
