use Rattle.column_block.proofs.Tabling.{ascend-sorted}
use Rattle.column_block.proofs.table.table_of.Goals as goal

pub returns-clause-ascend : goal.returns-clause-ascend
returns-clause-ascend c = ascend-sorted c.in_ok-texts.texts.items c.in_ok-texts.ensures.sorted

pub returns-clause-occur : goal.returns-clause-occur
returns-clause-occur c = rw c.in_ok-texts.ensures.keys c.in_ok-set.ensures
