use Rattle.column_pack.specs.Laws.OneList.{block-count, block-size}
use Rattle.column_pack.proofs.laws.block_size.Goals as goal

pub returns-clause-count : goal.returns-clause-count
returns-clause-count c = block-count

pub returns-clause-size : goal.returns-clause-size
returns-clause-size c = block-size
