use Rattle.column_pack.specs.Laws.OneBlock.{one-block}
use Rattle.column_pack.proofs.laws.one_block.Goals as goal

pub returns : goal.returns
returns c = one-block
