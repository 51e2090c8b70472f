use Rattle.column_pack.specs.Laws.OneList.{one-list}
use Rattle.column_pack.proofs.laws.one_list.Goals as goal

pub returns : goal.returns
returns c = one-list
