use Rattle.packed_lists.specs.Laws.Fronts.{nums-fit}
use Rattle.column_block.proofs.laws.numbers_fit.Goals as goal

pub returns : goal.returns
returns c = nums-fit
