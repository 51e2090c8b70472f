use Rattle.index_names.specs.BackingLaws.{one_backing_name}
use Rattle.index_names.proofs.laws.backing_names_tell.Goals as goal

pub returns : goal.returns
returns c = one_backing_name
