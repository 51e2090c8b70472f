use Rattle.tsds_service.proofs.UnitLemmas.{empty_is_seen}
use Rattle.tsds_service.proofs.laws.machines_begin.Goals as goal

pub returns : goal.returns
returns c = empty_is_seen
