use Rattle.tsds_service.proofs.OrderLemmas.{targets_ascend}
use Rattle.tsds_service.proofs.target_laws.targets_ascend.Goals as goal

pub returns : goal.returns
returns c = targets_ascend c.indices_are_sound.ensures.held c.streams_are_found.ensures
