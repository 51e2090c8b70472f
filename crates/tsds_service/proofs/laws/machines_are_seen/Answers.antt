use Rattle.tsds_service.proofs.MachineLemmas.{machine_seen}
use Rattle.tsds_service.proofs.laws.machines_are_seen.Goals as goal

pub returns : goal.returns
returns c = machine_seen c.seen_again.ensures c.names_keep.ensures
