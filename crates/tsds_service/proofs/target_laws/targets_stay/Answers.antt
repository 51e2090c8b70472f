use Rattle.tsds_service.proofs.OrderLemmas.{targets_stay}
use Rattle.tsds_service.proofs.target_laws.targets_stay.Goals as goal

pub returns : goal.returns
returns c = targets_stay c.tests_stay.ensures.lookups
