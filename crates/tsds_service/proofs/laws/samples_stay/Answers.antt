use Rattle.tsds_service.proofs.SampleLemmas.{samples_stay}
use Rattle.tsds_service.proofs.laws.samples_stay.Goals as goal

pub returns : goal.returns
returns c = samples_stay
