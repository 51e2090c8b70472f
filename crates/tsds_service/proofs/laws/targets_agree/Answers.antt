use Rattle.tsds_service.proofs.TargetLemmas.{targets_agree}
use Rattle.tsds_service.proofs.laws.targets_agree.Goals as goal

pub returns : goal.returns
returns c = targets_agree c.indices_are_sound.ensures.agree
