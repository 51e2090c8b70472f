use Rattle.tsds_service.proofs.MessageLemmas.{runs_begin}
use Rattle.tsds_service.proofs.message_laws.runs_begin.Goals as goal

pub returns : goal.returns
returns c = runs_begin
