use Rattle.tsds_service.proofs.MessageLemmas.{messages_stand}
use Rattle.tsds_service.proofs.message_laws.messages_stand.Goals as goal

pub returns : goal.returns
returns c = messages_stand c.machines_are_seen.ensures c.messages.ensures.refine
