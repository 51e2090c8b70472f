use Rattle.tsds_service.proofs.TurnLemmas.{messages_refine, moment_instant}
use Rattle.tsds_service.proofs.laws.messages.Goals as goal

pub returns-clause-refine : goal.returns-clause-refine
returns-clause-refine c =
    messages_refine c.machines_are_seen.ensures c.steps_refine.ensures.steps c.steps_refine.ensures.units c.steps_keep.ensures.sound c.units_keep.ensures.sound

pub returns-clause-moments : goal.returns-clause-moments
returns-clause-moments c = moment_instant
