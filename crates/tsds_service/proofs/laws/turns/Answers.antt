use Rattle.tsds_service.proofs.TurnLemmas.{turns_refine, turns_stand}
use Rattle.tsds_service.proofs.laws.turns.Goals as goal

pub returns-clause-refine : goal.returns-clause-refine
returns-clause-refine c =
    turns_refine c.machines_are_seen.ensures c.steps_refine.ensures.steps c.steps_refine.ensures.units c.steps_keep.ensures.sound c.units_keep.ensures.sound

pub returns-clause-stand : goal.returns-clause-stand
returns-clause-stand c =
    turns_stand c.machines_are_seen.ensures c.steps_refine.ensures.steps c.steps_refine.ensures.units c.steps_keep.ensures.sound c.units_keep.ensures.sound
