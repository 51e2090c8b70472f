use Rattle.tsds_service.proofs.UnitLemmas.{many_units_keep_sound, many_units_keep_seen, many_units_refine, many_units_stand}
use Rattle.tsds_service.proofs.laws.many_units.Goals as goal

pub returns-clause-sound : goal.returns-clause-sound
returns-clause-sound c = many_units_keep_sound c.units_keep.ensures.sound

pub returns-clause-seen : goal.returns-clause-seen
returns-clause-seen c = many_units_keep_seen c.units_keep.ensures.seen

pub returns-clause-refine : goal.returns-clause-refine
returns-clause-refine c = many_units_refine c.units_keep.ensures.sound c.steps_refine.ensures.units

pub returns-clause-stand : goal.returns-clause-stand
returns-clause-stand c = many_units_stand c.units_keep.ensures.sound c.steps_refine.ensures.units
