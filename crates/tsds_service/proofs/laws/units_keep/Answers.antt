use Rattle.tsds_service.proofs.UnitLemmas.{units_keep_sound, units_keep_seen}
use Rattle.tsds_service.proofs.laws.units_keep.Goals as goal

pub returns-clause-sound : goal.returns-clause-sound
returns-clause-sound c = units_keep_sound c.changes_keep_sound.ensures.units c.names_keep.ensures

pub returns-clause-seen : goal.returns-clause-seen
returns-clause-seen c = units_keep_seen c.changes_keep_sound.ensures.units c.names_keep.ensures c.machines_are_seen.ensures c.steps_stand.ensures.units
