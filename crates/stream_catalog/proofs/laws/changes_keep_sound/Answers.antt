use Rattle.stream_catalog.proofs.PutLemmas.{puts_keep_sound}
use Rattle.stream_catalog.proofs.BlockLemmas.{blocks_keep_sound}
use Rattle.stream_catalog.proofs.DownsampleLemmas.{downsamples_keep_sound}
use Rattle.stream_catalog.proofs.UnitLemmas.{units_keep_sound}
use Rattle.stream_catalog.proofs.StreamLemmas.{lives_keep_sound}
use Rattle.stream_catalog.proofs.GoneLemmas.{stream_deletions_keep_sound, deletions_keep_sound}
use Rattle.stream_catalog.proofs.TemplateLemmas.{templates_keep_sound}
use Rattle.stream_catalog.proofs.NewLemmas.{creations_keep_sound}
use Rattle.stream_catalog.proofs.RollLemmas.{rollovers_keep_sound}
use Rattle.stream_catalog.proofs.MoveLemmas.{moves_keep_sound}
use Rattle.stream_catalog.proofs.PlanLemmas.{runs_keep_sound}
use Rattle.stream_catalog.proofs.laws.changes_keep_sound.Goals as goal

pub returns-clause-puts : goal.returns-clause-puts
returns-clause-puts c = puts_keep_sound

pub returns-clause-blocks : goal.returns-clause-blocks
returns-clause-blocks c = blocks_keep_sound

pub returns-clause-downsamples : goal.returns-clause-downsamples
returns-clause-downsamples c = downsamples_keep_sound

pub returns-clause-units : goal.returns-clause-units
returns-clause-units c = units_keep_sound

pub returns-clause-lives : goal.returns-clause-lives
returns-clause-lives c = lives_keep_sound

pub returns-clause-stream_deletions : goal.returns-clause-stream_deletions
returns-clause-stream_deletions c = stream_deletions_keep_sound

pub returns-clause-deletions : goal.returns-clause-deletions
returns-clause-deletions c = deletions_keep_sound

pub returns-clause-templates : goal.returns-clause-templates
returns-clause-templates c = templates_keep_sound

pub returns-clause-creations : goal.returns-clause-creations
returns-clause-creations c = creations_keep_sound

pub returns-clause-rollovers : goal.returns-clause-rollovers
returns-clause-rollovers c = rollovers_keep_sound

pub returns-clause-moves : goal.returns-clause-moves
returns-clause-moves c = moves_keep_sound

pub returns-clause-runs : goal.returns-clause-runs
returns-clause-runs c = runs_keep_sound
