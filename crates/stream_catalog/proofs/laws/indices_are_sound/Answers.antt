use Rattle.stream_catalog.proofs.CatalogLemmas.{sound_of, sound_shows}
use Rattle.stream_catalog.proofs.AfterLemmas.{found_is_held, found_agree}
use Rattle.stream_catalog.proofs.laws.indices_are_sound.Goals as goal

pub returns-clause-found : goal.returns-clause-found
returns-clause-found c = sound_of

pub returns-clause-shows : goal.returns-clause-shows
returns-clause-shows c = sound_shows

pub returns-clause-held : goal.returns-clause-held
returns-clause-held c = found_is_held

pub returns-clause-agree : goal.returns-clause-agree
returns-clause-agree c = found_agree
