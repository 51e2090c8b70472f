-- The laws of catalogues that these proofs stand on, together.
use Rattle.stream_catalog.specs.Laws.{FactsStay, FoundIsHeld, NamesKeep, RowTestsStay, SeriesStay, LookupsStay, FoundIsSound, SoundShows, ChangesGoThrough, RunsGoThrough, PutsGoThrough, PutsKeepShowing, DownsamplesGoThrough, UnitsGoThrough}
use Rattle.stream_catalog.specs.Laws.{BlocksKeepSound, CreationsKeepSound, DeletionsKeepSound, DownsamplesKeepSound, LivesKeepSound, MovesKeepSound, RolloversKeepSound, PutsKeepSound, RunsKeepSound, StreamDeletionsKeepSound, TemplatesKeepSound}
use Rattle.synthetic_source.specs.Laws.{CellsOfDocumentsFit}
use Rattle.ts_mapping.specs.Laws.{BodiesAreTemplates}

pub record CatalogLaws : Type 0 where
  pub facts : FactsStay
  pub rows : RowTestsStay
  pub series : SeriesStay
  pub lookups : LookupsStay
  pub found : FoundIsSound
  pub shows : SoundShows
  pub changes : ChangesGoThrough
  pub runs : RunsGoThrough
  pub puts : PutsGoThrough
  pub puts_keep : PutsKeepShowing
  pub downsamples : DownsamplesGoThrough
  pub units : UnitsGoThrough

-- those on catalogues that stay sound
pub record SoundLaws : Type 0 where
  pub blocks : BlocksKeepSound
  pub downsamples : DownsamplesKeepSound
  pub lives : LivesKeepSound
  pub stream_deletions : StreamDeletionsKeepSound
  pub deletions : DeletionsKeepSound
  pub creations : CreationsKeepSound
  pub rollovers : RolloversKeepSound
  pub moves : MovesKeepSound
  pub runs : RunsKeepSound
  pub templates : TemplatesKeepSound
  pub puts : PutsKeepSound
  pub held : FoundIsHeld
  pub names : NamesKeep
  -- what requests put are templates and rows
  pub bodies : BodiesAreTemplates
  pub cells : CellsOfDocumentsFit
