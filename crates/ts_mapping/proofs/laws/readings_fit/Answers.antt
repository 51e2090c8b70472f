use Rattle.ts_mapping.specs.ReadingLaws.{reading_fits}
use Rattle.ts_mapping.proofs.laws.readings_fit.Goals as goal

pub returns : goal.returns
returns c = reading_fits
