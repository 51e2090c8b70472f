use Rattle.ts_mapping.specs.ReadingLaws.{parts_fit}
use Rattle.ts_mapping.proofs.laws.parts_of_leaves_fit.Goals as goal

pub returns : goal.returns
returns c = parts_fit
