use Rattle.downsample_fold.specs.KeepLaws.{folds_are_rows}
use Rattle.downsample_fold.proofs.laws.folds_are_rows.Goals as goal

pub returns : goal.returns
returns c = folds_are_rows
