use Rattle.downsample_fold.specs.SeriesLaws.{folds_some_series}
use Rattle.downsample_fold.proofs.laws.fold_of_some_series.Goals as goal

pub returns : goal.returns
returns c = folds_some_series
