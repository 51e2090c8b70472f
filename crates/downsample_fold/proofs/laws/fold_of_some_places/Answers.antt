use Rattle.downsample_fold.specs.SeriesLaws.{folds_some_places, folds_tested}
use Rattle.downsample_fold.proofs.laws.fold_of_some_places.Goals as goal

pub returns-clause-places : goal.returns-clause-places
returns-clause-places c = folds_some_places

pub returns-clause-tested : goal.returns-clause-tested
returns-clause-tested c = folds_tested
