use Rattle.downsample_fold.specs.ApartLaws.{folds_join_apart, folds_join_places, bucket_in_front}
use Rattle.downsample_fold.proofs.laws.folds_join_apart.Goals as goal

pub returns-clause-series : goal.returns-clause-series
returns-clause-series c = folds_join_apart

pub returns-clause-places : goal.returns-clause-places
returns-clause-places c = folds_join_places

pub returns-clause-bucket : goal.returns-clause-bucket
returns-clause-bucket c = bucket_in_front
