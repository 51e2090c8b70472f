use Rattle.downsample_fold.specs.TestedLaws.{folds_keep_dimension, folds_keep_tested, keys_told}
use Rattle.downsample_fold.proofs.laws.folds_keep_tested.Goals as goal

pub returns-clause-tested : goal.returns-clause-tested
returns-clause-tested g c = folds_keep_tested g.met.F.Fold.laws

pub returns-clause-keys : goal.returns-clause-keys
returns-clause-keys g c = keys_told

pub returns-clause-dimensions : goal.returns-clause-dimensions
returns-clause-dimensions g c = folds_keep_dimension g.met.F.Fold.laws
