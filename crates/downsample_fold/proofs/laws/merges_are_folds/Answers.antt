use Rattle.downsample_fold.specs.ApartLaws.{merges_are_folds}
use Rattle.downsample_fold.proofs.laws.merges_are_folds.Goals as goal

pub returns : goal.returns
returns c = merges_are_folds
