use Rattle.downsample_fold.specs.FoldLaws.{folds_compose}
use Rattle.downsample_fold.proofs.laws.folds_compose.Goals as goal

pub returns : goal.returns
returns c = folds_compose
