use Rattle.downsample_fold.specs.WidenDownLaws.{folds_widen}
use Rattle.downsample_fold.proofs.laws.folds_widen.Goals as goal

pub returns : goal.returns
returns c = folds_widen
