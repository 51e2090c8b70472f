use Rattle.downsample_fold.specs.TotalLaws.{folds_keep_totals}
use Rattle.downsample_fold.proofs.laws.folds_keep_totals.Goals as goal

pub returns : goal.returns
returns g c = folds_keep_totals g.met.F.Fold.laws
