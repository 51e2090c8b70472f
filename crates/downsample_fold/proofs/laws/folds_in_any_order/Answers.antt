use Rattle.downsample_fold.specs.FoldLaws.{folds_any_order, folds_sorted}
use Rattle.downsample_fold.proofs.laws.folds_in_any_order.Goals as goal

pub returns-clause-sorted : goal.returns-clause-sorted
returns-clause-sorted c = folds_sorted

pub returns-clause-any : goal.returns-clause-any
returns-clause-any c = folds_any_order
