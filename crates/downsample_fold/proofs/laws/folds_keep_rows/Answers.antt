use Rattle.downsample_fold.specs.FoldLaws.{folds_in_order, folds_at_starts, folds_fit, folds_count_all}
use Rattle.downsample_fold.proofs.laws.folds_keep_rows.Goals as goal

pub returns-clause-in_order : goal.returns-clause-in_order
returns-clause-in_order c = folds_in_order

pub returns-clause-at_starts : goal.returns-clause-at_starts
returns-clause-at_starts c = folds_at_starts

pub returns-clause-fit : goal.returns-clause-fit
returns-clause-fit c = folds_fit

pub returns-clause-counted : goal.returns-clause-counted
returns-clause-counted c = folds_count_all
