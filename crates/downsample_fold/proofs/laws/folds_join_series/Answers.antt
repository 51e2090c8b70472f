use Rattle.downsample_fold.specs.SeriesLaws.{folds_join_series, folds_join_first, folds_join_next, series_ascend}
use Rattle.downsample_fold.proofs.laws.folds_join_series.Goals as goal

pub returns-clause-all : goal.returns-clause-all
returns-clause-all c = folds_join_series

pub returns-clause-first : goal.returns-clause-first
returns-clause-first c = folds_join_first

pub returns-clause-next : goal.returns-clause-next
returns-clause-next c = folds_join_next

pub returns-clause-ascending : goal.returns-clause-ascending
returns-clause-ascending c = series_ascend
