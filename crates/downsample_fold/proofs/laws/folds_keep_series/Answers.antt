use Rattle.downsample_fold.specs.KeepLaws.{folds_keep_dimensions}
use Rattle.downsample_fold.specs.SettleLaws.{folds_keep_series, rows_join_series}
use Rattle.downsample_fold.proofs.laws.folds_keep_series.Goals as goal

pub returns-clause-series : goal.returns-clause-series
returns-clause-series c = folds_keep_series

pub returns-clause-dimensions : goal.returns-clause-dimensions
returns-clause-dimensions c = folds_keep_dimensions

pub returns-clause-rows : goal.returns-clause-rows
returns-clause-rows c = rows_join_series
