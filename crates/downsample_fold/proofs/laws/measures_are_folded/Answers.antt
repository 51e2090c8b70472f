use Rattle.downsample_fold.specs.CellLaws.{folds_at_fields}
use Rattle.downsample_fold.specs.MeasureLaws.{cells_are_folded, counts_are_folded, gauges_are_folded, folds_keep_rises, rises_are_folded}
use Rattle.downsample_fold.proofs.laws.measures_are_folded.Goals as goal

pub returns-clause-counts : goal.returns-clause-counts
returns-clause-counts c = counts_are_folded

pub returns-clause-gauges : goal.returns-clause-gauges
returns-clause-gauges c = gauges_are_folded

pub returns-clause-rises : goal.returns-clause-rises
returns-clause-rises c = rises_are_folded

pub returns-clause-cells : goal.returns-clause-cells
returns-clause-cells c = cells_are_folded

pub returns-clause-columns : goal.returns-clause-columns
returns-clause-columns c = folds_at_fields

pub returns-clause-series : goal.returns-clause-series
returns-clause-series c = folds_keep_rises
