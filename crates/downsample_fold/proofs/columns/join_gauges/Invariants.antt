use Rattle.std.proofs.Common.{◌≡◌, drop, true}
use Rattle.row_cells.specs.declared.schemas.Role.TheVariants.{Gauge}
use Rattle.row_cells.specs.Merging.{cell_of_parts}
use Rattle.downsample_fold.specs.Columns.{column_of, fold_column}
use Rattle.downsample_fold.proofs.columns.join_gauges.Given as goal

abbrev pub invariant-loop-at : goal.invariant-loop-at
invariant-loop-at l = cell_of_parts l.gauge.0 ≡ fold_column true Gauge (column_of l.place (drop l.at l.rows))
