use Rattle.std.proofs.Common.{◌≡◌, drop, true}
use Rattle.row_cells.specs.declared.schemas.Role.TheVariants.{Counter}
use Rattle.row_cells.specs.Merging.{cell_of_rise}
use Rattle.downsample_fold.specs.Columns.{column_of, fold_column}
use Rattle.downsample_fold.proofs.columns.join_rises.Given as goal

abbrev pub invariant-loop-at : goal.invariant-loop-at
invariant-loop-at l = cell_of_rise l.rising.0 ≡ fold_column true Counter (column_of l.place (drop l.at l.rows))
