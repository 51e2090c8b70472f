use Rattle.std.proofs.Common.{◌≡◌, drop}
use Rattle.downsample_fold.specs.Columns.{column_of, latest_present}
use Rattle.downsample_fold.proofs.columns.copy_latest.Given as goal

abbrev pub invariant-loop-row : goal.invariant-loop-row
invariant-loop-row l = latest_present (column_of l.place (drop l.row-index l.rows)) ≡ latest_present (column_of l.place l.rows)
