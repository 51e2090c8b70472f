use Rattle.std.proofs.Common.{◌≡◌, ◌++◌, drop, map}
use Rattle.downsample_fold.specs.Columns.{fold_columns}
use Rattle.downsample_fold.specs.Room.{RowsHaveRoom}
use Rattle.downsample_fold.proofs.FieldSteps.{cells_from}
use Rattle.downsample_fold.proofs.runs.fold_fields.Given as goal

abbrev pub invariant-loop-place : goal.invariant-loop-place
invariant-loop-place l = record {
  so_far : l.cells.items ++ fold_columns l.rises (drop l.place l.fields) (cells_from l.place l.rows) ≡ fold_columns l.rises l.fields (map (λ row. row.cells) l.rows);
  room : RowsHaveRoom l.rises (drop l.place l.fields) (cells_from l.place l.rows);
}
