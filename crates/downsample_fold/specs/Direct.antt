-- The direct fold: each series and bucket once, in row order, made of the rows of that series and bucket alone.
use Rattle.std.specs.Prelude.{ℕ, List, map}
use Rattle.row_cells.specs.declared.schemas.Schema.{Schema}
use Rattle.row_cells.specs.declared.rows.Row.{Row}
use Rattle.row_cells.specs.RowLists.{in_row_order, documents}
use Rattle.downsample_fold.specs.Places.{Place, places, rows_at}
use Rattle.downsample_fold.specs.Columns.{fold_columns}

-- the row of a place, of the rows that it has, the latest first
abbrev pub fold_at : Schema → Place → List Row → Row
fold_at schema place rows = record {
  key = place.key;
  time = place.start;
  count = documents rows;
  cells = fold_columns schema.rises schema.fields (map (λ row. row.cells) rows);
}

-- the direct fold of rows that stand in row order
abbrev pub fold_in_order : Schema → List Row → ℕ → List Row
fold_in_order schema rows n = map (λ place. fold_at schema place (rows_at n place rows)) (places n rows)

-- the direct fold of rows by buckets of n milliseconds
unfoldable pub down : Schema → List Row → ℕ → List Row
down schema rows n = fold_in_order schema (in_row_order rows) n
