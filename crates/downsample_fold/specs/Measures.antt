-- Values that folds keep: how many documents, and a gauge or the rise of a counter at a field.
use Rattle.std.specs.Prelude.{◌≡◌, ◌<◌, ℕ, List, true}
use Rattle.row_cells.specs.declared.schemas.Role.{Role}
use Rattle.row_cells.specs.declared.schemas.Role.TheVariants.{Gauge as GaugeRole, Counter}
use Rattle.row_cells.specs.declared.schemas.Schema.{Schema}
use Rattle.row_cells.specs.declared.rows.Row.{Row}
use Rattle.row_cells.specs.declared.rows.Cell.{Cell}
use Rattle.row_cells.specs.Mapped.{IsRoleAt}
use Rattle.row_cells.specs.Merging.{fold_cell, merge_cell, parts_of, rise_of}
use Rattle.fold_law.specs.declared.measures.Count.{Count}
use Rattle.fold_law.specs.declared.measures.Gauge.{Gauge}
use Rattle.fold_law.specs.declared.counters.Rising.{Rising}
use Rattle.fold_law.specs.Gauges.{merge_gauges, merge_counts}
use Rattle.fold_law.specs.Rises.{no_rise, merge_risings}
use Rattle.row_cells.specs.RowLists.{in_row_order}
use Rattle.downsample_fold.specs.Conditions.{HaveCells}
use Rattle.downsample_fold.specs.Direct.{down, fold_at}
use Rattle.downsample_fold.specs.Places.{Place, rows_of}
use Rattle.downsample_fold.specs.Columns.{cell_of, column_of, fold_column}
use Rattle.downsample_fold.specs.Totals.{IsFolded, total_over}

-- how many documents a row stands for
abbrev pub count_in : Row → Count
count_in row = record { 0 = row.count }

-- the gauge of a row at a place among the fields
abbrev pub gauge_in : ℕ → Row → Gauge
gauge_in place row = record { 0 = parts_of (cell_of place row) }

-- the rise of its counter there
abbrev pub rising_in : ℕ → Row → Rising
rising_in place row = record { 0 = rise_of (cell_of place row) }

-- its cell there as a fold of it alone has it, in a field of this role
abbrev pub folded_cell_in : Schema → Role → ℕ → Row → Cell
folded_cell_in schema role place row = fold_cell schema.rises role (cell_of place row)

abbrev pub CountsAreFolded : Type 0
CountsAreFolded = (schema : Schema) → IsFolded schema merge_counts count_in

abbrev pub GaugesAreFolded : Type 0
GaugesAreFolded = (schema : Schema) (place : ℕ) → IsRoleAt GaugeRole schema.fields place → IsFolded schema merge_gauges (gauge_in place)

abbrev pub RisesAreFolded : Type 0
RisesAreFolded = (schema : Schema) (place : ℕ) → IsRoleAt Counter schema.fields place → schema.rises ≡ true → IsFolded schema merge_risings (rising_in place)

-- the cell of a field of any role: the dimension stays, gauges and rises join, of labels and of single counters the last is kept
abbrev pub CellsAreFolded : Type 0
CellsAreFolded = (schema : Schema) (role : Role) (place : ℕ) → IsRoleAt role schema.fields place → IsFolded schema (merge_cell schema.rises role) (folded_cell_in schema role place)

-- the cell of a place's fold, at a field of any role, is the fold of the column of its rows
abbrev pub FoldsAtFields : Type 0
FoldsAtFields = (schema : Schema) (at : Place) (rows : List Row) (role : Role) (place : ℕ) → IsRoleAt role schema.fields place →
    cell_of place (fold_at schema at rows) ≡ fold_column schema.rises role (column_of place rows)

-- the rise of the folds of a series, in order, is that of its rows
abbrev pub FoldsKeepRises : Type 0
FoldsKeepRises = (schema : Schema) (rows : List Row) (n place : ℕ) (key : List ℕ) → IsRoleAt Counter schema.fields place → schema.rises ≡ true → HaveCells schema rows → 0 < n →
    total_over no_rise merge_risings (rising_in place) (rows_of key (down schema rows n)) ≡ total_over no_rise merge_risings (rising_in place) (rows_of key (in_row_order rows))
