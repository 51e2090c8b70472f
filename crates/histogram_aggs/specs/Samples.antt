-- Rows that are aggregated, and their values.
use Rattle.std.specs.Prelude.{ℕ, ℤ, List, [], ◌∷◌, map}
use Rattle.row_cells.specs.declared.scalars.Scalar.{Scalar}
use Rattle.row_cells.specs.declared.scalars.Scalar.TheVariants.{Whole}
use Rattle.row_cells.specs.declared.schemas.Role.{Role}
use Rattle.row_cells.specs.declared.schemas.Role.TheVariants.{Time}
use Rattle.row_cells.specs.declared.rows.Cell.{Cell}
use Rattle.row_cells.specs.declared.rows.Row.{Row}
use Rattle.row_cells.specs.RowLists.{documents}
use Rattle.downsample_fold.specs.Columns.{cell_of}
use Rattle.search_filter.specs.Values.{values_of}

-- a row, and the start of its index's window
pub record Sample : Type 0 where
  pub start : ℤ
  pub row : Row

abbrev pub rows_in : List Sample → List Row
rows_in xs = map (λ s. s.row) xs

-- the rows of an index as samples
abbrev pub at_window : ℤ → List Row → List Sample
at_window start rows = map (λ row. record { start = start; row = row }) rows

-- how many documents they stand for
abbrev pub documents_in : List Sample → ℕ
documents_in xs = documents (rows_in xs)

-- a row's values at a field: its time, or those of its cell
abbrev pub values_by : Role → ℤ → Cell → List Scalar
values_by Time time cell = Whole time ∷ []
values_by role time cell = values_of cell

abbrev pub values_at : Role → ℕ → Sample → List Scalar
values_at role place s = values_by role s.row.time (cell_of place s.row)
