-- How large the numbers inside a row are.
use Rattle.std.specs.Prelude.{ℕ, List, ◌∷◌, max}
use Rattle.fold_law.specs.Gauges.{reach_of_parts}
use Rattle.fold_law.specs.Rises.{reach_of_rise}
use Rattle.row_cells.specs.declared.schemas.Role.{Role}
use Rattle.row_cells.specs.declared.schemas.Role.TheVariants.{Gauge as GaugeRole, Counter}
use Rattle.row_cells.specs.declared.schemas.Field.{Field}
use Rattle.row_cells.specs.declared.schemas.Schema.{Schema}
use Rattle.row_cells.specs.declared.rows.Cell.{Cell}
use Rattle.row_cells.specs.declared.rows.Row.{Row}
use Rattle.row_cells.specs.Merging.{parts_of, rise_of}

-- the reach of a cell's parts or rise, by the role of its field
abbrev pub reach_of_cell : Role → Cell → ℕ
reach_of_cell GaugeRole cell = reach_of_parts (parts_of cell)
reach_of_cell Counter cell = reach_of_rise (rise_of cell)
reach_of_cell role cell = 0

-- the greatest reach of the cells
abbrev pub reach_of_cells : List Field → List Cell → ℕ
reach_of_cells (f ∷ fs) (c ∷ cs) = max (reach_of_cell f.role c) (reach_of_cells fs cs)
reach_of_cells fs cs = 0

abbrev pub reach_of_row : Schema → Row → ℕ
reach_of_row schema row = reach_of_cells schema.fields row.cells
