-- The fold of rows of one series, cell by cell.
use Rattle.std.specs.Prelude.{ℤ, ◌+◌, ◌≤◌, ◌^◌, List, [], ◌∷◌, Bool, true, false, Option, Some, None, pos}
use Rattle.row_cells.specs.declared.scalars.Scalar.TheVariants.{Whole}
use Rattle.row_cells.specs.declared.schemas.Role.{Role}
use Rattle.row_cells.specs.declared.schemas.Role.TheVariants.{Time, Dimension, Gauge as GaugeRole, Counter, Label}
use Rattle.row_cells.specs.declared.schemas.Field.{Field}
use Rattle.row_cells.specs.declared.schemas.Schema.{Schema}
use Rattle.row_cells.specs.declared.rows.Cell.{Cell}
use Rattle.row_cells.specs.declared.rows.Cell.TheVariants.{Absent, One, Gauge, Rise as RiseCell}
use Rattle.row_cells.specs.declared.rows.Row.{Row}
use Rattle.fold_law.specs.declared.measures.Parts.{Parts}
use Rattle.fold_law.specs.declared.counters.Rise.{Rise}
use Rattle.fold_law.specs.Gauges.{join_present_parts, reach_of_parts}
use Rattle.fold_law.specs.Rises.{join_present_rises, rise_of_value, reach_of_rise}

-- the parts of one value v are v, v, v, 1
abbrev pub parts_of_value : ℤ → Parts
parts_of_value v = record { min = v; max = v; sum = v; count = pos 1 }

-- the parts of a gauge's cell, raw or folded
abbrev pub parts_of : Cell → Option Parts
parts_of (One (Whole v)) = Some (parts_of_value v)
parts_of (Gauge p) = Some p
parts_of cell = None

abbrev pub cell_of_parts : Option Parts → Cell
cell_of_parts None = Absent
cell_of_parts (Some p) = Gauge p

-- the rise of a counter's cell, raw or folded
abbrev pub rise_of : Cell → Option Rise
rise_of (One (Whole v)) = Some (rise_of_value v)
rise_of (RiseCell r) = Some r
rise_of cell = None

abbrev pub cell_of_rise : Option Rise → Cell
cell_of_rise None = Absent
cell_of_rise (Some r) = RiseCell r

-- the later cell, or the earlier one where the later is absent
abbrev pub last_cell : Cell → Cell → Cell
last_cell earlier Absent = earlier
last_cell earlier later = later

-- the fold of the cells of two rows, by the role of their field, in a schema that keeps the rises of counters or not
abbrev pub merge_cell : Bool → Role → Cell → Cell → Cell
merge_cell rises Time earlier later = earlier
merge_cell rises Dimension earlier later = earlier
merge_cell rises GaugeRole earlier later = cell_of_parts (join_present_parts (parts_of earlier) (parts_of later))
merge_cell true Counter earlier later = cell_of_rise (join_present_rises (rise_of earlier) (rise_of later))
merge_cell false Counter earlier later = last_cell earlier later
merge_cell rises Label earlier later = last_cell earlier later

-- the fold of one cell
abbrev pub fold_cell : Bool → Role → Cell → Cell
fold_cell rises GaugeRole cell = cell_of_parts (parts_of cell)
fold_cell true Counter cell = cell_of_rise (rise_of cell)
fold_cell rises role cell = cell

abbrev pub merge_cells : Bool → List Field → List Cell → List Cell → List Cell
merge_cells rises (f ∷ fs) (a ∷ earlier) (b ∷ later) = merge_cell rises f.role a b ∷ merge_cells rises fs earlier later
merge_cells rises fs earlier later = []

abbrev pub fold_cells : Bool → List Field → List Cell → List Cell
fold_cells rises (f ∷ fs) (c ∷ cs) = fold_cell rises f.role c ∷ fold_cells rises fs cs
fold_cells rises fs cs = []

-- the fold of two rows of one series, the second the later one: it keeps the key and the time of the earlier
abbrev pub merge_of_rows : Schema → Row → Row → Row
merge_of_rows schema earlier later = record {
  key = earlier.key;
  time = earlier.time;
  count = earlier.count + later.count;
  cells = merge_cells schema.rises schema.fields earlier.cells later.cells;
}

-- the fold of one row alone
abbrev pub fold_of_row : Schema → Row → Row
fold_of_row schema row = record row { cells = fold_cells schema.rises schema.fields row.cells }

-- the numbers inside two cells leave room for their sums
abbrev pub HaveRoom : Role → Cell → Cell → Type 0
HaveRoom GaugeRole a b = reach_of_parts (parts_of a) + reach_of_parts (parts_of b) ≤ 2 ^ 120
HaveRoom Counter a b = reach_of_rise (rise_of a) + reach_of_rise (rise_of b) ≤ 2 ^ 120
HaveRoom role a b = Unit {0}

-- two cells for each field, which leave room
abbrev pub AllHaveRoom : List Field → List Cell → List Cell → Type 0
AllHaveRoom [] [] [] = Unit {0}
AllHaveRoom (f ∷ fs) (a ∷ earlier) (b ∷ later) = HaveRoom f.role a b × AllHaveRoom fs earlier later
AllHaveRoom fs earlier later = ⊥
