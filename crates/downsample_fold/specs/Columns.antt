-- The cells of the rows of one place at one field, and what is folded of them. A column has the latest row's cell first.
use Rattle.std.specs.Prelude.{ℕ, ℤ, pos, ◌+ℤ◌, Bool, true, false, List, [], ◌∷◌, map, filter_map, slice_index_or}
use Rattle.std.specs.Int.{int_min, int_max}
use Rattle.row_cells.specs.declared.schemas.Role.{Role}
use Rattle.row_cells.specs.declared.schemas.Role.TheVariants.{Time, Dimension, Gauge as GaugeRole, Counter, Label}
use Rattle.row_cells.specs.declared.schemas.Field.{Field}
use Rattle.row_cells.specs.declared.rows.Cell.{Cell}
use Rattle.row_cells.specs.declared.rows.Row.{Row}
use Rattle.row_cells.specs.declared.rows.Cell.TheVariants.{Absent, Gauge, Rise as RiseCell}
use Rattle.fold_law.specs.declared.measures.Parts.{Parts}
use Rattle.fold_law.specs.declared.counters.Rise.{Rise}
use Rattle.fold_law.specs.Rises.{climb_of}
use Rattle.row_cells.specs.Merging.{parts_of, rise_of}

-- the least, the greatest and the sum of numbers, of which there is one at least
abbrev pub least_of : ℤ → List ℤ → ℤ
least_of v [] = v
least_of v (w ∷ ws) = int_min v (least_of w ws)

abbrev pub greatest_of : ℤ → List ℤ → ℤ
greatest_of v [] = v
greatest_of v (w ∷ ws) = int_max v (greatest_of w ws)

abbrev pub total_of : List ℤ → ℤ
total_of [] = pos 0
total_of (v ∷ vs) = v +ℤ total_of vs

-- a gauge over the parts of the rows that have it: least minimum, greatest maximum, sum of the sums, number of all values
abbrev pub gauge_over : List Parts → Cell
gauge_over [] = Absent
gauge_over (p ∷ ps) = Gauge (record {
  min = least_of p.min (map (λ q. q.min) ps);
  max = greatest_of p.max (map (λ q. q.max) ps);
  sum = total_of (map (λ q. q.sum) (p ∷ ps));
  count = total_of (map (λ q. q.count) (p ∷ ps));
})

-- the earliest of rises, of which p is the latest
abbrev pub earliest_rise : Rise → List Rise → Rise
earliest_rise p [] = p
earliest_rise p (q ∷ qs) = earliest_rise q qs

-- what a counter climbed from the last value of each rise to the first value of the next
abbrev pub climbs_between : List Rise → ℤ
climbs_between (p ∷ q ∷ qs) = climb_of q.last p.first +ℤ climbs_between (q ∷ qs)
climbs_between ps = pos 0

-- a counter over the rises of the rows that have it, the latest first: the first value of the earliest, the last value of the
-- latest, and all increases with what it climbed between neighbours
abbrev pub rise_over : List Rise → Cell
rise_over [] = Absent
rise_over (p ∷ ps) = RiseCell (record {
  first = (earliest_rise p ps).first;
  last = p.last;
  increase = total_of (map (λ q. q.increase) (p ∷ ps)) +ℤ climbs_between (p ∷ ps);
})

-- the cell of greatest time among those that are present
abbrev pub latest_present : List Cell → Cell
latest_present [] = Absent
latest_present (Absent ∷ cells) = latest_present cells
latest_present (cell ∷ cells) = cell

-- the cell of the earliest row
abbrev pub earliest_cell : List Cell → Cell
earliest_cell [] = Absent
earliest_cell (cell ∷ []) = cell
earliest_cell (cell ∷ next ∷ cells) = earliest_cell (next ∷ cells)

-- what is folded of a column, by the role of its field, in a schema that keeps the rises of counters or not. The rows of a
-- series have the same dimensions, and the time has no cell
abbrev pub fold_column : Bool → Role → List Cell → Cell
fold_column rises Time column = earliest_cell column
fold_column rises Dimension column = earliest_cell column
fold_column rises GaugeRole column = gauge_over (filter_map parts_of column)
fold_column true Counter column = rise_over (filter_map rise_of column)
fold_column false Counter column = latest_present column
fold_column rises Label column = latest_present column

-- the first of a row's cells, and the others
abbrev pub first_cell : List Cell → Cell
first_cell [] = Absent
first_cell (cell ∷ cells) = cell

abbrev pub other_cells : List Cell → List Cell
other_cells [] = []
other_cells (cell ∷ cells) = cells

-- the columns of rows folded, field by field
abbrev pub fold_columns : Bool → List Field → List (List Cell) → List Cell
fold_columns rises [] rows = []
fold_columns rises (field ∷ fields) rows = fold_column rises field.role (map first_cell rows) ∷ fold_columns rises fields (map other_cells rows)

-- the cell of a row at a place among the fields, and the column of rows there
abbrev pub cell_of : ℕ → Row → Cell
cell_of place row = slice_index_or row.cells place Absent

abbrev pub column_of : ℕ → List Row → List Cell
column_of place rows = map (cell_of place) rows
