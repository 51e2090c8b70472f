-- The values of rows at fields, and their order.
use Rattle.std.specs.Prelude.{ℕ, ℤ, pos, List, [], ◌∷◌, Option, Some, None, true, false}
use Rattle.std.specs.List.{slice_get}
use Rattle.std.specs.Cmp.Lexicographic.{slice_cmp}
use Rattle.std.specs.Ordering.{on, then_cmp, nat_cmp, int_cmp}
use Rattle.std.specs.declared.cmp.Ordering.{Ordering}
use Rattle.row_cells.specs.declared.scalars.Scalar.{Scalar}
use Rattle.row_cells.specs.declared.scalars.Scalar.TheVariants.{Whole, Flag, Word}
use Rattle.row_cells.specs.declared.schemas.Role.{Role}
use Rattle.row_cells.specs.declared.schemas.Role.TheVariants.{Time, Dimension, Gauge as GaugeRole, Counter, Label}
use Rattle.row_cells.specs.declared.schemas.Field.{Field}
use Rattle.row_cells.specs.declared.rows.Cell.{Cell}
use Rattle.row_cells.specs.declared.rows.Cell.TheVariants.{Absent, One, Many, Gauge, Rise as RiseCell}
use Rattle.row_cells.specs.declared.rows.Row.{Row}

-- the values of a cell: a gauge stands for its greatest value, a rise for its last
abbrev pub values_of : Cell → List Scalar
values_of Absent = []
values_of (One v) = v ∷ []
values_of (Many vs) = vs
values_of (Gauge p) = Whole p.max ∷ []
values_of (RiseCell r) = Whole r.last ∷ []

abbrev pub values_in : Option Cell → List Scalar
values_in None = []
values_in (Some cell) = values_of cell

-- by the role of the field, the row's time, and the cell beside the field
abbrev pub values_by : Role → ℤ → Option Cell → List Scalar
values_by Time time cell = Whole time ∷ []
values_by Dimension time cell = values_in cell
values_by GaugeRole time cell = values_in cell
values_by Counter time cell = values_in cell
values_by Label time cell = values_in cell

abbrev pub values_under : Option Field → ℤ → Option Cell → List Scalar
values_under None time cell = []
values_under (Some f) time cell = values_by f.role time cell

-- the values of a row at the field of a place
abbrev pub values_at : List Field → ℕ → Row → List Scalar
values_at fields place row = values_under (slice_get fields place) row.time (slice_get row.cells place)

-- a value as a number, which a truth value is too
abbrev pub number_of : Scalar → ℤ
number_of (Whole v) = v
number_of (Flag false) = pos 0
number_of (Flag true) = pos 1
number_of (Word t) = pos 0

abbrev pub word_of : Scalar → List ℕ
word_of (Word t) = t
word_of (Whole v) = []
word_of (Flag b) = []

abbrev pub rank_of : Scalar → ℕ
rank_of (Whole v) = 0
rank_of (Flag b) = 1
rank_of (Word t) = 2

-- the order of the values of a type: numbers as they are, false before true, texts by bytes
abbrev pub value_cmp : Scalar → Scalar → Ordering
value_cmp = then_cmp (on rank_of nat_cmp) (then_cmp (on number_of int_cmp) (on word_of (slice_cmp nat_cmp)))
