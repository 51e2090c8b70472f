-- The normal form of a row: the document that the row stands for.
use Rattle.std.specs.Prelude.{ℕ, ℤ, List, [], ◌∷◌, ◌++◌, map, codes, Bool, true, false}
use Rattle.fold_law.specs.declared.measures.Parts.{Parts}
use Rattle.row_cells.specs.declared.scalars.Scalar.{Scalar}
use Rattle.row_cells.specs.declared.scalars.Scalar.TheVariants.{Whole, Flag, Word}
use Rattle.row_cells.specs.declared.schemas.FieldType.{FieldType}
use Rattle.row_cells.specs.declared.schemas.FieldType.TheVariants.{Date, Keyword, Long, Integer, Short, Byte, Boolean, Aggregate}
use Rattle.row_cells.specs.declared.schemas.Role.{Role}
use Rattle.row_cells.specs.declared.schemas.Role.TheVariants.{Time, Dimension, Gauge as GaugeRole, Counter, Label}
use Rattle.row_cells.specs.declared.schemas.Field.{Field}
use Rattle.row_cells.specs.declared.schemas.Schema.{Schema}
use Rattle.row_cells.specs.declared.rows.Cell.{Cell}
use Rattle.row_cells.specs.declared.rows.Cell.TheVariants.{Absent, One, Many, Gauge, Rise}
use Rattle.row_cells.specs.declared.rows.Row.{Row}
use Rattle.serde_json.specs.Data.{Data, null, boolean, number, string, array, object, unsigned, no_members, member}
use Rattle.serde_json.specs.Find.{of_integer}
use Rattle.serde_json.specs.View.{items_of}
use Rattle.time_text.specs.Printed.{instant_text}
use Rattle.synthetic_source.specs.Levels.{Shown, levels}

-- a whole number, or at a date the text of the instant
abbrev pub whole_data : FieldType → ℤ → Data
whole_data Date v = string (instant_text v)
whole_data Keyword v = number (of_integer v)
whole_data Long v = number (of_integer v)
whole_data Integer v = number (of_integer v)
whole_data Short v = number (of_integer v)
whole_data Byte v = number (of_integer v)
whole_data Boolean v = number (of_integer v)
whole_data Aggregate v = number (of_integer v)

abbrev pub scalar_data : FieldType → Scalar → Data
scalar_data kind (Whole v) = whole_data kind v
scalar_data kind (Flag b) = boolean b
scalar_data kind (Word t) = string t

-- one value stands bare, more stand as a list
abbrev pub list_data : FieldType → List Scalar → Data
list_data kind [] = null
list_data kind (v ∷ []) = scalar_data kind v
list_data kind (v ∷ w ∷ vs) = array (items_of (map (scalar_data kind) (v ∷ w ∷ vs)))

-- the four parts of an aggregate or of a folded gauge
abbrev pub parts_data : Parts → Data
parts_data p = object (
    member (codes "max") (number (of_integer p.max)) (
    member (codes "min") (number (of_integer p.min)) (
    member (codes "sum") (number (of_integer p.sum)) (
    member (codes "value_count") (number (of_integer p.count)) no_members))))

-- what a cell shows; a rise stands for its last value
abbrev pub cell_data : FieldType → Cell → Data
cell_data kind Absent = null
cell_data kind (One v) = scalar_data kind v
cell_data kind (Many vs) = list_data kind vs
cell_data kind (Gauge p) = parts_data p
cell_data kind (Rise r) = whole_data kind r.last

abbrev pub shown_cell : List ℕ → FieldType → Cell → List Shown → List Shown
shown_cell path kind Absent es = es
shown_cell path kind (One v) es = record { path = path; value = cell_data kind (One v) } ∷ es
shown_cell path kind (Many vs) es = record { path = path; value = cell_data kind (Many vs) } ∷ es
shown_cell path kind (Gauge p) es = record { path = path; value = cell_data kind (Gauge p) } ∷ es
shown_cell path kind (Rise r) es = record { path = path; value = cell_data kind (Rise r) } ∷ es

-- the time stands for the cell of `@timestamp`
abbrev pub shown_as : Role → ℤ → Field → Cell → List Shown → List Shown
shown_as Time time f cell es = record { path = f.path; value = string (instant_text time) } ∷ es
shown_as Dimension time f cell es = shown_cell f.path f.kind cell es
shown_as GaugeRole time f cell es = shown_cell f.path f.kind cell es
shown_as Counter time f cell es = shown_cell f.path f.kind cell es
shown_as Label time f cell es = shown_cell f.path f.kind cell es

abbrev pub shown_field : ℤ → Field → Cell → List Shown → List Shown
shown_field time f cell es = shown_as f.role time f cell es

-- the fields that have a value, in the order of the fields
abbrev pub shown_of : ℤ → List Field → List Cell → List Shown
shown_of time (f ∷ fs) (c ∷ cs) = shown_field time f c (shown_of time fs cs)
shown_of time fs cs = []

-- a row of a folded index shows how many documents it stands for
abbrev pub count_shown : Bool → ℕ → List Shown
count_shown true count = record { path = codes "_doc_count"; value = number (unsigned count) } ∷ []
count_shown false count = []

-- what a row shows
abbrev pub shown_row : Schema → Row → List Shown
shown_row schema row = shown_of row.time schema.fields row.cells ++ count_shown schema.folded row.count

-- the document that a row stands for
unfoldable pub norm : Schema → Row → Data
norm schema row = object (levels (shown_row schema row))
