-- The row of a document without fault.
use Rattle.std.specs.Prelude.{◌≡◌, Bool, List, [], ◌∷◌, map, Option, Some, None, if◌then◌else◌}
use Rattle.fold_law.specs.declared.measures.Parts.{Parts}
use Rattle.row_cells.specs.declared.scalars.Scalar.{Scalar}
use Rattle.row_cells.specs.declared.schemas.FieldType.{FieldType}
use Rattle.row_cells.specs.declared.schemas.Role.{Role}
use Rattle.row_cells.specs.declared.schemas.Role.TheVariants.{Time, Dimension, Gauge as GaugeRole, Counter, Label}
use Rattle.row_cells.specs.declared.schemas.Schema.{Schema}
use Rattle.row_cells.specs.declared.rows.Cell.{Cell}
use Rattle.row_cells.specs.declared.rows.Cell.TheVariants.{Absent, One, Many, Gauge}
use Rattle.serde_json.specs.Data.{Data}
use Rattle.ts_mapping.specs.Readings.{aggregate_of, reading_of}
use Rattle.ts_mapping.specs.Roles.{is_aggregate}
use Rattle.synthetic_source.specs.Faults.{HasNoFault, leaves_in, time_of}
use Rattle.synthetic_source.specs.Values.{ordered}
use Rattle.synthetic_source.specs.declared.typing.Typed.{Typed}

abbrev pub with_reading : Option Scalar → List Scalar → List Scalar
with_reading None vs = vs
with_reading (Some v) vs = v ∷ vs

-- the readings of leaves
abbrev pub readings_of : FieldType → List Data → List Scalar
readings_of kind [] = []
readings_of kind (leaf ∷ leaves) = with_reading (reading_of kind leaf) (readings_of kind leaves)

abbrev pub one_cell : Option Scalar → Cell
one_cell None = Absent
one_cell (Some v) = One v

abbrev pub parts_cell : Option Parts → Cell
parts_cell None = Absent
parts_cell (Some p) = Gauge p

-- the cell of a field with one value
abbrev pub single_cell : FieldType → List Data → Cell
single_cell kind [] = Absent
single_cell kind (leaf ∷ leaves) = if is_aggregate kind then parts_cell (aggregate_of leaf) else one_cell (reading_of kind leaf)

-- the cell of a label
abbrev pub list_cell : FieldType → List Data → Cell
list_cell kind [] = Absent
list_cell kind (leaf ∷ leaves) = Many (ordered (readings_of kind (leaf ∷ leaves)))

-- the cell that leaves give; the time has none
abbrev pub cell_of : FieldType → Role → List Data → Cell
cell_of kind Time leaves = Absent
cell_of kind Dimension leaves = single_cell kind leaves
cell_of kind GaugeRole leaves = single_cell kind leaves
cell_of kind Counter leaves = single_cell kind leaves
cell_of kind Label leaves = list_cell kind leaves

-- a cell for each field
abbrev pub cells_of : Schema → Data → List Cell
cells_of schema d = map (λ f. cell_of f.kind f.role (leaves_in schema d f.path)) schema.fields

-- the document has no fault, and this is its row
pub record IsTyped (schema : Schema) (strict : Bool) (d : Data) (typed : Typed) : Type 0 where
  pub sound : HasNoFault schema strict d
  pub time : time_of d ≡ Some typed.time
  pub cells : typed.cells ≡ cells_of schema d
