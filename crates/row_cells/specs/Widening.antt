-- A row beside the fields of a wider schema.
use Rattle.std.specs.Prelude.{ℕ, Bool, true, false, List, [], ◌∷◌, if◌then◌else◌}
use Rattle.std.specs.Str.{bytes_eq}
use Rattle.row_cells.specs.declared.schemas.Field.{Field}
use Rattle.row_cells.specs.declared.schemas.Schema.{Schema}
use Rattle.row_cells.specs.declared.rows.Cell.{Cell}
use Rattle.row_cells.specs.declared.rows.Cell.TheVariants.{Absent}
use Rattle.row_cells.specs.declared.rows.Row.{Row}

-- the cell of the field with this path, absent where there is none
abbrev pub cell_at : List ℕ → List Field → List Cell → Cell
cell_at path (f ∷ fs) (c ∷ cs) = if bytes_eq path f.path then c else cell_at path fs cs
cell_at path fs cs = Absent

-- for each field of the wider schema its cell
abbrev pub widen_cells : List Field → List Cell → List Field → List Cell
widen_cells fs cs [] = []
widen_cells fs cs (t ∷ ts) = cell_at t.path fs cs ∷ widen_cells fs cs ts

abbrev pub widen_of_row : Row → Schema → Schema → Row
widen_of_row row narrow wide = record row { cells = widen_cells narrow.fields row.cells wide.fields }

-- the wider schema, of rows that were folded as the narrower one says
abbrev pub in_form_of : Schema → Schema → Schema
in_form_of narrow wide = record wide { folded = narrow.folded; rises = narrow.rises }

-- what is left of fields and cells after the first may have been taken
pub record Taken : Type 0 where
  pub cell : Cell
  pub fields : List Field
  pub cells : List Cell

abbrev pub take_if : Bool → Field → Cell → List Field → List Cell → Taken
take_if true f c fs cs = record { cell = c; fields = fs; cells = cs }
take_if false f c fs cs = record { cell = Absent; fields = f ∷ fs; cells = c ∷ cs }

-- the first cell, where the first field has this path
abbrev pub take_cell : List ℕ → List Field → List Cell → Taken
take_cell path (f ∷ fs) (c ∷ cs) = take_if (bytes_eq f.path path) f c fs cs
take_cell path fs cs = record { cell = Absent; fields = fs; cells = cs }

-- one walk over both lists of fields
abbrev pub walk_cells : List Field → List Cell → List Field → List Cell
walk_cells fs cs [] = []
walk_cells fs cs (t ∷ ts) = (take_cell t.path fs cs).cell ∷ walk_cells (take_cell t.path fs cs).fields (take_cell t.path fs cs).cells ts
