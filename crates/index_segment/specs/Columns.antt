-- The columns of rows, and the cells of a row from columns.
use Rattle.std.specs.Prelude.{ℕ, ℤ, ◌+◌, ◌^◌, ◌<◌, List, [], ◌∷◌, ◌++◌, map, Option, Some, None}
use Rattle.std.specs.List.{slice_get}
use Rattle.fold_law.specs.declared.measures.Parts.{Parts}
use Rattle.row_cells.specs.declared.schemas.Schema.{Schema}
use Rattle.row_cells.specs.declared.rows.Cell.{Cell}
use Rattle.row_cells.specs.declared.rows.Cell.TheVariants.{Absent}
use Rattle.row_cells.specs.declared.rows.Row.{Row}
use Rattle.row_cells.specs.Merging.{cell_of_parts, cell_of_rise}
use Rattle.column_block.specs.declared.kinds.Values.{Values}
use Rattle.column_block.specs.declared.kinds.Values.TheVariants.{Whole as Wholes64, Parts as PartsOf, Wholes, Words as Texts}
use Rattle.column_block.specs.Rules.{KeepsRules, rows_of}
use Rattle.index_segment.specs.declared.forms.Form.{Form}
use Rattle.index_segment.specs.declared.forms.Form.TheVariants.{Bare, Whole, Parts as PartsForm, Rise, Numbers, Flags, Words}
use Rattle.index_segment.specs.Forms.{forms_of, width_of}
use Rattle.index_segment.specs.Cells.{whole_in, parts_in, first_in, last_in, high_in, low_in, numbers_in, texts_in, cell_of_whole, rise_from, cell_of_numbers, cell_of_flags, cell_of_texts}

-- ---- the columns of rows

-- the columns of a field with these cells
abbrev pub columns_of_cells : Form → List Cell → List Values
columns_of_cells Bare cells = []
columns_of_cells Whole cells = Wholes64 (map whole_in cells) ∷ []
columns_of_cells PartsForm cells = PartsOf (map parts_in cells) ∷ []
columns_of_cells Rise cells = Wholes64 (map first_in cells) ∷ Wholes64 (map last_in cells) ∷ Wholes64 (map high_in cells) ∷ Wholes64 (map low_in cells) ∷ []
columns_of_cells Numbers cells = Wholes (map numbers_in cells) ∷ []
columns_of_cells Flags cells = Wholes (map numbers_in cells) ∷ []
columns_of_cells Words cells = Texts (map texts_in cells) ∷ []

abbrev pub cell_or_absent : Option Cell → Cell
cell_or_absent None = Absent
cell_or_absent (Some cell) = cell

-- what a row has at the place of a field
abbrev pub cell_at : ℕ → Row → Cell
cell_at place row = cell_or_absent (slice_get row.cells place)

-- the columns of the fields from a place on
abbrev pub columns_from : ℕ → List Form → List Row → List Values
columns_from place [] rows = []
columns_from place (form ∷ forms) rows = columns_of_cells form (map (cell_at place) rows) ++ columns_from (place + 1) forms rows

-- the columns of rows, in the order of the fields
unfoldable pub columns_of : Schema → List Row → List Values
columns_of schema rows = columns_from 0 (forms_of schema) rows

abbrev pub form_or_bare : Option Form → Form
form_or_bare None = Bare
form_or_bare (Some form) = form

-- the columns of the field at a place
abbrev pub columns_at : Schema → List Row → ℕ → List Values
columns_at schema rows field = columns_of_cells (form_or_bare (slice_get (forms_of schema) field)) (map (cell_at field) rows)

-- values that columns may have
abbrev pub ArePackable : List Values → Type 0
ArePackable [] = Unit {0}
ArePackable (column ∷ columns) = KeepsRules column × (rows_of column < 2 ^ 32) × ArePackable columns

-- ---- the cells of a row

abbrev pub present_at : {A : Type 0} → Option (Option A) → Option A
present_at None = None
present_at (Some x) = x

abbrev pub list_at : {A : Type 0} → Option (List A) → List A
list_at None = []
list_at (Some xs) = xs

-- what a column of a kind has at a row; nothing where there is no such column or row
abbrev pub whole_at : Option Values → ℕ → Option ℤ
whole_at (Some (Wholes64 vs)) k = present_at (slice_get vs k)
whole_at other k = None

abbrev pub parts_at : Option Values → ℕ → Option Parts
parts_at (Some (PartsOf ps)) k = present_at (slice_get ps k)
parts_at other k = None

abbrev pub numbers_at : Option Values → ℕ → List ℤ
numbers_at (Some (Wholes lists)) k = list_at (slice_get lists k)
numbers_at other k = []

abbrev pub texts_at : Option Values → ℕ → List (List ℕ)
texts_at (Some (Texts lists)) k = list_at (slice_get lists k)
texts_at other k = []

-- the cell of row k in a field whose columns begin at a place. A field without columns has the cell that the key gives
abbrev pub cell_from : Form → Cell → List Values → ℕ → ℕ → Cell
cell_from Bare head columns at k = head
cell_from Whole head columns at k = cell_of_whole (whole_at (slice_get columns at) k)
cell_from PartsForm head columns at k = cell_of_parts (parts_at (slice_get columns at) k)
cell_from Rise head columns at k = cell_of_rise (rise_from (whole_at (slice_get columns at) k) (whole_at (slice_get columns (at + 1)) k) (whole_at (slice_get columns (at + 2)) k) (whole_at (slice_get columns (at + 3)) k))
cell_from Numbers head columns at k = cell_of_numbers (numbers_at (slice_get columns at) k)
cell_from Flags head columns at k = cell_of_flags (numbers_at (slice_get columns at) k)
cell_from Words head columns at k = cell_of_texts (texts_at (slice_get columns at) k)

-- the cells of row k in fields whose columns begin at a place
abbrev pub cells_from : List Form → List Cell → List Values → ℕ → ℕ → List Cell
cells_from (form ∷ forms) (head ∷ heads) columns at k = cell_from form head columns at k ∷ cells_from forms heads columns (at + width_of form) k
cells_from forms heads columns at k = []
