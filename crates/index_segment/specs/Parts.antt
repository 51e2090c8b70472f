-- The parts that bytes of a segment spell.
use Rattle.std.specs.Prelude.{◌≡◌, ℕ, ℤ, List, [], ◌∷◌}
use Rattle.std.specs.List.{flat_map}
use Rattle.row_cells.specs.declared.schemas.Schema.{Schema}
use Rattle.row_cells.specs.declared.rows.Row.{Row}
use Rattle.column_block.specs.declared.kinds.ColumnKind.{ColumnKind}
use Rattle.column_block.specs.declared.kinds.ColumnKind.TheVariants as kinds
use Rattle.column_block.specs.declared.kinds.Values.{Values}
use Rattle.column_block.specs.Rules.{IsColumnOf}
use Rattle.index_segment.specs.declared.forms.Form.{Form}
use Rattle.index_segment.specs.declared.forms.Form.TheVariants.{Bare, Whole, Parts, Rise, Numbers, Flags, Words}
use Rattle.index_segment.specs.Columns.{columns_of}
use Rattle.index_segment.specs.Directory.{keys_of, sizes_of}
use Rattle.index_segment.specs.Spelling.{counted, counts_of, times_of}

-- the kinds of a field's columns
abbrev pub form_kinds : Form → List ColumnKind
form_kinds Bare = []
form_kinds Whole = kinds.Whole ∷ []
form_kinds Parts = kinds.Parts ∷ []
form_kinds Rise = kinds.Whole ∷ kinds.Whole ∷ kinds.Whole ∷ kinds.Whole ∷ []
form_kinds Numbers = kinds.Wholes ∷ []
form_kinds Flags = kinds.Wholes ∷ []
form_kinds Words = kinds.Words ∷ []

abbrev pub kinds_of : List Form → List ColumnKind
kinds_of forms = flat_map form_kinds forms

-- a column of each kind, of so many rows
abbrev pub AreColumnsOf : List ColumnKind → ℕ → List Values → Type 0
AreColumnsOf [] rows [] = Unit {0}
AreColumnsOf (kind ∷ kinds) rows (column ∷ columns) = IsColumnOf kind rows column × AreColumnsOf kinds rows columns
AreColumnsOf kinds rows columns = ⊥

-- these are the parts that rows have
pub record HaveParts (schema : Schema) (rows : List Row) (keys : List (List ℕ)) (sizes times counts : List ℤ) (columns : List Values) : Type 0 where
  pub keys_are : keys ≡ keys_of rows
  pub sizes_are : sizes ≡ counted (sizes_of rows)
  pub times_are : times ≡ times_of rows
  pub counts_are : counts ≡ counts_of rows
  pub columns_are : columns ≡ columns_of schema rows
