-- What is summed up over rows is the same over their fold.
use Rattle.std.specs.Prelude.{◌≡◌, ℕ, ℤ, ◌<◌, ◌≤◌, List, [], ◌∷◌, length, filter, Bool}
use Rattle.time_text.specs.Bucket.{bucket_start}
use Rattle.row_cells.specs.declared.schemas.Schema.{Schema}
use Rattle.row_cells.specs.declared.rows.Row.{Row}
use Rattle.row_cells.specs.declared.rows.Cell.{Cell}
use Rattle.row_cells.specs.Each.{Each}
use Rattle.row_cells.specs.KeyedRows.{IsRowOf}
use Rattle.row_cells.specs.Limits.{most_documents}
use Rattle.row_cells.specs.Mapped.{IsDimensionAt, IsMapped}
use Rattle.row_cells.specs.Merging.{merge_of_rows, fold_of_row}
use Rattle.row_cells.specs.RowLists.{documents, in_row_order}
use Rattle.downsample_fold.specs.Columns.{cell_of}
use Rattle.downsample_fold.specs.Conditions.{HaveCells}
use Rattle.downsample_fold.specs.Direct.{down}
use Rattle.downsample_fold.specs.Places.{Place, own_place, place_of}

-- a sum over rows in row order, the later one of two joined last
abbrev pub total_over : {F : Type 0} → F → (F → F → F) → (Row → F) → List Row → F
total_over none merge value [] = none
total_over none merge value (row ∷ rows) = merge (total_over none merge value rows) (value row)

-- a row has a cell for each field
abbrev pub HasCells : Schema → Row → Type 0
HasCells schema row = length row.cells ≡ length schema.fields

-- the value of two rows of one series joined is the merge of theirs, and that of a row is the same folded alone, at whatever time
pub record IsFolded {F : Type 0} (schema : Schema) (merge : F → F → F) (value : Row → F) : Type 0 where
  pub of_joined : (a b : Row) → HasCells schema a → HasCells schema b → a.key ≡ b.key → value (merge_of_rows schema a b) ≡ merge (value a) (value b)
  pub of_one : (a : Row) (time : ℤ) → HasCells schema a → value (fold_of_row schema (record a { time = time })) ≡ value a

-- the rows that a test of series and times takes
abbrev pub chosen_rows : (List ℕ → ℤ → Bool) → List Row → List Row
chosen_rows chosen rows = filter (λ row. chosen row.key row.time) rows

-- the same, of rows by the starts of their buckets
abbrev pub chosen_by_start : ℕ → (List ℕ → ℤ → Bool) → List Row → List Row
chosen_by_start n chosen rows = filter (λ row. chosen row.key (bucket_start n row.time)) rows

-- the total of the chosen rows of a fold is that of the chosen rows
abbrev pub FoldsKeepTotals : {F : Type 0} → F → (F → F → F) → Type 0
FoldsKeepTotals {F} none merge = (schema : Schema) (rows : List Row) (n : ℕ) (value : Row → F) (chosen : List ℕ → ℤ → Bool) → HaveCells schema rows → 0 < n → IsFolded schema merge value →
    total_over none merge value (chosen_rows chosen (down schema rows n)) ≡ total_over none merge value (chosen_by_start n chosen (in_row_order rows))

-- a test that is one over the rows of each place and their fold, as that of places says
pub record IsOfPlaces (schema : Schema) (n : ℕ) (chosen : Place → Bool) (test : Row → Bool) (rows : List Row) : Type 0 where
  pub of_rows : Each (λ row. test row ≡ chosen (place_of n row)) rows
  pub of_folds : Each (λ row. test row ≡ chosen (own_place row)) (down schema rows n)

-- the total of the rows of a fold that pass such a test is that of the rows that pass it
abbrev pub FoldsKeepTested : {F : Type 0} → F → (F → F → F) → Type 0
FoldsKeepTested {F} none merge = (schema : Schema) (rows : List Row) (n : ℕ) (value : Row → F) (chosen : Place → Bool) (test : Row → Bool) → HaveCells schema rows → 0 < n → IsFolded schema merge value →
    IsOfPlaces schema n chosen test rows → total_over none merge value (filter test (down schema rows n)) ≡ total_over none merge value (filter test (in_row_order rows))

-- what a key tells is kept where a value joined with itself stays, as a least or a greatest
abbrev pub KeysAreFolded : {F : Type 0} → (F → F → F) → Type 0
KeysAreFolded {F} merge = (schema : Schema) (told : List ℕ → F) → ((x : F) → merge x x ≡ x) → IsFolded schema merge (λ row. told row.key)

-- so is what the cell of a dimension tells, as its least or its greatest, over rows of an index
abbrev pub FoldsKeepDimension : {F : Type 0} → F → (F → F → F) → Type 0
FoldsKeepDimension {F} none merge = (schema : Schema) (rows : List Row) (n place : ℕ) (told : Cell → F) (chosen : Place → Bool) (test : Row → Bool) →
    IsMapped schema → 0 < n → Each (IsRowOf schema) rows → documents rows ≤ most_documents → IsDimensionAt schema.fields place → ((x : F) → merge x x ≡ x) → IsOfPlaces schema n chosen test rows →
    total_over none merge (λ row. told (cell_of place row)) (filter test (down schema rows n)) ≡ total_over none merge (λ row. told (cell_of place row)) (filter test (in_row_order rows))
