-- The numbers inside the rows of a place leave room for their sums.
use Rattle.std.specs.Prelude.{List, [], ◌∷◌, Bool}
use Rattle.row_cells.specs.declared.schemas.Role.{Role}
use Rattle.row_cells.specs.declared.schemas.Field.{Field}
use Rattle.row_cells.specs.declared.rows.Cell.{Cell}
use Rattle.row_cells.specs.Merging.{HaveRoom, AllHaveRoom}
use Rattle.downsample_fold.specs.Columns.{fold_column, fold_columns}

-- each cell of a column and the fold of the earlier ones leave room
abbrev pub ColumnHasRoom : Bool → Role → List Cell → Type 0
ColumnHasRoom rises role [] = Unit {0}
ColumnHasRoom rises role (cell ∷ []) = Unit {0}
ColumnHasRoom rises role (cell ∷ next ∷ cells) = HaveRoom role (fold_column rises role (next ∷ cells)) cell × ColumnHasRoom rises role (next ∷ cells)

-- each row's cells and the folds of the earlier rows leave room
abbrev pub RowsHaveRoom : Bool → List Field → List (List Cell) → Type 0
RowsHaveRoom rises fields [] = Unit {0}
RowsHaveRoom rises fields (cells ∷ []) = Unit {0}
RowsHaveRoom rises fields (cells ∷ next ∷ rest) = AllHaveRoom fields (fold_columns rises fields (next ∷ rest)) cells × RowsHaveRoom rises fields (next ∷ rest)
