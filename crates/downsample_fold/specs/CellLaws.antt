-- The cells of merges and folds at a place among the fields, by the role there.
use Rattle.std.specs.Prelude.{◌≡◌, ℕ, zero, suc, List, [], ◌∷◌, length, map, slice_index_or, Bool}
use Rattle.std.proofs.Common.{refl, ap, ◌∙◌, arith}
use Rattle.row_cells.specs.declared.schemas.Role.{Role}
use Rattle.row_cells.specs.declared.schemas.Field.{Field}
use Rattle.row_cells.specs.declared.rows.Cell.{Cell}
use Rattle.row_cells.specs.declared.rows.Cell.TheVariants.{Absent}
use Rattle.row_cells.specs.declared.rows.Row.{Row}
use Rattle.row_cells.specs.Mapped.{IsRoleAt}
use Rattle.row_cells.specs.Merging.{merge_cell, fold_cell, merge_cells, fold_cells}
use Rattle.downsample_fold.specs.Columns.{column_of, first_cell, other_cells, fold_column, fold_columns}
use Rattle.downsample_fold.specs.Measures.{FoldsAtFields}

pub cell_of_merge : (rises : Bool) (role : Role) (fs : List Field) (xs ys : List Cell) (place : ℕ) → length xs ≡ length fs → length ys ≡ length fs → IsRoleAt role fs place →
    slice_index_or (merge_cells rises fs xs ys) place Absent ≡ merge_cell rises role (slice_index_or xs place Absent) (slice_index_or ys place Absent)
cell_of_merge rises role [] xs ys place same_x same_y at = absurd at
cell_of_merge rises role (f ∷ fs) [] ys place same_x same_y at = absurd (omega (arith, same_x))
cell_of_merge rises role (f ∷ fs) (x ∷ xs) [] place same_x same_y at = absurd (omega (arith, same_y))
cell_of_merge rises role (f ∷ fs) (x ∷ xs) (y ∷ ys) zero same_x same_y at = ap (λ r. merge_cell rises r x y) at
cell_of_merge rises role (f ∷ fs) (x ∷ xs) (y ∷ ys) (suc place) same_x same_y at = cell_of_merge rises role fs xs ys place (omega (arith, same_x)) (omega (arith, same_y)) at

pub cell_of_fold : (rises : Bool) (role : Role) (fs : List Field) (xs : List Cell) (place : ℕ) → length xs ≡ length fs → IsRoleAt role fs place →
    slice_index_or (fold_cells rises fs xs) place Absent ≡ fold_cell rises role (slice_index_or xs place Absent)
cell_of_fold rises role [] xs place same at = absurd at
cell_of_fold rises role (f ∷ fs) [] place same at = absurd (omega (arith, same))
cell_of_fold rises role (f ∷ fs) (x ∷ xs) zero same at = ap (λ r. fold_cell rises r x) at
cell_of_fold rises role (f ∷ fs) (x ∷ xs) (suc place) same at = cell_of_fold rises role fs xs place (omega (arith, same)) at

-- ---- the cell of the fold of columns

-- the cells of one place, of rows of cells
abbrev cells_at : ℕ → List (List Cell) → List Cell
cells_at place rows = map (λ cells. slice_index_or cells place Absent) rows

cons_eq : {x y : Cell} {xs ys : List Cell} → x ≡ y → xs ≡ ys → x ∷ xs ≡ y ∷ ys
cons_eq p q = cc

first_there : (cells : List Cell) → first_cell cells ≡ slice_index_or cells 0 Absent
first_there [] = refl
first_there (c ∷ cells) = refl

later_there : (cells : List Cell) (place : ℕ) → slice_index_or (other_cells cells) place Absent ≡ slice_index_or cells (suc place) Absent
later_there [] place = refl
later_there (c ∷ cells) place = refl

firsts : (rows : List (List Cell)) → map first_cell rows ≡ cells_at 0 rows
firsts [] = refl
firsts (cells ∷ rows) = cons_eq (first_there cells) (firsts rows)

laters : (rows : List (List Cell)) (place : ℕ) → cells_at place (map other_cells rows) ≡ cells_at (suc place) rows
laters [] place = refl
laters (cells ∷ rows) place = cons_eq (later_there cells place) (laters rows place)

cell_of_columns : (rises : Bool) (role : Role) (fs : List Field) (rows : List (List Cell)) (place : ℕ) → IsRoleAt role fs place →
    slice_index_or (fold_columns rises fs rows) place Absent ≡ fold_column rises role (cells_at place rows)
cell_of_columns rises role [] rows place at = absurd at
cell_of_columns rises role (f ∷ fs) rows zero at = ap (λ r. fold_column rises r (map first_cell rows)) at ∙ ap (fold_column rises role) (firsts rows)
cell_of_columns rises role (f ∷ fs) rows (suc place) at =
    cell_of_columns rises role fs (map other_cells rows) place at ∙ ap (fold_column rises role) (laters rows place)

column_is : (place : ℕ) (rows : List Row) → cells_at place (map (λ row. row.cells) rows) ≡ column_of place rows
column_is place [] = refl
column_is place (row ∷ rows) = cons_eq refl (column_is place rows)

pub folds_at_fields : FoldsAtFields
folds_at_fields schema at rows role place is =
    cell_of_columns schema.rises role schema.fields (map (λ row. row.cells) rows) place is ∙ ap (fold_column schema.rises role) (column_is place rows)
