-- One field more in the fold of rows.
use Rattle.std.proofs.Common.{◌≡◌, ℕ, zero, suc, ◌+◌, ◌<◌, List, [], ◌∷◌, ◌++◌, length, get_or, drop, map, Bool, refl, sym, ap, subst, ◌∙◌, arith, add-one, append_assoc}
use Rattle.row_cells.specs.declared.schemas.Field.{Field}
use Rattle.row_cells.specs.declared.rows.Cell.{Cell}
use Rattle.row_cells.specs.declared.rows.Cell.TheVariants.{Absent}
use Rattle.row_cells.specs.declared.rows.Row.{Row}
use Rattle.row_cells.specs.Each.{Each}
use Rattle.row_cells.specs.EachLaws.{Each-weaker}
use Rattle.downsample_fold.specs.Columns.{column_of, first_cell, other_cells, fold_column, fold_columns}
use Rattle.downsample_fold.specs.Room.{ColumnHasRoom, RowsHaveRoom}
use Rattle.downsample_fold.proofs.ColumnSteps.{drop_read}

-- the cells of rows from a place on
abbrev pub cells_from : ℕ → List Row → List (List Cell)
cells_from i rows = map (λ row. drop i row.cells) rows

first_is : (i : ℕ) (cells : List Cell) → first_cell (drop i cells) ≡ get_or cells i Absent
first_is zero [] = refl
first_is zero (c ∷ cs) = refl
first_is (suc i) [] = refl
first_is (suc i) (c ∷ cs) = first_is i cs

others_are : (i : ℕ) (cells : List Cell) → other_cells (drop i cells) ≡ drop (suc i) cells
others_are zero [] = refl
others_are zero (c ∷ cs) = refl
others_are (suc i) [] = refl
others_are (suc i) (c ∷ cs) = others_are i cs

cells_eq : {X : Type 0} {x y : X} {xs ys : List X} → x ≡ y → xs ≡ ys → x ∷ xs ≡ y ∷ ys
cells_eq a b = cc

firsts_are : (i : ℕ) (rows : List Row) → map first_cell (cells_from i rows) ≡ column_of i rows
firsts_are i [] = refl
firsts_are i (row ∷ rows) = cells_eq (first_is i row.cells) (firsts_are i rows)

rests_are : (i : ℕ) (rows : List Row) → map other_cells (cells_from i rows) ≡ cells_from (suc i) rows
rests_are i [] = refl
rests_are i (row ∷ rows) = cells_eq (others_are i row.cells) (rests_are i rows)

room_split : (rises : Bool) (f : Field) (fs : List Field) (rows : List (List Cell)) → RowsHaveRoom rises (f ∷ fs) rows → ColumnHasRoom rises f.role (map first_cell rows) × RowsHaveRoom rises fs (map other_cells rows)
room_split rises f fs [] room = (tt, tt)
room_split rises f fs (xs ∷ []) room = (tt, tt)
room_split rises f fs ([] ∷ ys ∷ rest) room = absurd room.0
room_split rises f fs ((x ∷ xs) ∷ ys ∷ rest) room =
    let later = room_split rises f fs (ys ∷ rest) room.1 in
    ((room.0.0, later.0), (room.0.1, later.1))

module _ (rises : Bool) (fields : List Field) (rows : List Row) (i : ℕ) (field : Field) (within : i < length fields) (read : field ≡ get_or fields i field) where
  pub room_here : RowsHaveRoom rises (drop i fields) (cells_from i rows) → ColumnHasRoom rises field.role (column_of i rows) × RowsHaveRoom rises (drop (i + 1) fields) (cells_from (i + 1) rows)
  room_here room =
      let split = room_split rises field (drop (i + 1) fields) (cells_from i rows) (subst (λ fs. RowsHaveRoom rises fs (cells_from i rows)) (drop_read fields i field within read) room) in (
        subst (ColumnHasRoom rises field.role) (firsts_are i rows) split.0,
        subst (λ cs. RowsHaveRoom rises (drop (i + 1) fields) cs) (rests_are i rows ∙ ap (λ k. cells_from k rows) (sym (add-one i))) split.1,
      )

  pub folded_here : (done : List Cell) → done ++ fold_columns rises (drop i fields) (cells_from i rows) ≡ fold_columns rises fields (map (λ row. row.cells) rows)
      → (done ++ fold_column rises field.role (column_of i rows) ∷ []) ++ fold_columns rises (drop (i + 1) fields) (cells_from (i + 1) rows) ≡ fold_columns rises fields (map (λ row. row.cells) rows)
  folded_here done so_far =
      append_assoc done (fold_column rises field.role (column_of i rows) ∷ []) (fold_columns rises (drop (i + 1) fields) (cells_from (i + 1) rows))
      ∙ (sym (ap (λ cs. done ++ cs)
      (ap (λ fs. fold_columns rises fs (cells_from i rows)) (drop_read fields i field within read)
      ∙ cells_eq (ap (fold_column rises field.role) (firsts_are i rows)) (ap (fold_columns rises (drop (i + 1) fields)) (rests_are i rows ∙ ap (λ k. cells_from k rows) (sym (add-one i))))))
      ∙ so_far)

-- each row has a cell there
pub cells_at : (fields : List Field) (rows : List Row) (i : ℕ) → i < length fields → Each (λ row. length row.cells ≡ length fields) rows → Each (λ row. i < length row.cells) rows
cells_at fields rows i within cells = Each-weaker (λ row. length row.cells ≡ length fields) (λ row. i < length row.cells) (λ row same. omega (arith, within, same)) rows cells
