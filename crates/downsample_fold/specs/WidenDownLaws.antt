-- Widening rows and folding them in either order is the same.
use Rattle.std.specs.Prelude.{◌≡◌, ℕ, suc, List, [], ◌∷◌, map, length, Bool, true, false, if◌then◌else◌}
use Rattle.std.specs.Ordering.{is_le}
use Rattle.std.proofs.Common.{refl, ap, ◌∙◌, sym}
use Rattle.row_cells.specs.declared.schemas.Field.{Field}
use Rattle.row_cells.specs.declared.schemas.Schema.{Schema}
use Rattle.row_cells.specs.declared.rows.Cell.{Cell}
use Rattle.row_cells.specs.declared.rows.Row.{Row}
use Rattle.row_cells.specs.Each.{Each}
use Rattle.row_cells.specs.Fitting.{FieldsAscend}
use Rattle.row_cells.specs.Joining.{AllIn}
use Rattle.row_cells.specs.Merging.{merge_of_rows}
use Rattle.row_cells.specs.Order.{row_cmp}
use Rattle.row_cells.specs.OrderLaws.{in_row_order-each}
use Rattle.row_cells.specs.RowLists.{insert_row, in_row_order}
use Rattle.row_cells.specs.Widening.{in_form_of, widen_cells, widen_of_row}
use Rattle.row_cells.specs.WidenFoldLaws.{widen-fold, widen-merge}
use Rattle.time_text.specs.Bucket.{bucket_start}
use Rattle.downsample_fold.specs.Conditions.{HaveCells}
use Rattle.downsample_fold.specs.FoldLaws.{down-joined}
use Rattle.downsample_fold.specs.Joined.{placed, put, joined, are_at_one}
use Rattle.downsample_fold.specs.Laws.{FoldsWiden}
use Rattle.downsample_fold.specs.Totals.{HasCells}
use Rattle.downsample_fold.specs.TotalLaws.{fold_cells-length, joined-cells}

widened_long : (fs : List Field) (cs : List Cell) (ts : List Field) → length (widen_cells fs cs ts) ≡ length ts
widened_long fs cs [] = refl
widened_long fs cs (t ∷ ts) = ap suc (widened_long fs cs ts)

module _ (narrow wide : Schema) (narrow_ascends : FieldsAscend narrow.fields) (wide_ascends : FieldsAscend wide.fields) (within : AllIn narrow.fields wide.fields) where
  abbrev widened : Row → Row
  widened row = widen_of_row row narrow wide

  abbrev wider : Schema
  wider = in_form_of narrow wide

  have_cells : (rows : List Row) → HaveCells wider (map widened rows)
  have_cells [] = tt
  have_cells (row ∷ rows) = (widened_long narrow.fields row.cells wide.fields, have_cells rows)

  insert_widened : (row : Row) (rows : List Row) → insert_row (widened row) (map widened rows) ≡ map widened (insert_row row rows)
  insert_widened row [] = refl
  insert_widened row (first ∷ rest) = by_test (is_le (row_cmp row first)) (insert_widened row rest)
    where
      by_test : (b : Bool) → insert_row (widened row) (map widened rest) ≡ map widened (insert_row row rest)
          → (if b then widened row ∷ widened first ∷ map widened rest else widened first ∷ insert_row (widened row) (map widened rest)) ≡ map widened (if b then row ∷ first ∷ rest else first ∷ insert_row row rest)
      by_test true later = refl
      by_test false later = ap (λ rows. widened first ∷ rows) later

  sorted_widened : (rows : List Row) → in_row_order (map widened rows) ≡ map widened (in_row_order rows)
  sorted_widened [] = refl
  sorted_widened (row ∷ rows) = ap (insert_row (widened row)) (sorted_widened rows) ∙ insert_widened row (in_row_order rows)

  placed_widened : (n : ℕ) (row : Row) → HasCells narrow row → placed wider n (widened row) ≡ widened (placed narrow n row)
  placed_widened n row cells = sym (widen-fold narrow wide (record row { time = bucket_start n row.time }) cells narrow_ascends wide_ascends within)

  put_widened : (row : Row) (rows : List Row) → HasCells narrow row → Each (HasCells narrow) rows → put wider (widened row) (map widened rows) ≡ map widened (put narrow row rows)
  put_widened row [] here cells = refl
  put_widened row (next ∷ rest) here cells = by_test (are_at_one row next)
    where
      by_test : (b : Bool) → (if b then merge_of_rows wider (widened next) (widened row) ∷ map widened rest else widened row ∷ widened next ∷ map widened rest) ≡ map widened (if b then merge_of_rows narrow next row ∷ rest else row ∷ next ∷ rest)
      by_test true = ap (λ r. r ∷ map widened rest) (sym (widen-merge narrow wide next row cells.0 here narrow_ascends wide_ascends within))
      by_test false = refl

  joined_widened : (n : ℕ) (rows : List Row) → Each (HasCells narrow) rows → joined wider n (map widened rows) ≡ map widened (joined narrow n rows)
  joined_widened n [] cells = refl
  joined_widened n (row ∷ rows) cells =
      ap (λ r. put wider r (joined wider n (map widened rows))) (placed_widened n row cells.0)
      ∙ (ap (put wider (widened (placed narrow n row))) (joined_widened n rows cells.1)
      ∙ put_widened (placed narrow n row) (joined narrow n rows) (fold_cells-length narrow.rises narrow.fields row.cells cells.0) (joined-cells narrow n rows cells.1))

pub folds_widen : FoldsWiden
folds_widen narrow wide rows n narrow_ascends wide_ascends within cells some =
    let wider = in_form_of narrow wide in
    let widened : Row → Row = λ row. widen_of_row row narrow wide in
    down-joined wider (map widened rows) n (have_cells narrow wide narrow_ascends wide_ascends within rows) some
    ∙ (ap (joined wider n) (sorted_widened narrow wide narrow_ascends wide_ascends within rows)
    ∙ (joined_widened narrow wide narrow_ascends wide_ascends within n (in_row_order rows) (in_row_order-each (HasCells narrow) rows cells)
    ∙ ap (map widened) (sym (down-joined narrow rows n cells some))))
