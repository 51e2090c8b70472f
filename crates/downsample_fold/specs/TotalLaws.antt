-- Totals over the rows of a fold are those over its rows.
use Rattle.std.specs.Prelude.{◌≡◌, ℕ, suc, ℤ, List, [], ◌∷◌, length, cond, Bool, true, false, if◌then◌else◌}
use Rattle.std.proofs.Common.{refl, ap, ◌∙◌, sym, arith}
use Rattle.fold_law.specs.Laws.{FoldLaws}
use Rattle.time_text.specs.Bucket.{bucket_start}
use Rattle.row_cells.specs.declared.schemas.Field.{Field}
use Rattle.row_cells.specs.declared.schemas.Schema.{Schema}
use Rattle.row_cells.specs.declared.rows.Cell.{Cell}
use Rattle.row_cells.specs.declared.rows.Row.{Row}
use Rattle.row_cells.specs.Each.{Each}
use Rattle.row_cells.specs.Merging.{merge_cells, fold_cells, merge_of_rows}
use Rattle.row_cells.specs.RowLists.{in_row_order}
use Rattle.downsample_fold.specs.FoldLaws.{down-joined}
use Rattle.downsample_fold.specs.Joined.{placed, put, joined, are_at_one}
use Rattle.downsample_fold.specs.JoinedLaws.{at_one_parts}
use Rattle.row_cells.specs.OrderLaws.{in_row_order-each}
use Rattle.downsample_fold.specs.Totals.{total_over, HasCells, IsFolded, chosen_rows, chosen_by_start, FoldsKeepTotals}

-- ---- folds have cells for all fields

pub fold_cells-length : (rises : Bool) (fs : List Field) (xs : List Cell) → length xs ≡ length fs → length (fold_cells rises fs xs) ≡ length fs
fold_cells-length rises [] xs same = refl
fold_cells-length rises (f ∷ fs) [] same = absurd (omega (arith, same))
fold_cells-length rises (f ∷ fs) (x ∷ xs) same = ap suc (fold_cells-length rises fs xs (omega (arith, same)))

pub merge_cells-length : (rises : Bool) (fs : List Field) (xs ys : List Cell) → length xs ≡ length fs → length ys ≡ length fs → length (merge_cells rises fs xs ys) ≡ length fs
merge_cells-length rises [] xs ys same_x same_y = refl
merge_cells-length rises (f ∷ fs) [] ys same_x same_y = absurd (omega (arith, same_x))
merge_cells-length rises (f ∷ fs) (x ∷ xs) [] same_x same_y = absurd (omega (arith, same_y))
merge_cells-length rises (f ∷ fs) (x ∷ xs) (y ∷ ys) same_x same_y = ap suc (merge_cells-length rises fs xs ys (omega (arith, same_x)) (omega (arith, same_y)))

put-cells : (schema : Schema) (row : Row) (rows : List Row) → HasCells schema row → Each (HasCells schema) rows → Each (HasCells schema) (put schema row rows)
put-cells schema row [] here cells = (here, tt)
put-cells schema row (next ∷ rest) here cells = by_test (are_at_one row next)
  where
    by_test : (at : Bool) → Each (HasCells schema) (if at then merge_of_rows schema next row ∷ rest else row ∷ next ∷ rest)
    by_test true = (merge_cells-length schema.rises schema.fields next.cells row.cells cells.0 here, cells.1)
    by_test false = (here, cells)

pub joined-cells : (schema : Schema) (n : ℕ) (rows : List Row) → Each (HasCells schema) rows → Each (HasCells schema) (joined schema n rows)
joined-cells schema n [] cells = tt
joined-cells schema n (row ∷ rows) cells =
    put-cells schema (placed schema n row) (joined schema n rows) (fold_cells-length schema.rises schema.fields row.cells cells.0) (joined-cells schema n rows cells.1)

-- ---- totals

module _ {F : Type 0} {none : F} {merge : F → F → F} {reach : F → ℕ} (laws : FoldLaws none merge reach) (schema : Schema) (value : Row → F) (chosen : List ℕ → ℤ → Bool) where
  abbrev total : List Row → F
  total rows = total_over none merge value rows

  total-put : (row : Row) (rows : List Row) → IsFolded schema merge value → HasCells schema row → Each (HasCells schema) rows → total (chosen_rows chosen (put schema row rows)) ≡ total (chosen_rows chosen (row ∷ rows))
  total-put row [] folded here cells = refl
  total-put row (next ∷ rest) folded here cells = by_test (are_at_one row next) refl
    where
      both : (b : Bool) → (row.key ≡ next.key) → total (cond b (merge_of_rows schema next row ∷ chosen_rows chosen rest) (chosen_rows chosen rest)) ≡ total (cond b (row ∷ cond b (next ∷ chosen_rows chosen rest) (chosen_rows chosen rest)) (cond b (next ∷ chosen_rows chosen rest) (chosen_rows chosen rest)))
      both true same =
          ap (merge (total (chosen_rows chosen rest))) (folded.of_joined next row cells.0 here (sym same))
          ∙ sym (laws.assoc (total (chosen_rows chosen rest)) (value next) (value row))
      both false same = refl

      by_test : (at : Bool) → are_at_one row next ≡ at → total (chosen_rows chosen (if at then merge_of_rows schema next row ∷ rest else row ∷ next ∷ rest)) ≡ total (chosen_rows chosen (row ∷ next ∷ rest))
      by_test true is =
          let parts = at_one_parts row next is in
          let alike : chosen next.key next.time ≡ chosen row.key row.time = cc in
          both (chosen next.key next.time) parts.0
          ∙ ap (λ b. total (cond b (row ∷ cond (chosen next.key next.time) (next ∷ chosen_rows chosen rest) (chosen_rows chosen rest)) (cond (chosen next.key next.time) (next ∷ chosen_rows chosen rest) (chosen_rows chosen rest)))) alike
      by_test false is = refl

  total-joined : (n : ℕ) (rows : List Row) → IsFolded schema merge value → Each (HasCells schema) rows → total (chosen_rows chosen (joined schema n rows)) ≡ total (chosen_by_start n chosen rows)
  total-joined n [] folded cells = refl
  total-joined n (row ∷ rows) folded cells =
      total-put (placed schema n row) (joined schema n rows) folded (fold_cells-length schema.rises schema.fields row.cells cells.0) (joined-cells schema n rows cells.1)
      ∙ by_test (chosen row.key (bucket_start n row.time)) (total-joined n rows folded cells.1)
    where
      by_test : (b : Bool) → total (chosen_rows chosen (joined schema n rows)) ≡ total (chosen_by_start n chosen rows)
          → total (cond b (placed schema n row ∷ chosen_rows chosen (joined schema n rows)) (chosen_rows chosen (joined schema n rows))) ≡ total (cond b (row ∷ chosen_by_start n chosen rows) (chosen_by_start n chosen rows))
      by_test true later = merge_eq later (folded.of_one row (bucket_start n row.time) cells.0)
        where
          merge_eq : {a b c d : F} → a ≡ b → c ≡ d → merge a c ≡ merge b d
          merge_eq p q = cc
      by_test false later = later

pub folds_keep_totals : {F : Type 0} {none : F} {merge : F → F → F} {reach : F → ℕ} → FoldLaws none merge reach → FoldsKeepTotals none merge
folds_keep_totals {F} {none} {merge} {reach} laws schema rows n value chosen cells some folded =
    ap (λ rs. total_over none merge value (chosen_rows chosen rs)) (down-joined schema rows n cells some)
    ∙ total-joined laws schema value chosen n (in_row_order rows) folded (in_row_order-each (HasCells schema) rows cells)
