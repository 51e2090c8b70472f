-- The row of a place is its rows merged one after the other.
use Rattle.std.specs.Prelude.{◌≡◌, ℕ, List, [], ◌∷◌, map, length, Bool}
use Rattle.std.proofs.Common.{refl, ap, ◌∙◌, sym, arith}
use Rattle.row_cells.specs.declared.schemas.Field.{Field}
use Rattle.row_cells.specs.declared.schemas.Schema.{Schema}
use Rattle.row_cells.specs.declared.rows.Cell.{Cell}
use Rattle.row_cells.specs.declared.rows.Row.{Row}
use Rattle.row_cells.specs.Merging.{merge_cell, merge_cells, fold_cells, merge_of_rows}
use Rattle.row_cells.specs.MergeLaws.{merge_of_rows-fold_of_row_right}
use Rattle.time_text.specs.Bucket.{bucket_start}
use Rattle.downsample_fold.specs.Places.{Place, place_of}
use Rattle.downsample_fold.specs.Columns.{first_cell, other_cells, fold_columns}
use Rattle.downsample_fold.specs.ColumnLaws.{fold_column-merges}
use Rattle.downsample_fold.specs.Direct.{fold_at}
use Rattle.downsample_fold.specs.Joined.{placed}

cons_eq : {x y : Cell} {xs ys : List Cell} → x ≡ y → xs ≡ ys → x ∷ xs ≡ y ∷ ys
cons_eq p q = cc

fold_columns-one : (rises : Bool) (fs : List Field) (xs : List Cell) → length xs ≡ length fs → fold_columns rises fs (xs ∷ []) ≡ fold_cells rises fs xs
fold_columns-one rises [] xs same = refl
fold_columns-one rises (f ∷ fs) [] same = absurd (omega (arith, same))
fold_columns-one rises (f ∷ fs) (x ∷ xs) same = cons_eq (fold_column-merges rises f.role x []) (fold_columns-one rises fs xs (omega (arith, same)))

fold_columns-more : (rises : Bool) (fs : List Field) (xs ys : List Cell) (rest : List (List Cell)) → length xs ≡ length fs → fold_columns rises fs (xs ∷ ys ∷ rest) ≡ merge_cells rises fs (fold_columns rises fs (ys ∷ rest)) xs
fold_columns-more rises [] xs ys rest same = refl
fold_columns-more rises (f ∷ fs) [] ys rest same = absurd (omega (arith, same))
fold_columns-more rises (f ∷ fs) (x ∷ xs) ys rest same =
    cons_eq
    (fold_column-merges rises f.role x (first_cell ys ∷ map first_cell rest) ∙ ap (λ c. merge_cell rises f.role c x) (sym (fold_column-merges rises f.role (first_cell ys) (map first_cell rest))))
    (fold_columns-more rises fs xs (other_cells ys) (map other_cells rest) (omega (arith, same)))

row_of : Place → ℕ → List Cell → Row
row_of place count cells = record { key = place.key; time = place.start; count = count; cells = cells }

row_eq : (place : Place) {m n : ℕ} {xs ys : List Cell} → m ≡ n → xs ≡ ys → row_of place m xs ≡ row_of place n ys
row_eq place p q = cc

-- one row alone
pub fold_at-one : (schema : Schema) (n : ℕ) (row : Row) → length row.cells ≡ length schema.fields → fold_at schema (place_of n row) (row ∷ []) ≡ placed schema n row
unfolding row_of
fold_at-one schema n row same = row_eq (place_of n row) (omega arith) (fold_columns-one schema.rises schema.fields row.cells same)

-- and one that is later than the others
pub fold_at-more : (schema : Schema) (n : ℕ) (place : Place) (row next : Row) (rest : List Row) → length row.cells ≡ length schema.fields → fold_at schema place (row ∷ next ∷ rest) ≡ merge_of_rows schema (fold_at schema place (next ∷ rest)) (placed schema n row)
unfolding row_of
fold_at-more schema n place row next rest same =
    row_eq place (omega arith) (fold_columns-more schema.rises schema.fields row.cells next.cells (map (λ r. r.cells) rest) same)
    ∙ sym (merge_of_rows-fold_of_row_right schema (fold_at schema place (next ∷ rest)) (record row { time = bucket_start n row.time }))
