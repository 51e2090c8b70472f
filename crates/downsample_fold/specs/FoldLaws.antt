-- The laws of the direct fold.
use Rattle.std.specs.Prelude.{◌≡◌, ℕ, suc, ◌<◌, Bool, List, [], ◌∷◌, length, map}
use Rattle.std.proofs.Common.{refl, ap, ◌∙◌, sym, subst, arith}
use Rattle.row_cells.specs.declared.schemas.Field.{Field}
use Rattle.row_cells.specs.declared.schemas.Schema.{Schema}
use Rattle.row_cells.specs.declared.rows.Cell.{Cell}
use Rattle.row_cells.specs.declared.rows.Row.{Row}
use Rattle.row_cells.specs.Fitting.{folded_form, Fits}
use Rattle.row_cells.specs.RowLists.{AreInRowOrder, in_row_order, documents, AllFit}
use Rattle.downsample_fold.specs.Places.{places, rows_at}
use Rattle.downsample_fold.specs.Columns.{fold_columns, other_cells}
use Rattle.downsample_fold.specs.Conditions.{HaveCells, AllAtStarts}
use Rattle.downsample_fold.specs.Direct.{down, fold_at, fold_in_order}
use Rattle.row_cells.specs.Each.{Each}
use Rattle.row_cells.specs.EachLaws.{Each-all}
use Rattle.row_cells.specs.SetLaws.{among_sorted, sorted_distinct, sorted_is}
use Rattle.downsample_fold.specs.Laws.{FoldsAnyOrder, FoldsCompose, FoldsSorted, FoldsInOrder, FoldsAtStarts, FoldsFit, FoldsCountAll}
use Rattle.row_cells.specs.OrderLaws.{in_order-ascends, in_row_order-each, in_row_order-ascends, in_row_order-same, documents-in_row_order}
use Rattle.downsample_fold.specs.Joined.{put, placed, joined}
use Rattle.downsample_fold.specs.JoinedLaws.{joined-joined, documents-joined}
use Rattle.downsample_fold.specs.JoinedOrderLaws.{joined-in_order, joined-at_starts}
use Rattle.downsample_fold.specs.JoinedFitLaws.{joined_fits, AllFit-cells}
use Rattle.downsample_fold.specs.DirectLaws.{fold_in_order-joined}

-- the direct fold is the fold of the sorted rows as joined neighbours
pub down-joined : (schema : Schema) (rows : List Row) (n : ℕ) → HaveCells schema rows → 0 < n → down schema rows n ≡ joined schema n (in_row_order rows)
unfolding down
down-joined schema rows n cells some =
    fold_in_order-joined schema n (in_row_order rows) some (in_row_order-each (λ row. length row.cells ≡ length schema.fields) rows cells) (in_row_order-ascends rows)

-- of rows that stand in row order it is that of the rows as they stand
pub down-in_order : (schema : Schema) (rows : List Row) (n : ℕ) → AreInRowOrder rows → down schema rows n ≡ fold_in_order schema rows n
unfolding down
down-in_order schema rows n order = ap (λ rs. fold_in_order schema rs n) (in_row_order-same rows (in_order-ascends rows order))

pub folds_sorted : FoldsSorted
unfolding down
folds_sorted schema rows n = ap (λ rs. fold_in_order schema rs n) (in_row_order-same (in_row_order rows) (in_row_order-ascends rows))

pub folds_any_order : FoldsAnyOrder
unfolding down
folds_any_order schema rows others n distinct_a distinct_b same =
    ap (λ rs. fold_in_order schema rs n)
    (sorted_is rows (in_row_order others) distinct_a (sorted_distinct others distinct_b)
    (λ r. (λ among. (among_sorted r others).1 ((same r).0 among), λ among. (same r).1 ((among_sorted r others).0 among))))

-- ---- folding in rounds

put-folded : (schema : Schema) (row : Row) (rows : List Row) → put (folded_form schema) row rows ≡ put schema row rows
put-folded schema row [] = refl
put-folded schema row (next ∷ rest) = refl

joined-folded : (schema : Schema) (n : ℕ) (rows : List Row) → joined (folded_form schema) n rows ≡ joined schema n rows
joined-folded schema n [] = refl
joined-folded schema n (row ∷ rows) =
    put-folded schema (placed schema n row) (joined (folded_form schema) n rows) ∙ ap (put schema (placed schema n row)) (joined-folded schema n rows)

fold_columns-length : (rises : Bool) (fs : List Field) (rows : List (List Cell)) → length (fold_columns rises fs rows) ≡ length fs
fold_columns-length rises [] rows = refl
fold_columns-length rises (f ∷ fs) rows = ap suc (fold_columns-length rises fs (map other_cells rows))

each_mapped : {X Y : Type 0} (P : Y → Type 0) (f : X → Y) (xs : List X) → Each (λ x. P (f x)) xs → Each P (map f xs)
each_mapped P f [] each = tt
each_mapped P f (x ∷ xs) each = (each.0, each_mapped P f xs each.1)

-- a fold has a cell for each field
pub down-cells : (schema : Schema) (rows : List Row) (n : ℕ) → HaveCells schema (down schema rows n)
unfolding down
down-cells schema rows n =
    each_mapped (λ row. length row.cells ≡ length schema.fields) (λ p. fold_at schema p (rows_at n p (in_row_order rows))) (places n (in_row_order rows))
    (Each-all (λ p. length (fold_at schema p (rows_at n p (in_row_order rows))).cells ≡ length schema.fields) (λ p. fold_columns-length schema.rises schema.fields (map (λ row. row.cells) (rows_at n p (in_row_order rows)))) (places n (in_row_order rows)))

pub folds_in_order : FoldsInOrder
folds_in_order schema rows n cells some =
    subst AreInRowOrder (sym (down-joined schema rows n cells some)) (joined-in_order schema n (in_row_order rows) some (in_row_order-ascends rows))

pub folds_compose : FoldsCompose
folds_compose schema rows m n cells narrow wide multiple =
    let sorted = in_row_order rows in
    let once = down schema rows m in
    let stays : in_row_order once ≡ once = in_row_order-same once (in_order-ascends once (folds_in_order schema rows m cells narrow)) in
    down-joined (folded_form schema) once n (down-cells schema rows m) wide
    ∙ (joined-folded schema n (in_row_order once)
    ∙ (ap (joined schema n) (stays ∙ down-joined schema rows m cells narrow)
    ∙ (joined-joined schema m n sorted narrow wide multiple
    ∙ sym (down-joined schema rows n cells wide))))

-- ---- what a fold keeps

pub folds_at_starts : FoldsAtStarts
folds_at_starts schema rows n cells some =
    subst (AllAtStarts n) (sym (down-joined schema rows n cells some)) (joined-at_starts schema n (in_row_order rows) some)

pub folds_count_all : FoldsCountAll
folds_count_all schema rows n cells some =
    ap documents (down-joined schema rows n cells some) ∙ (documents-joined schema n (in_row_order rows) ∙ documents-in_row_order rows)

pub folds_fit : FoldsFit
folds_fit schema rows n some fits few =
    subst (AllFit (folded_form schema)) (sym (down-joined schema rows n (AllFit-cells schema rows fits) some))
    (joined_fits schema n (in_row_order rows) some (in_row_order-each (Fits schema) rows fits) (omega (arith, few, documents-in_row_order rows)))

-- of rows that fit and stand in row order it is that of the rows as joined neighbours
pub joined-down : (schema : Schema) (rows : List Row) (n : ℕ) → AllFit schema rows → AreInRowOrder rows → 0 < n → joined schema n rows ≡ down schema rows n
joined-down schema rows n fits order some =
    sym (down-joined schema rows n (AllFit-cells schema rows fits) some ∙ ap (joined schema n) (in_row_order-same rows (in_order-ascends rows order)))
