-- Totals of the rows that a test takes, and of what keys and dimensions tell.
use Rattle.std.specs.Prelude.{◌≡◌, ℕ, zero, suc, ℤ, List, [], ◌∷◌, filter, slice_index_or}
use Rattle.std.proofs.Common.{refl, ap, ◌∙◌, sym}
use Rattle.fold_law.specs.Laws.{FoldLaws}
use Rattle.row_cells.specs.declared.schemas.Role.{Role}
use Rattle.row_cells.specs.declared.schemas.Role.TheVariants.{Time, Dimension, Gauge as GaugeRole, Counter, Label}
use Rattle.row_cells.specs.declared.schemas.Field.{Field}
use Rattle.row_cells.specs.declared.schemas.Schema.{Schema}
use Rattle.row_cells.specs.declared.rows.Cell.{Cell}
use Rattle.row_cells.specs.declared.rows.Cell.TheVariants.{Absent}
use Rattle.row_cells.specs.declared.rows.Row.{Row}
use Rattle.row_cells.specs.Each.{Each}
use Rattle.row_cells.specs.EachLaws.{Each-filter, Each-weaker}
use Rattle.row_cells.specs.Fitting.{Fits, folded_form}
use Rattle.row_cells.specs.HeadLaws.{head_cell, head_cells, heads_are}
use Rattle.row_cells.specs.Heads.{heads_in}
use Rattle.row_cells.specs.KeyedRows.{IsRowOf}
use Rattle.row_cells.specs.Mapped.{IsDimensionAt, IsMapped}
use Rattle.row_cells.specs.OrderLaws.{in_row_order-each}
use Rattle.row_cells.specs.RowLists.{in_row_order}
use Rattle.downsample_fold.specs.Columns.{cell_of}
use Rattle.downsample_fold.specs.Direct.{down}
use Rattle.downsample_fold.specs.JoinedFitLaws.{AllFit-cells}
use Rattle.downsample_fold.specs.KeepLaws.{folds_are_rows, mapped_form}
use Rattle.downsample_fold.specs.MeasureLaws.{keys_are_folded}
use Rattle.downsample_fold.specs.Places.{Place, own_place, place_of}
use Rattle.downsample_fold.specs.SeriesLaws.{filter_agree}
use Rattle.downsample_fold.specs.TotalLaws.{folds_keep_totals}
use Rattle.downsample_fold.specs.Totals.{FoldsKeepDimension, FoldsKeepTested, KeysAreFolded, total_over}

place_at : List ℕ → ℤ → Place
place_at key start = record { key = key; start = start }

pub folds_keep_tested : {F : Type 0} {none : F} {merge : F → F → F} {reach : F → ℕ} → FoldLaws none merge reach → FoldsKeepTested none merge
unfolding place_at
folds_keep_tested {F} {none} {merge} {reach} laws schema rows n value chosen test cells some folded tested =
    ap (total_over none merge value) (filter_agree test (λ row. chosen (own_place row)) (down schema rows n) tested.of_folds)
    ∙ (folds_keep_totals laws schema rows n value (λ key start. chosen (place_at key start)) cells some folded
    ∙ ap (total_over none merge value) (sym (filter_agree test (λ row. chosen (place_of n row)) (in_row_order rows) (in_row_order-each (λ row. test row ≡ chosen (place_of n row)) rows tested.of_rows))))

pub keys_told : {F : Type 0} {merge : F → F → F} → KeysAreFolded merge
keys_told {F} {merge} schema told same_stays = keys_are_folded schema merge told same_stays

-- ---- dimensions

head_is : (role : Role) (cell : Cell) → role ≡ Dimension → head_cell role cell ≡ cell
head_is Dimension cell is = refl
head_is Time cell is = cc
head_is GaugeRole cell is = cc
head_is Counter cell is = cc
head_is Label cell is = cc

head_at : (fs : List Field) (cells : List Cell) (place : ℕ) → IsDimensionAt fs place → slice_index_or (head_cells fs cells) place Absent ≡ slice_index_or cells place Absent
head_at [] cells place is = absurd is
head_at (f ∷ fs) [] place is = refl
head_at (f ∷ fs) (cell ∷ cells) zero is = head_is f.role cell is
head_at (f ∷ fs) (cell ∷ cells) (suc place) is = head_at fs cells place is

-- the cell of a dimension, as the key of its series spells it
spelled_at : Schema → ℕ → List ℕ → Cell
spelled_at schema place key = slice_index_or (heads_in schema.fields key) place Absent

told_by_key : (schema : Schema) (place : ℕ) (row : Row) → IsMapped schema → IsDimensionAt schema.fields place → IsRowOf schema row → cell_of place row ≡ spelled_at schema place row.key
unfolding spelled_at
told_by_key schema place row mapped at is =
    sym (ap (λ cells. slice_index_or cells place Absent) (heads_are schema row mapped is.fits) ∙ head_at schema.fields row.cells place at)

total_agree : {F : Type 0} (none : F) (merge : F → F → F) (value other : Row → F) (rows : List Row) → Each (λ row. value row ≡ other row) rows → total_over none merge value rows ≡ total_over none merge other rows
total_agree {F} none merge value other [] each = refl
total_agree {F} none merge value other (row ∷ rows) each = both (total_agree none merge value other rows each.1) each.0
  where
    both : {a b c d : F} → a ≡ b → c ≡ d → merge a c ≡ merge b d
    both p q = cc

pub folds_keep_dimension : {F : Type 0} {none : F} {merge : F → F → F} {reach : F → ℕ} → FoldLaws none merge reach → FoldsKeepDimension none merge
unfolding spelled_at
folds_keep_dimension {F} {none} {merge} {reach} laws schema rows n place told chosen test mapped some each few at same_stays tested =
    let once = down schema rows n in
    let sorted = in_row_order rows in
    let value : Row → F = λ row. told (cell_of place row) in
    let by_key : Row → F = λ row. told (spelled_at schema place row.key) in
    let folds : Each (λ row. value row ≡ by_key row) once =
    Each-weaker (IsRowOf (folded_form schema)) (λ row. value row ≡ by_key row) (λ row is. ap told (told_by_key (folded_form schema) place row (mapped_form schema mapped) at is)) once (folds_are_rows schema rows n mapped some each few) in
    let own : Each (λ row. value row ≡ by_key row) sorted =
    in_row_order-each (λ row. value row ≡ by_key row) rows (Each-weaker (IsRowOf schema) (λ row. value row ≡ by_key row) (λ row is. ap told (told_by_key schema place row mapped at is)) rows each) in
    total_agree none merge value by_key (filter test once) (Each-filter (λ row. value row ≡ by_key row) test once folds)
    ∙ (folds_keep_tested laws schema rows n by_key chosen test (AllFit-cells schema rows (Each-weaker (IsRowOf schema) (Fits schema) (λ row is. is.fits) rows each)) some
    (keys_are_folded schema merge (λ key. told (spelled_at schema place key)) same_stays) tested
    ∙ sym (total_agree none merge value by_key (filter test sorted) (Each-filter (λ row. value row ≡ by_key row) test sorted own)))
