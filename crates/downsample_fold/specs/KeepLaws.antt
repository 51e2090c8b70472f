-- Folds may stand in an index: they have keys of it and short lists, and the dimensions of their series.
use Rattle.std.specs.Prelude.{ℕ, ◌+◌, ◌<◌, ◌≤◌, List, [], ◌∷◌, Bool, true, false, if◌then◌else◌}
use Rattle.std.proofs.Common.{◌∙◌, arith, inl, inr, subst, sym}
use Rattle.row_cells.specs.declared.schemas.Schema.{Schema}
use Rattle.row_cells.specs.declared.rows.Row.{Row}
use Rattle.row_cells.specs.Each.{Each}
use Rattle.row_cells.specs.EachLaws.{Each-weaker}
use Rattle.row_cells.specs.Fitting.{Fits, dimensions_of, folded_form}
use Rattle.row_cells.specs.KeyLaws.{key_bytes_injective}
use Rattle.row_cells.specs.KeyedLaws.{schema_spells}
use Rattle.row_cells.specs.KeyedRows.{IsRowOf}
use Rattle.row_cells.specs.KeyedRowLaws.{fold_is_row, merge_is_row}
use Rattle.row_cells.specs.Limits.{most_documents}
use Rattle.row_cells.specs.Mapped.{IsMapped}
use Rattle.row_cells.specs.Merging.{merge_of_rows}
use Rattle.row_cells.specs.OrderLaws.{documents-in_row_order, in_row_order-each}
use Rattle.row_cells.specs.RowLists.{IsAmong, documents, in_row_order}
use Rattle.time_text.specs.Bucket.{bucket_start}
use Rattle.downsample_fold.specs.Direct.{down}
use Rattle.downsample_fold.specs.FoldLaws.{down-joined, folds_fit}
use Rattle.downsample_fold.specs.Joined.{placed, put, joined, are_at_one}
use Rattle.downsample_fold.specs.JoinedLaws.{documents-joined}
use Rattle.downsample_fold.specs.JoinedFitLaws.{moved_fits, AllFit-cells}
use Rattle.downsample_fold.specs.Laws.{FoldsAreRows, FoldsKeepDimensions}

placed_row : (schema : Schema) (n : ℕ) (row : Row) → IsMapped schema → 0 < n → IsRowOf schema row → IsRowOf (folded_form schema) (placed schema n row)
placed_row schema n row mapped some is =
    fold_is_row schema (record row { time = bucket_start n row.time }) mapped (record { fits = moved_fits schema n row some is.fits; keyed = is.keyed; short = is.short })

put_row : (schema : Schema) (row : Row) (rows : List Row) → IsMapped schema → IsRowOf (folded_form schema) row → Each (IsRowOf (folded_form schema)) rows → row.count + documents rows ≤ most_documents → Each (IsRowOf (folded_form schema)) (put schema row rows)
put_row schema row [] mapped here each few = (here, tt)
put_row schema row (next ∷ rest) mapped here each few = by_test (are_at_one row next)
  where
    by_test : (at : Bool) → Each (IsRowOf (folded_form schema)) (if at then merge_of_rows schema next row ∷ rest else row ∷ next ∷ rest)
    by_test true = (merge_is_row schema next row mapped each.0 here (omega (arith, few)), each.1)
    by_test false = (here, each)

joined_rows : (schema : Schema) (n : ℕ) (rows : List Row) → IsMapped schema → 0 < n → Each (IsRowOf schema) rows → documents rows ≤ most_documents → Each (IsRowOf (folded_form schema)) (joined schema n rows)
joined_rows schema n [] mapped some each few = tt
joined_rows schema n (row ∷ rows) mapped some each few =
    put_row schema (placed schema n row) (joined schema n rows) mapped (placed_row schema n row mapped some each.0) (joined_rows schema n rows mapped some each.1 (omega (arith, few))) (omega (arith, few, documents-joined schema n rows))

pub folds_are_rows : FoldsAreRows
folds_are_rows schema rows n mapped some each few =
    subst (Each (IsRowOf (folded_form schema))) (sym (down-joined schema rows n (AllFit-cells schema rows (Each-weaker (IsRowOf schema) (Fits schema) (λ row is. is.fits) rows each)) some))
    (joined_rows schema n (in_row_order rows) mapped some (in_row_order-each (IsRowOf schema) rows each) (omega (arith, few, documents-in_row_order rows)))

each_among : (P : Row → Type 0) (row : Row) (rows : List Row) → Each P rows → IsAmong row rows → P row
each_among P row [] each among = absurd among
each_among P row (first ∷ rest) each among = elim among [ inl here ↦ subst P here each.0 | inr there ↦ each_among P row rest each.1 there ]

pub mapped_form : (schema : Schema) → IsMapped schema → IsMapped (folded_form schema)
mapped_form schema mapped = record { ascending = mapped.ascending; paths = mapped.paths; routing = mapped.routing }

pub folds_keep_dimensions : FoldsKeepDimensions
folds_keep_dimensions schema rows n mapped some fits few folded row in_fold in_rows same =
    let f = each_among (Fits (folded_form schema)) folded (down schema rows n) (folds_fit schema rows n some fits few) in_fold in
    let g = each_among (Fits schema) row rows fits in_rows in
    key_bytes_injective [] [] (dimensions_of schema.fields folded.cells) (dimensions_of schema.fields row.cells)
    (schema_spells (folded_form schema) folded.cells (mapped_form schema mapped) (record { documents = folded.count; fit = f.cells_fit }))
    (schema_spells schema row.cells mapped (record { documents = row.count; fit = g.cells_fit }))
    (sym f.key_is ∙ (same ∙ g.key_is))
