-- A fold of rows that fit a schema fits its folded form.
use Rattle.std.specs.Prelude.{◌≡◌, ℕ, ◌+◌, ◌<◌, ◌≤◌, List, [], ◌∷◌, length, Bool, true, false, if◌then◌else◌}
use Rattle.std.proofs.Common.{inl, inr, arith}
use Rattle.time_text.specs.Bucket.{bucket_start}
use Rattle.time_text.specs.BucketLaws.{of_instant}
use Rattle.row_cells.specs.declared.schemas.Schema.{Schema}
use Rattle.row_cells.specs.declared.rows.Row.{Row}
use Rattle.row_cells.specs.Fitting.{Fits, folded_form}
use Rattle.row_cells.specs.FitLaws.{merge_of_rows_fits, fold_of_row_fits, CellsFit-length}
use Rattle.row_cells.specs.Limits.{most_documents}
use Rattle.row_cells.specs.Merging.{merge_of_rows}
use Rattle.row_cells.specs.RowLists.{documents, AllFit}
use Rattle.downsample_fold.specs.Conditions.{HaveCells}
use Rattle.row_cells.specs.EachLaws.{Each-weaker}
use Rattle.downsample_fold.specs.Joined.{placed, put, joined, are_at_one}
use Rattle.downsample_fold.specs.JoinedLaws.{documents-joined}

-- a row that fits does so at the start of its bucket
pub moved_fits : (schema : Schema) (n : ℕ) (row : Row) → 0 < n → Fits schema row → Fits schema (record row { time = bucket_start n row.time })
moved_fits schema n row some fits = record {
  cells_fit = fits.cells_fit;
  key_is = fits.key_is;
  instant = of_instant n row.time some fits.instant;
  counted = fits.counted;
  count_within = fits.count_within;
  alone = fits.alone;
}

pub placed_fits : (schema : Schema) (n : ℕ) (row : Row) → 0 < n → Fits schema row → Fits (folded_form schema) (placed schema n row)
placed_fits schema n row some fits = fold_of_row_fits schema (record row { time = bucket_start n row.time }) (inl (moved_fits schema n row some fits))

put_fits : (schema : Schema) (row : Row) (rows : List Row) → Fits (folded_form schema) row → AllFit (folded_form schema) rows → row.count + documents rows ≤ most_documents → AllFit (folded_form schema) (put schema row rows)
put_fits schema row [] here fits few = (here, tt)
put_fits schema row (next ∷ rest) here fits few = by_test (are_at_one row next)
  where
    by_test : (at : Bool) → AllFit (folded_form schema) (if at then merge_of_rows schema next row ∷ rest else row ∷ next ∷ rest)
    by_test true = (merge_of_rows_fits schema next row (inr fits.0) (inr here) (omega (arith, few)), fits.1)
    by_test false = (here, fits)

pub joined_fits : (schema : Schema) (n : ℕ) (rows : List Row) → 0 < n → AllFit schema rows → documents rows ≤ most_documents → AllFit (folded_form schema) (joined schema n rows)
joined_fits schema n [] some fits few = tt
joined_fits schema n (row ∷ rows) some fits few =
    put_fits schema (placed schema n row) (joined schema n rows) (placed_fits schema n row some fits.0) (joined_fits schema n rows some fits.1 (omega (arith, few))) (omega (arith, few, documents-joined schema n rows))

-- rows that fit have a cell for each field
pub AllFit-cells : (schema : Schema) (rows : List Row) → AllFit schema rows → HaveCells schema rows
AllFit-cells schema rows fits =
    Each-weaker (Fits schema) (λ row. length row.cells ≡ length schema.fields) (λ row f. CellsFit-length schema.folded schema.rises row.count schema.fields row.cells f.cells_fit) rows fits
