-- How many documents rows of an index stand for.
use Rattle.std.specs.Prelude.{◌≡◌, ◌+◌, ◌≤◌, Bool, true, false, List, [], ◌∷◌, length}
use Rattle.std.proofs.Common.{refl, arith}
use Rattle.row_cells.specs.declared.rows.Row.{Row}
use Rattle.row_cells.specs.declared.schemas.Schema.{Schema}
use Rattle.row_cells.specs.Each.{Each}
use Rattle.row_cells.specs.KeyedRows.{AreRowsOf, IsRowOf}
use Rattle.row_cells.specs.Limits.{most_documents}
use Rattle.row_cells.specs.RowLists.{documents}

-- one each where nothing is folded
raw_documents : (schema : Schema) (rows : List Row) → schema.folded ≡ false → Each (IsRowOf schema) rows → documents rows ≡ length rows
raw_documents schema [] raw each = refl
raw_documents schema (row ∷ rows) raw each = omega (arith, each.0.fits.alone raw, raw_documents schema rows raw each.1)

-- and one at least
pub length_documents : (schema : Schema) (rows : List Row) → Each (IsRowOf schema) rows → length rows ≤ documents rows
length_documents schema [] each = omega arith
length_documents schema (row ∷ rows) each = omega (arith, each.0.fits.counted, length_documents schema rows each.1)

-- with a row more there are few enough
pub more_few : (schema : Schema) (rows : List Row) (row : Row) → AreRowsOf schema rows → IsRowOf schema row → (schema.folded ≡ true → documents rows + row.count ≤ most_documents) → length rows + 1 ≤ most_documents → documents rows + row.count ≤ most_documents
more_few schema rows row are is folded room = by_form schema.folded refl
  where
    by_form : (b : Bool) → schema.folded ≡ b → documents rows + row.count ≤ most_documents
    by_form true form = folded form
    by_form false form = omega (arith, raw_documents schema rows form are.each, is.fits.alone form, room)
