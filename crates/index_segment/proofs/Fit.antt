-- The cells at one place of rows that fit a schema.
use Rattle.std.specs.Prelude.{◌≡◌, ℕ, zero, suc, ◌≤◌, Bool, List, [], ◌∷◌, drop, length}
use Rattle.std.proofs.Common.{refl, arith}
use Rattle.std.specs.List.{slice_get}
use Rattle.row_cells.specs.Limits.{most_documents}
use Rattle.row_cells.specs.Each.{Each}
use Rattle.row_cells.specs.RowLists.{documents}
use Rattle.row_cells.specs.declared.schemas.Field.{Field}
use Rattle.row_cells.specs.declared.schemas.Schema.{Schema}
use Rattle.row_cells.specs.declared.rows.Cell.{Cell}
use Rattle.row_cells.specs.declared.rows.Row.{Row}
use Rattle.row_cells.specs.Fitting.{CellFits, CellsFit}
use Rattle.index_segment.specs.Columns.{cell_at, cell_or_absent}
use Rattle.row_cells.specs.KeyedRows.{IsRowOf, IsShortList}

pub record Split (folded rises : Bool) (n : ℕ) (f : Field) (fs : List Field) (place : ℕ) (cells : List Cell) : Type 0 where
  pub here : CellFits folded rises f.kind f.role n (cell_or_absent (slice_get cells place))
  pub rest : CellsFit folded rises n fs (drop (suc place) cells)
  pub seen : drop place cells ≡ cell_or_absent (slice_get cells place) ∷ drop (suc place) cells

-- the cell at a place, and those behind it
pub split : (folded rises : Bool) (n : ℕ) (f : Field) (fs : List Field) (place : ℕ) (cells : List Cell) → CellsFit folded rises n (f ∷ fs) (drop place cells) → Split folded rises n f fs place cells
split folded rises n f fs zero [] fit = absurd fit
split folded rises n f fs zero (c ∷ cs) fit = record { here = fit.0; rest = fit.1; seen = refl }
split folded rises n f fs (suc place) [] fit = absurd fit
split folded rises n f fs (suc place) (c ∷ cs) fit =
    let s = split folded rises n f fs place cs fit in
    record { here = s.here; rest = s.rest; seen = s.seen }

-- the cells of a row from a place on fit fields
abbrev pub FitFrom : Bool → Bool → List Field → ℕ → Row → Type 0
FitFrom folded rises fs place row = CellsFit folded rises row.count fs (drop place row.cells)

-- the cell of a row at a place fits a field, its list is short, and the row counts few documents
pub record FitHere (folded rises : Bool) (f : Field) (place : ℕ) (row : Row) : Type 0 where
  pub fits : CellFits folded rises f.kind f.role row.count (cell_at place row)
  pub short : IsShortList (cell_at place row)
  pub few : row.count ≤ most_documents

short_at : (cells : List Cell) (place : ℕ) → Each IsShortList cells → IsShortList (cell_or_absent (slice_get cells place))
short_at [] place short = tt
short_at (c ∷ cs) zero short = short.0
short_at (c ∷ cs) (suc place) short = short_at cs place short.1

pub rows_here : (schema : Schema) (f : Field) (fs : List Field) (place : ℕ) (rows : List Row) → Each (IsRowOf schema) rows → Each (FitFrom schema.folded schema.rises (f ∷ fs) place) rows → Each (FitHere schema.folded schema.rises f place) rows
rows_here schema f fs place [] each fit = tt
rows_here schema f fs place (row ∷ rows) each fit = (
  record { fits = (split schema.folded schema.rises row.count f fs place row.cells fit.0).here; short = short_at row.cells place each.0.short; few = each.0.fits.count_within },
  rows_here schema f fs place rows each.1 fit.1,
)

pub rows_behind : (schema : Schema) (f : Field) (fs : List Field) (place : ℕ) (rows : List Row) → Each (FitFrom schema.folded schema.rises (f ∷ fs) place) rows → Each (FitFrom schema.folded schema.rises fs (suc place)) rows
rows_behind schema f fs place [] fit = tt
rows_behind schema f fs place (row ∷ rows) fit = ((split schema.folded schema.rises row.count f fs place row.cells fit.0).rest, rows_behind schema f fs place rows fit.1)

pub rows_first : (schema : Schema) (rows : List Row) → Each (IsRowOf schema) rows → Each (FitFrom schema.folded schema.rises schema.fields 0) rows
rows_first schema [] each = tt
rows_first schema (row ∷ rows) each = (each.0.fits.cells_fit, rows_first schema rows each.1)

-- each row counts a document, so there are as few rows as documents
pub rows_few : (schema : Schema) (rows : List Row) → Each (IsRowOf schema) rows → length rows ≤ documents rows
rows_few schema [] each = omega arith
rows_few schema (row ∷ rows) each = omega (arith, rows_few schema rows each.1, each.0.fits.counted)
