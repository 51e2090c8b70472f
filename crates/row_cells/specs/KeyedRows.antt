-- Which rows an index and its segments may have.
use Rattle.std.specs.Prelude.{◌≤◌, List, length}
use Rattle.row_cells.specs.declared.schemas.Schema.{Schema}
use Rattle.row_cells.specs.declared.rows.Row.{Row}
use Rattle.row_cells.specs.declared.rows.Cell.{Cell}
use Rattle.row_cells.specs.declared.rows.Cell.TheVariants.{Many}
use Rattle.row_cells.specs.Each.{Each}
use Rattle.row_cells.specs.Fitting.{Fits}
use Rattle.row_cells.specs.Limits.{longest_list, most_documents}
use Rattle.row_cells.specs.Mapped.{HaveKey}
use Rattle.row_cells.specs.RowLists.{AreInRowOrder, documents}

-- a label has at most so many values
abbrev pub IsShortList : Cell → Type 0
IsShortList (Many vs) = length vs ≤ longest_list
IsShortList cell = Unit {0}

-- a row of a schema whose key has a routing field and few enough bytes, and whose labels have few enough values
pub record IsRowOf (schema : Schema) (row : Row) : Type 0 where
  pub fits : Fits schema row
  pub keyed : HaveKey schema row.cells
  pub short : Each IsShortList row.cells

-- rows of a schema in row order
pub record AreRowsOf (schema : Schema) (rows : List Row) : Type 0 where
  pub each : Each (IsRowOf schema) rows
  pub in_order : AreInRowOrder rows
  pub few : documents rows ≤ most_documents
