-- Three lists of rows in one.
use Rattle.std.specs.Prelude.{◌+◌, ◌≤◌, List, [], ◌++◌}
use Rattle.std.proofs.Common.{arith}
use Rattle.row_cells.specs.declared.rows.Row.{Row}
use Rattle.row_cells.specs.Limits.{most_documents}
use Rattle.row_cells.specs.RowLists.{documents}
use Rattle.row_cells.specs.PlaceLaws.{documents-append}

-- lists of few documents together are one list of few
pub three_few : (xs ys zs : List Row) → documents xs + documents ys + documents zs ≤ most_documents → documents (xs ++ (ys ++ (zs ++ []))) ≤ most_documents
three_few xs ys zs few = omega (arith, few, documents-append xs (ys ++ (zs ++ [])), documents-append ys (zs ++ []), documents-append zs [])
