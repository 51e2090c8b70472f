use Rattle.std.proofs.Common.{◌≡◌, ◌+◌, ◌≤◌, drop}
use Rattle.row_cells.specs.Limits.{most_documents}
use Rattle.row_cells.specs.RowLists.{documents}
use Rattle.row_cells.proofs.checks.are_few.Given as goal

abbrev pub invariant-loop-row : goal.invariant-loop-row
invariant-loop-row l = record {
  few : l.total ≤ most_documents;
  rest : l.total + documents (drop l.row-index l.rows) ≡ documents l.rows;
}
