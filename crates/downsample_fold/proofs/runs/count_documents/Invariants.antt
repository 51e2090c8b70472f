use Rattle.std.proofs.Common.{◌≡◌, ◌+◌, drop}
use Rattle.row_cells.specs.RowLists.{documents}
use Rattle.downsample_fold.proofs.runs.count_documents.Given as goal

abbrev pub invariant-loop-row : goal.invariant-loop-row
invariant-loop-row l = l.count + documents (drop l.row-index l.rows) ≡ documents l.rows
