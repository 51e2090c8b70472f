use Rattle.std.proofs.Common.{◌≡◌, length}
use Rattle.row_cells.specs.Each.{Each}
use Rattle.row_cells.specs.KeyedRows.{IsRowOf}
use Rattle.probe_index.proofs.filling.put_rows.Given as goal

abbrev pub invariant-loop-row : goal.invariant-loop-row
invariant-loop-row l = record {
  same : l.index.schema ≡ l.initial.index.schema;
  rows : Each (IsRowOf l.initial.index.schema) l.left;
}

abbrev pub decreases-loop-row : goal.decreases-loop-row
decreases-loop-row l = length l.left
