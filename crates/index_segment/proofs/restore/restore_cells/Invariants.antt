use Rattle.std.proofs.Common.{◌≡◌, ◌++◌, ◌≤◌, ◌*◌, drop}
use Rattle.index_segment.specs.Columns.{cells_from}
use Rattle.index_segment.proofs.restore.restore_cells.Given as goal

abbrev pub invariant-loop-place : goal.invariant-loop-place
invariant-loop-place l = record {
  within : l.at ≤ 4 * l.place;
  rest : l.cells.items ++ cells_from (drop l.place l.forms) (drop l.place l.heads) l.columns l.at l.row ≡ cells_from l.forms l.heads l.columns 0 l.row;
}
