use Rattle.std.proofs.Common.{◌↔◌, drop}
use Rattle.row_cells.specs.RowLists.{AreBehind}
use Rattle.row_cells.proofs.checks.are_behind.Given as goal

abbrev pub invariant-loop-row : goal.invariant-loop-row
invariant-loop-row l = AreBehind l.first l.rows ↔ AreBehind l.before (drop l.row-index l.rows)
