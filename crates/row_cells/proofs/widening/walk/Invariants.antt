use Rattle.std.proofs.Common.{◌≡◌, ◌++◌, drop}
use Rattle.row_cells.specs.Widening.{walk_cells}
use Rattle.row_cells.proofs.widening.walk.Given as goal

abbrev pub invariant-loop-field : goal.invariant-loop-field
invariant-loop-field l = l.widened.items ++ walk_cells l.fields l.cells (drop l.field-index l.wide) ≡ walk_cells l.fn.fields l.fn.cells l.wide
