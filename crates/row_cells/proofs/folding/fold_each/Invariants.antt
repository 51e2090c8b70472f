use Rattle.std.proofs.Common.{◌≡◌, ◌++◌, drop}
use Rattle.row_cells.specs.Merging.{fold_cells}
use Rattle.row_cells.proofs.folding.fold_each.Given as goal

abbrev pub invariant-loop-i : goal.invariant-loop-i
invariant-loop-i l = l.folded.items ++ fold_cells l.rises (drop l.i l.fields) (drop l.i l.cells) ≡ fold_cells l.rises l.fields l.cells
