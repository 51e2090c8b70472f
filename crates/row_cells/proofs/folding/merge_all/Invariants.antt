use Rattle.std.proofs.Common.{◌≡◌, ◌++◌, drop}
use Rattle.row_cells.specs.Merging.{AllHaveRoom, merge_cells}
use Rattle.row_cells.proofs.folding.merge_all.Given as goal

abbrev pub invariant-loop-i : goal.invariant-loop-i
invariant-loop-i l = record {
  so_far : l.cells.items ++ merge_cells l.rises (drop l.i l.fields) (drop l.i l.earlier) (drop l.i l.later) ≡ merge_cells l.rises l.fields l.earlier l.later;
  room : AllHaveRoom (drop l.i l.fields) (drop l.i l.earlier) (drop l.i l.later);
}
