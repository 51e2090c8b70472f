use Rattle.std.proofs.Common.{◌≡◌, ◌*◌, ◌≤◌, take}
use Rattle.row_cells.specs.Limits.{longest_list}
use Rattle.column_block.specs.Cutting.{total}
use Rattle.column_block.proofs.rows.sum_of.Given as goal

abbrev pub invariant-loop-size : goal.invariant-loop-size
invariant-loop-size l = record {
  sum : l.sum ≡ total (take l.size-index l.sizes);
  few : l.sum ≤ longest_list * l.size-index;
}
