use Rattle.std.proofs.Common.{◌≡◌, ◌++◌, ◌≤◌, drop, length}
use Rattle.column_block.specs.Cutting.{cut, total}
use Rattle.column_block.proofs.rows.cut_into.Given as goal

abbrev pub invariant-loop-size : goal.invariant-loop-size
invariant-loop-size l = record {
  lists : l.lists.items ++ cut (drop l.size-index l.sizes) l.left ≡ cut l.sizes l.numbers;
  as_many : total (drop l.size-index l.sizes) ≤ length l.left;
}
