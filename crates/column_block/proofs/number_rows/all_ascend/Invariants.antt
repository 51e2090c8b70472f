use Rattle.std.proofs.Common.{take}
use Rattle.row_cells.specs.Each.{Each}
use Rattle.column_block.specs.Rules.{Ascend}
use Rattle.column_block.proofs.number_rows.all_ascend.Given as goal

abbrev pub invariant-loop-list : goal.invariant-loop-list
invariant-loop-list l = Each Ascend (take l.list-index l.lists)
