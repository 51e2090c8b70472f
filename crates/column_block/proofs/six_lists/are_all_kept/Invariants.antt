use Rattle.std.proofs.Common.{take}
use Rattle.row_cells.specs.Each.{Each}
use Rattle.column_block.specs.Rules.{AreParts}
use Rattle.column_block.proofs.six_lists.are_all_kept.Given as goal

abbrev pub invariant-loop-part : goal.invariant-loop-part
invariant-loop-part l = Each AreParts (take l.part-index l.parts)
