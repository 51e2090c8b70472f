use Rattle.std.proofs.Common.{take}
use Rattle.std.specs.List.{All}
use Rattle.column_block.specs.Cutting.{IsSize}
use Rattle.column_block.proofs.rows.are_sizes.Given as goal

abbrev pub invariant-loop-size : goal.invariant-loop-size
invariant-loop-size l = All IsSize (take l.size-index l.sizes)
