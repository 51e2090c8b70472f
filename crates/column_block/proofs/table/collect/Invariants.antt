use Rattle.std.proofs.Common.{take}
use Rattle.packed_lists.specs.Lists.{joined}
use Rattle.column_block.specs.Worded.{HaveSame}
use Rattle.column_block.proofs.table.collect.Given as goal

abbrev pub invariant-loop-list : goal.invariant-loop-list
invariant-loop-list l = HaveSame l.set.keys (joined (take l.list-index l.lists))
