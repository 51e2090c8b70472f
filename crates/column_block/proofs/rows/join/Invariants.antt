use Rattle.std.proofs.Common.{◌≡◌, take}
use Rattle.packed_lists.specs.Lists.{joined}
use Rattle.column_block.proofs.rows.join.Given as goal

abbrev pub invariant-loop-list : goal.invariant-loop-list
invariant-loop-list l = l.numbers.items ≡ joined (take l.list-index l.lists)
