use Rattle.std.proofs.Common.{◌≡◌, take}
use Rattle.column_block.specs.Spelling.{lengths}
use Rattle.column_block.proofs.rows.sizes_of.Given as goal

abbrev pub invariant-loop-list : goal.invariant-loop-list
invariant-loop-list l = l.sizes.items ≡ lengths (take l.list-index l.lists)
