use Rattle.std.proofs.Common.{◌≡◌, take}
use Rattle.column_block.specs.Worded.{worded}
use Rattle.column_block.proofs.ordinals.copy_rows.Given as goal

abbrev pub invariant-loop-row : goal.invariant-loop-row
invariant-loop-row l = l.lists.items ≡ worded l.texts (take l.row-index l.rows)
