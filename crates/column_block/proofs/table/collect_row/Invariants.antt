use Rattle.std.proofs.Common.{◌++◌, take}
use Rattle.column_block.specs.Worded.{HaveSame}
use Rattle.column_block.proofs.table.collect_row.Given as goal

abbrev pub invariant-loop-text : goal.invariant-loop-text
invariant-loop-text l = HaveSame l.set.keys (l.initial.set.keys ++ take l.text-index l.row)
