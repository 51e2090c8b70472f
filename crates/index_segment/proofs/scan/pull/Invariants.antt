use Rattle.std.proofs.Common.{◌≡◌, map, take}
use Rattle.column_block.specs.Ranges.{rows_between}
use Rattle.index_segment.proofs.scan.pull.Given as goal

abbrev pub invariant-loop-column : goal.invariant-loop-column
invariant-loop-column l = l.pulled.items ≡ map (rows_between l.from l.to) (take l.column-index l.columns)
