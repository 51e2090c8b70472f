use Rattle.std.proofs.Common.{◌≡◌, ◌+◌, length}
use Rattle.index_segment.specs.Directory.{keys_of}
use Rattle.tsds_index.specs.Spread.{rows_of}
use Rattle.tsds_index.proofs.index.TsdsIndex.series_count.Given as goal

abbrev pub invariant-loop-key : goal.invariant-loop-key
invariant-loop-key l = l.count + length l.walk.ahead ≡ length (keys_of (rows_of l.self))

abbrev pub decreases-loop-key : goal.decreases-loop-key
decreases-loop-key l = length l.walk.ahead
