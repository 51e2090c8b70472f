use Rattle.std.proofs.Common.{length}
use Rattle.fold_law.specs.Gauges.{merge_gauges}
use Rattle.index_segment.specs.Looks.{gauge_of as gauge_over, rows_within}
use Rattle.tsds_index.proofs.Gauged.{IsJoining}
use Rattle.tsds_index.proofs.gauges.with_rows.Given as goal

abbrev pub invariant-loop-row : goal.invariant-loop-row
invariant-loop-row l = IsJoining l.field l.key l.from l.to l.joined l.left (merge_gauges l.initial.joined (gauge_over l.field (rows_within l.key l.from l.to l.rows)))

abbrev pub decreases-loop-row : goal.decreases-loop-row
decreases-loop-row l = length l.left
