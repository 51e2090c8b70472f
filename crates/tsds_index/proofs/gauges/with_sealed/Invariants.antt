use Rattle.std.proofs.Common.{length}
use Rattle.fold_law.specs.Gauges.{merge_gauges}
use Rattle.row_cells.specs.Each.{Each}
use Rattle.index_segment.specs.Looks.{IsGaugeAt, gauge_of as gauge_over, rows_within}
use Rattle.tsds_index.specs.Segments.{lists_in}
use Rattle.tsds_index.specs.Spread.{newest_first}
use Rattle.tsds_index.proofs.Gauged.{IsJoining}
use Rattle.tsds_index.proofs.gauges.with_sealed.Given as goal

abbrev pub invariant-loop-segment : goal.invariant-loop-segment
invariant-loop-segment l = record {
  fields : Each (λ segment. IsGaugeAt segment.schema.fields l.field) l.left;
  joining : IsJoining l.field l.key l.from l.to l.joined (newest_first (lists_in l.left)) (merge_gauges l.initial.joined (gauge_over l.field (rows_within l.key l.from l.to (newest_first (lists_in l.segments)))));
}

abbrev pub decreases-loop-segment : goal.decreases-loop-segment
decreases-loop-segment l = length l.left
