use Rattle.std.proofs.Common.{◌≡◌, ◌+◌, ◌^◌, ◌≤◌, length}
use Rattle.index_segment.specs.Looks.{rows_within}
use Rattle.tsds_index.specs.Segments.{lists_in}
use Rattle.tsds_index.specs.Spread.{newest_first}
use Rattle.tsds_index.proofs.counts.count_sealed.Given as goal

abbrev pub invariant-loop-segment : goal.invariant-loop-segment
invariant-loop-segment l = record {
  counted : l.count + length (rows_within l.key l.from l.to (newest_first (lists_in l.left))) ≡ l.initial.count + length (rows_within l.key l.from l.to (newest_first (lists_in l.segments)));
  few : l.count + length (newest_first (lists_in l.left)) ≤ 2 ^ 32;
}

abbrev pub decreases-loop-segment : goal.decreases-loop-segment
decreases-loop-segment l = length l.left
