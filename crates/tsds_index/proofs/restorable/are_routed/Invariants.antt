use Rattle.std.proofs.Common.{◌≡◌, ◌+◌, ◌↔◌, length}
use Rattle.tsds_index.specs.Answers.{AreRoutedFrom}
use Rattle.tsds_index.specs.Segments.{lists_in}
use Rattle.tsds_index.proofs.restorable.are_routed.Given as goal

abbrev pub invariant-loop-segment : goal.invariant-loop-segment
invariant-loop-segment l = record {
  counted : l.shard + length l.left ≡ length l.segments;
  same : AreRoutedFrom l.schema (length l.segments) l.shard (lists_in l.left) ↔ AreRoutedFrom l.schema (length l.segments) 0 (lists_in l.segments);
}

abbrev pub decreases-loop-segment : goal.decreases-loop-segment
decreases-loop-segment l = length l.left
