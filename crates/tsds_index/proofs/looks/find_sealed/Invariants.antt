use Rattle.std.proofs.Common.{◌≡◌, length}
use Rattle.tsds_index.specs.Answers.{row_at}
use Rattle.tsds_index.specs.Segments.{lists_in}
use Rattle.tsds_index.specs.Spread.{newest_first}
use Rattle.tsds_index.proofs.looks.find_sealed.Given as goal

abbrev pub invariant-loop-segment : goal.invariant-loop-segment
invariant-loop-segment l = row_at l.key l.time (newest_first (lists_in l.left)) ≡ row_at l.key l.time (newest_first (lists_in l.segments))

abbrev pub decreases-loop-segment : goal.decreases-loop-segment
decreases-loop-segment l = length l.left
