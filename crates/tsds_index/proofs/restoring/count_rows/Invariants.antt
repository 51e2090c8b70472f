use Rattle.std.proofs.Common.{◌≡◌, ◌+◌, length}
use Rattle.tsds_index.specs.Answers.{restored}
use Rattle.tsds_index.specs.Segments.{lists_in}
use Rattle.tsds_index.specs.Spread.{all_rows}
use Rattle.tsds_index.proofs.restoring.count_rows.Given as goal

abbrev pub invariant-loop-segment : goal.invariant-loop-segment
invariant-loop-segment l = l.total + length (all_rows (restored (lists_in l.left))) ≡ length (all_rows (restored (lists_in l.segments)))

abbrev pub decreases-loop-segment : goal.decreases-loop-segment
decreases-loop-segment l = length l.left
