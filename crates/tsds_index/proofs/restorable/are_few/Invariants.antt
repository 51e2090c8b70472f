use Rattle.std.proofs.Common.{◌≡◌, ◌+◌, ◌≤◌, length}
use Rattle.row_cells.specs.Limits.{most_documents}
use Rattle.row_cells.specs.RowLists.{documents}
use Rattle.tsds_index.specs.Answers.{restored}
use Rattle.tsds_index.specs.Segments.{lists_in}
use Rattle.tsds_index.specs.Spread.{all_rows}
use Rattle.tsds_index.proofs.restorable.are_few.Given as goal

abbrev pub invariant-loop-segment : goal.invariant-loop-segment
invariant-loop-segment l = record {
  few : l.total ≤ most_documents;
  counted : l.total + documents (all_rows (restored (lists_in l.left))) ≡ documents (all_rows (restored (lists_in l.segments)));
}

abbrev pub decreases-loop-segment : goal.decreases-loop-segment
decreases-loop-segment l = length l.left
