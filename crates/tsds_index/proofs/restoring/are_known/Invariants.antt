use Rattle.std.proofs.Common.{length}
use Rattle.row_cells.specs.Each.{Each}
use Rattle.row_cells.specs.KeyedRows.{AreRowsOf}
use Rattle.tsds_index.proofs.restoring.are_known.Given as goal

abbrev pub invariant-loop-segment : goal.invariant-loop-segment
invariant-loop-segment l =
    Each (λ segment. AreRowsOf segment.schema segment.rows) l.left → Each (λ segment. AreRowsOf segment.schema segment.rows) l.segments

abbrev pub decreases-loop-segment : goal.decreases-loop-segment
decreases-loop-segment l = length l.left
