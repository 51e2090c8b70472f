use Rattle.std.proofs.Common.{◌≡◌, ◌++◌, ◌≤◌, length}
use Rattle.row_cells.specs.Limits.{most_documents}
use Rattle.row_cells.specs.RowLists.{AllFit, documents}
use Rattle.time_text.specs.Interval.{ms_of}
use Rattle.downsample_fold.specs.Joined.{joined}
use Rattle.downsample_fold.proofs.folding.fold_runs.Given as goal

abbrev pub invariant-loop-first : goal.invariant-loop-first
invariant-loop-first l = record {
  so_far : l.folded.items ++ joined l.schema (ms_of l.by) l.rest ≡ joined l.schema (ms_of l.by) l.rows;
  fit : AllFit l.schema l.rest;
  few : documents l.rest ≤ most_documents;
}

abbrev pub decreases-loop-first : goal.decreases-loop-first
decreases-loop-first l = length l.rest
