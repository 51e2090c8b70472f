use Rattle.std.proofs.Common.{◌≡◌, ◌≤◌, take, drop}
use Rattle.row_cells.specs.Limits.{most_documents}
use Rattle.row_cells.specs.RowLists.{documents}
use Rattle.index_segment.specs.Spelling.{counts_of}
use Rattle.index_segment.proofs.build.pack_counts.Given as goal

abbrev pub invariant-loop-row : goal.invariant-loop-row
invariant-loop-row l = record {
  counts : l.counts.items ≡ counts_of (take l.row-index l.rows);
  few : documents (drop l.row-index l.rows) ≤ most_documents;
}
