use Rattle.std.proofs.Common.{◌≡◌, ◌+◌, ◌≤◌, ◌++◌, drop}
use Rattle.row_cells.specs.Limits.{most_documents}
use Rattle.index_segment.specs.Directory.{starts_from}
use Rattle.index_segment.specs.Merging.{firsts, joint_sizes, seconds}
use Rattle.index_segment.specs.Spelling.{counted}
use Rattle.index_segment.proofs.shares.directory_of_joined.Given as goal

abbrev pub invariant-loop-counts : goal.invariant-loop-counts
invariant-loop-counts l = record {
  few : l.start + (firsts (drop l.counts-index l.fn.joined.rows) + seconds (drop l.counts-index l.fn.joined.rows)) ≤ most_documents;
  starts : l.starts.items ++ starts_from l.start (joint_sizes (drop l.counts-index l.fn.joined.rows)) ≡ starts_from 0 (joint_sizes l.fn.joined.rows);
  sizes : l.sizes.items ++ counted (joint_sizes (drop l.counts-index l.fn.joined.rows)) ≡ counted (joint_sizes l.fn.joined.rows);
}
