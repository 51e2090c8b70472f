use Rattle.std.proofs.Common.{◌≡◌, ◌+◌, ◌++◌, length, map}
use Rattle.index_segment.specs.Directory.{row_keys, runs_of, starts_from}
use Rattle.index_segment.specs.Spelling.{counted}
use Rattle.index_segment.proofs.directory.directory_of.Given as goal

abbrev pub invariant-loop-row : goal.invariant-loop-row
invariant-loop-row l =
    let left = runs_of (row_keys l.left) in
    let all = runs_of (row_keys l.fn.rows) in
    record {
      within : l.start + length l.left ≡ length l.fn.rows;
      keys : l.keys.items ++ map (λ run. run.key) left ≡ map (λ run. run.key) all;
      starts : l.starts.items ++ starts_from l.start (map (λ run. run.size) left) ≡ starts_from 0 (map (λ run. run.size) all);
      sizes : l.sizes.items ++ counted (map (λ run. run.size) left) ≡ counted (map (λ run. run.size) all);
    }

abbrev pub decreases-loop-row : goal.decreases-loop-row
decreases-loop-row l = length l.left
