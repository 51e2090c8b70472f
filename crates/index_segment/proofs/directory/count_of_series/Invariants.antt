use Rattle.std.proofs.Common.{◌≡◌, ◌+◌, drop}
use Rattle.index_segment.specs.Directory.{row_keys, same_in_front}
use Rattle.index_segment.proofs.directory.count_of_series.Given as goal

abbrev pub invariant-loop-row : goal.invariant-loop-row
invariant-loop-row l = record {
  count : l.count ≡ l.row-index;
  rest : l.count + same_in_front l.key (row_keys (drop l.row-index l.rows)) ≡ same_in_front l.key (row_keys l.rows);
}
