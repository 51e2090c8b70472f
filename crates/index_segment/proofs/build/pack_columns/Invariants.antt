use Rattle.std.proofs.Common.{◌≡◌, ◌++◌, drop}
use Rattle.index_segment.specs.Columns.{ArePackable, columns_from}
use Rattle.index_segment.proofs.build.pack_columns.Given as goal

abbrev pub invariant-loop-place : goal.invariant-loop-place
invariant-loop-place l = record {
  whole : l.columns.items ++ columns_from l.place (drop l.place l.forms) l.rows ≡ columns_from 0 l.forms l.rows;
  packable : ArePackable (columns_from l.place (drop l.place l.forms) l.rows);
}
