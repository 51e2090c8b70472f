use Rattle.std.proofs.Common.{◌≡◌, ◌++◌, drop}
use Rattle.index_segment.specs.Columns.{ArePackable}
use Rattle.index_segment.specs.Merging.{picked_columns, sides}
use Rattle.index_segment.proofs.pick.pick_columns.Given as goal

abbrev pub invariant-loop-place : goal.invariant-loop-place
invariant-loop-place l = record {
  whole : l.columns.items ++ picked_columns (sides l.turns) (drop l.place l.first) (drop l.place l.second) ≡ picked_columns (sides l.turns) l.first l.second;
  first : ArePackable (drop l.place l.first);
  second : ArePackable (drop l.place l.second);
  all : ArePackable (picked_columns (sides l.turns) (drop l.place l.first) (drop l.place l.second));
}
