use Rattle.std.proofs.Common.{◌≡◌, ◌++◌, drop}
use Rattle.synthetic_source.specs.Gathered.{seen_leaves}
use Rattle.synthetic_source.specs.Readings.{AllValues, any_unread}
use Rattle.synthetic_source.specs.Rows.{readings_of}
use Rattle.synthetic_source.proofs.reading.push_readings.Given as goal

abbrev pub invariant-loop-leaf : goal.invariant-loop-leaf
invariant-loop-leaf l = record {
  unread : any_unread l.kind (seen_leaves (drop l.leaf-index l.leaves)) ≡ any_unread l.kind (seen_leaves l.leaves);
  so_far : l.values.items ++ readings_of l.kind (seen_leaves (drop l.leaf-index l.leaves)) ≡ l.initial.values.items ++ readings_of l.kind (seen_leaves l.leaves);
  fit : AllValues l.kind l.values.items;
}
