use Rattle.std.proofs.Common.{◌≡◌, drop}
use Rattle.synthetic_source.specs.Gathered.{seen_leaves}
use Rattle.synthetic_source.specs.Readings.{any_unread}
use Rattle.synthetic_source.proofs.reading.are_read.Given as goal

abbrev pub invariant-loop-leaf : goal.invariant-loop-leaf
invariant-loop-leaf l = any_unread l.kind (seen_leaves (drop l.leaf-index l.leaves)) ≡ any_unread l.kind (seen_leaves l.leaves)
