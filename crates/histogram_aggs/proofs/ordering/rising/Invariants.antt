use Rattle.std.proofs.Common.{◌≡◌, ◌++◌, reverse}
use Rattle.std.specs.BTreeMap.{btree_map_len}
use Rattle.histogram_aggs.proofs.ordering.rising.Given as goal

abbrev pub invariant-loop-entry : goal.invariant-loop-entry
invariant-loop-entry l = l.shown.items ++ reverse l.buckets.entries ≡ reverse l.initial.buckets.entries

abbrev pub decreases-loop-entry : goal.decreases-loop-entry
decreases-loop-entry l = btree_map_len l.buckets
