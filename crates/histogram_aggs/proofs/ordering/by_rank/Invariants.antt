use Rattle.std.proofs.Common.{◌≡◌, ◌++◌, map, reverse}
use Rattle.std.specs.BTreeMap.{btree_map_len}
use Rattle.histogram_aggs.specs.Told.{entry_of}
use Rattle.histogram_aggs.proofs.ordering.by_rank.Given as goal

abbrev pub invariant-loop-key : goal.invariant-loop-key
invariant-loop-key l = l.shown.items ++ reverse (map entry_of l.ranks.entries) ≡ reverse (map entry_of l.initial.ranks.entries)

abbrev pub decreases-loop-key : goal.decreases-loop-key
decreases-loop-key l = btree_map_len l.ranks
