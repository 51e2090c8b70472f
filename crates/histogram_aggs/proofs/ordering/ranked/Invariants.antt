use Rattle.std.proofs.Common.{◌≡◌, ◌++◌, List, map}
use Rattle.std.specs.BTreeMap.{btree_map_len}
use Rattle.row_cells.specs.declared.scalars.Scalar.{Scalar}
use Rattle.row_cells.specs.Each.{Each}
use Rattle.histogram_aggs.specs.declared.state.Bucket.{Bucket}
use Rattle.histogram_aggs.specs.Told.{by_documents, entry_of}
use Rattle.histogram_aggs.proofs.OrderSteps.{IsRanked}
use Rattle.histogram_aggs.proofs.ordering.ranked.Given as goal

-- the buckets that were taken off are ranked
abbrev pub invariant-loop-key : goal.invariant-loop-key
invariant-loop-key l =
    (taken : List (Scalar × Bucket)) × (l.buckets.entries ++ taken ≡ l.initial.buckets.entries) × (map entry_of l.ranks.entries ≡ by_documents taken) × Each IsRanked l.ranks.entries

abbrev pub decreases-loop-key : goal.decreases-loop-key
decreases-loop-key l = btree_map_len l.buckets
