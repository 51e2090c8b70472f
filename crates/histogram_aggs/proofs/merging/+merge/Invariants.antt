use Rattle.std.proofs.Common.{◌++◌, List, ℤ}
use Rattle.std.specs.BTreeMap.{btree_map_len, get}
use Rattle.std.specs.Ordering.{int_cmp}
use Rattle.row_cells.specs.declared.scalars.Scalar.{Scalar}
use Rattle.row_cells.specs.declared.schemas.Field.{Field}
use Rattle.search_filter.specs.Values.{value_cmp}
use Rattle.histogram_aggs.specs.Merges.{Merged}
use Rattle.histogram_aggs.specs.Samples.{Sample}
use Rattle.histogram_aggs.specs.Seen.{seen}
use Rattle.histogram_aggs.specs.Stands.{MarksStand, Mixed, Stands}
use Rattle.histogram_aggs.proofs.merging.+merge.Given as goal

-- the nodes so far stand for the rows of both
abbrev pub invariant-merge_level-loop-i : goal.invariant-merge_level-loop-i
invariant-merge_level-loop-i l =
    goal.unvisited-merge_level-loop-i l
    × ((fields : List Field) (xs ys : List Sample) → Stands fields (seen l.aggs) l.initial.nodes.items xs → Stands fields (seen l.aggs) l.initial.others.items ys →
    Mixed fields (seen l.aggs) l.nodes.items l.i xs (xs ++ ys))

-- each bucket so far is of the rows of both
abbrev pub invariant-merge_times-loop-start : goal.invariant-merge_times-loop-start
invariant-merge_times-loop-start l =
    (fields : List Field) (xs ys : ℤ → List Sample) → MarksStand int_cmp (Stands fields (seen l.below)) l.initial.buckets xs → MarksStand int_cmp (Stands fields (seen l.below)) l.initial.others ys →
    (t : ℤ) → Merged (Stands fields (seen l.below)) (get int_cmp l.buckets t) (get int_cmp l.others t) (xs t) (ys t)

abbrev pub decreases-merge_times-loop-start : goal.decreases-merge_times-loop-start
decreases-merge_times-loop-start l = btree_map_len l.others

abbrev pub invariant-merge_values-loop-value : goal.invariant-merge_values-loop-value
invariant-merge_values-loop-value l =
    (fields : List Field) (xs ys : Scalar → List Sample) → MarksStand value_cmp (Stands fields (seen l.below)) l.initial.buckets xs → MarksStand value_cmp (Stands fields (seen l.below)) l.initial.others ys →
    (v : Scalar) → Merged (Stands fields (seen l.below)) (get value_cmp l.buckets v) (get value_cmp l.others v) (xs v) (ys v)

abbrev pub decreases-merge_values-loop-value : goal.decreases-merge_values-loop-value
decreases-merge_values-loop-value l = btree_map_len l.others
