use Rattle.std.proofs.Common.{◌≡◌, ◌+◌, ◌-◌, ◌++◌, List, ℤ, pos, ◌+ℤ◌, map, take, drop, reverse}
use Rattle.std.specs.BTreeMap.{btree_map_len, keys}
use Rattle.std.specs.Ordering.{int_cmp}
use Rattle.time_text.specs.Interval.{ms_of}
use Rattle.row_cells.specs.declared.scalars.Scalar.{Scalar}
use Rattle.row_cells.specs.Each.{Each}
use Rattle.histogram_aggs.specs.Answers.{results_of, start_members, value_members}
use Rattle.histogram_aggs.specs.Buckets.{starts_from}
use Rattle.histogram_aggs.specs.Samples.{Sample}
use Rattle.histogram_aggs.specs.Seen.{seen}
use Rattle.histogram_aggs.specs.Stands.{BucketStands, MarksStand, Stands}
use Rattle.histogram_aggs.specs.Told.{IsEntryOf, StandBehind, buckets_of, of_least, outs_of, results_below}
use Rattle.histogram_aggs.proofs.answers.+answer.Given as goal

-- what is told, and then of the rest, is what is told of all
abbrev pub invariant-answer_level-loop-i : goal.invariant-answer_level-loop-i
invariant-answer_level-loop-i l =
    goal.unvisited-answer_level-loop-i l
    × ((xs : List Sample) → Stands l.fields (seen l.aggs) l.initial.nodes.items xs →
    (l.members.items ++ (results_of (seen (drop l.i l.aggs)) l.fields xs).members ≡ l.initial.members.items ++ (results_of (seen l.aggs) l.fields xs).members)
    × (l.initial.room + (results_of (seen (drop l.i l.aggs)) l.fields xs).buckets ≡ l.room + (results_of (seen l.aggs) l.fields xs).buckets))

abbrev pub invariant-answer_behind-loop-done : goal.invariant-answer_behind-loop-done
invariant-answer_behind-loop-done l =
    (of_start : ℤ → List Sample) → StandBehind (Stands l.fields (seen l.below)) l.start l.initial.buckets of_start →
    let below = results_below l.fields l.below in
    let n = ms_of l.by in
    let rest = starts_from (l.at +ℤ pos n) n (l.number - l._done) in
    let all = starts_from (l.start +ℤ pos n) n l.number in
    StandBehind (Stands l.fields (seen l.below)) l.at l.buckets of_start
    × (l.outs.items ++ outs_of below start_members of_start rest ≡ l.initial.outs.items ++ outs_of below start_members of_start all)
    × (l.initial.room + buckets_of below of_start rest ≡ l.room + buckets_of below of_start all)

abbrev pub invariant-answer_filled-loop-start : goal.invariant-answer_filled-loop-start
invariant-answer_filled-loop-start l =
    (of_start : ℤ → List Sample) → MarksStand int_cmp (Stands l.fields (seen l.below)) l.initial.buckets of_start →
    let below = results_below l.fields l.below in
    let rest = of_least l.least of_start (keys l.buckets) in
    let all = of_least l.least of_start (keys l.initial.buckets) in
    Each (λ e. BucketStands (Stands l.fields (seen l.below)) e.1 (of_start e.0)) l.buckets.entries
    × (l.outs.items ++ outs_of below start_members of_start rest ≡ l.initial.outs.items ++ outs_of below start_members of_start all)
    × (l.initial.room + buckets_of below of_start rest ≡ l.room + buckets_of below of_start all)

abbrev pub decreases-answer_filled-loop-start : goal.decreases-answer_filled-loop-start
decreases-answer_filled-loop-start l = btree_map_len l.buckets

abbrev pub invariant-answer_kept-loop-left : goal.invariant-answer_kept-loop-left
invariant-answer_kept-loop-left l =
    (drop l.left (reverse l.shown.items) ≡ drop l.size (reverse l.initial.shown.items))
    × ((of_value : Scalar → List Sample) → Each (IsEntryOf (Stands l.fields (seen l.below)) of_value) l.initial.shown.items →
    let below = results_below l.fields l.below in
    let rest = take l.left (map (λ e. e.0) (reverse l.shown.items)) in
    let all = take l.size (map (λ e. e.0) (reverse l.initial.shown.items)) in
    Each (IsEntryOf (Stands l.fields (seen l.below)) of_value) l.shown.items
    × (l.outs.items ++ outs_of below value_members of_value rest ≡ l.initial.outs.items ++ outs_of below value_members of_value all)
    × (l.initial.room + buckets_of below of_value rest ≡ l.room + buckets_of below of_value all))

abbrev pub decreases-answer_kept-loop-left : goal.decreases-answer_kept-loop-left
decreases-answer_kept-loop-left l = l.left
