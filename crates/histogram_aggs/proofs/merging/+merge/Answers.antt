use Rattle.std.proofs.Common.{rules, ◌≡◌, ◌+◌, ◌<◌, suc, ◌++◌, length, get_or, ◌∙◌, sym, subst, refl, arith}
use Rattle.std.specs.Prelude.{min, slice_set}
use Rattle.std.specs.BTreeMap.{get}
use Rattle.std.specs.Ordering.{int_cmp}
use Rattle.search_filter.specs.Values.{value_cmp}
use Rattle.search_filter.specs.ValueLaws.{value_tied, whole_tied}
use Rattle.histogram_aggs.specs.declared.aggs.Agg.{out-Agg}
use Rattle.histogram_aggs.specs.declared.state.Node.{out-Node}
use Rattle.histogram_aggs.specs.Answers.{field_of}
use Rattle.histogram_aggs.specs.Seen.{seen}
use Rattle.histogram_aggs.specs.Stands.{IsBucketOf, Mixed, Stands}
use Rattle.histogram_aggs.specs.Tallies.{both_tallies}
use Rattle.histogram_aggs.proofs.LevelSteps.{mixed_first, mixed_step, mixed_last}
use Rattle.histogram_aggs.proofs.IncreaseSteps.{rises_nodes}
use Rattle.histogram_aggs.proofs.MergeSteps.{Joins, all_merged, bucket_both, joined_known, level_reached, merged_first, merged_step, metric_nodes, nothing_left, stands_at, times_nodes, values_nodes}
use Rattle.histogram_aggs.proofs.merging.+merge.Goals as goal

pub merge_bucket-returns : goal.merge_bucket-returns
merge_bucket-returns t c fields xs ys first second =
    bucket_both (Stands fields (seen c.args.below.now)) c.args.bucket.now.documents c.args.other.now.documents c.in_ok-bucket.field-0 c.args.bucket.now.below.items c.args.other.now.below.items c.merge_level.new.nodes.items xs ys c.in_ok-bucket.ensures (c.in_ok-merge_level.ensures fields xs ys) first second

pub join_buckets-returns : goal.join_buckets-returns
join_buckets-returns t c fields xs ys first second =
    joined_known (Stands fields (seen c.args.below.now)) c.in-Some.had c.args.other c.merge_bucket.new.bucket xs ys (c.in_ok-merge_bucket.ensures fields xs ys) (subst (λ o. IsBucketOf (Stands fields (seen c.args.below.now)) o xs) c.in-Some.is first) second

pub merge_level-loop-i-init : goal.merge_level-loop-i-init
merge_level-loop-i-init t c =
    (((refl, λ k d le. refl), (refl, λ k d le. refl)), λ fields xs ys first second. mixed_first fields (seen c.args.aggs.now) c.args.nodes.now.items xs (xs ++ ys) first)

pub merge_level-loop-i-preserved : goal.merge_level-loop-i-preserved
merge_level-loop-i-preserved t c =
    let i = c.loop-i.i in
    let more : suc i ≡ i + 1 = omega arith in
    let aggs_lt : i < length c.args.aggs.now = omega (arith, c.loop-i-test.true, c.min-i-end.ensures, c.min.ensures) in
    let nodes_lt : i < length c.loop-i.nodes.items = search rules in
    let others_lt : i < length c.args.others.now.items = search rules in
    let other = c.index_mut-in-loop-i.result.now in
    let here : other ≡ get_or c.loop-i.others.items i other = search rules in (
      search rules,
      λ fields xs ys first second. subst (λ n. Mixed fields (seen c.args.aggs.now) (slice_set c.loop-i.nodes.items i c.merge_one.new.node) n xs (xs ++ ys)) more
          (mixed_step fields c.args.aggs.now c.loop-i.nodes.items i c.index-aggs-i.result c.index_mut.result.now c.merge_one.new.node xs (xs ++ ys)
          aggs_lt nodes_lt c.index-aggs-i.is (search rules)
          (λ stood. c.in_ok-merge_one.ensures fields xs ys stood
          (stands_at fields c.args.aggs.now c.args.others.now.items i c.index-aggs-i.result other ys aggs_lt others_lt c.index-aggs-i.is (here ∙ c.loop-i.invariant.0.1.1 i other (omega arith)) second))
          (c.loop-i.invariant.1 fields xs ys first second)),
    )

pub merge_level-returns : goal.merge_level-returns
merge_level-returns t c fields xs ys first second =
    let aggs = c.args.aggs.now in
    let nodes = c.loop-i.nodes.items in
    let same = c.loop-i.invariant.0.0.0 in
    let inner : c.min.result ≡ min (length aggs) (length nodes) = search rules in
    let outer : c.min-i-end.result ≡ min c.min.result (length c.args.others.now.items) = search rules in
    mixed_last fields aggs nodes c.loop-i.i xs (xs ++ ys)
    (level_reached fields aggs c.args.others.now.items ys (length nodes) c.loop-i.i c.min.result c.min-i-end.result inner outer c.loop-i-test.false second)
    (c.loop-i.invariant.1 fields xs ys first second)

pub merge_one-returns-in_ok-tally-in-Metric-other : goal.merge_one-returns-in_ok-tally-in-Metric-other
unfolding out-Node out-Agg denote.Hole.Carrier.out
merge_one-returns-in_ok-tally-in-Metric-other t c =
    let both : c.in_ok-tally-in-Metric-other.field-0 ≡ both_tallies c.in-Metric.tally c.in-Metric-other.more = rw (← c.in-Metric.tally-is, ← c.in-Metric-other.more-is) c.in_ok-tally-in-Metric-other.ensures in
    rw (c.in-Metric.is, c.in-Metric-other.is)
    (λ fields xs ys first second. metric_nodes (Stands fields (seen (out-Agg c.args.agg.now).subs)) (out-Agg c.args.agg.now).kind (field_of fields (out-Agg c.args.agg.now).field) c.in-Metric.tally c.in-Metric-other.more c.in_ok-tally-in-Metric-other.field-0 xs ys both first second)

pub merge_one-returns-in_ok-merge_times-in-Times-other : goal.merge_one-returns-in_ok-merge_times-in-Times-other
unfolding out-Node out-Agg denote.Hole.Carrier.out
merge_one-returns-in_ok-merge_times-in-Times-other t c =
    rw (c.in-Times.is, c.in-Times-other.is)
    (λ fields xs ys first second. times_nodes (Stands fields (seen (out-Agg c.args.agg.now).subs)) (out-Agg c.args.agg.now).kind (field_of fields (out-Agg c.args.agg.now).field) c.in-Times.buckets c.in-Times-other.more c.merge_times.new.buckets xs ys
    (subst (λ subs. Joins int_cmp (Stands fields (seen subs)) c.in-Times.buckets c.in-Times-other.more c.merge_times.new.buckets) c.as_slice.ensures (rw (← c.in-Times.buckets-is, ← c.in-Times-other.more-is) (c.in_ok-merge_times-in-Times-other.ensures fields))) first second)

pub merge_one-returns-in_ok-merge_values-in-Values-other : goal.merge_one-returns-in_ok-merge_values-in-Values-other
unfolding out-Node out-Agg denote.Hole.Carrier.out
merge_one-returns-in_ok-merge_values-in-Values-other t c =
    rw (c.in-Values.is, c.in-Values-other.is)
    (λ fields xs ys first second. values_nodes (Stands fields (seen (out-Agg c.args.agg.now).subs)) (out-Agg c.args.agg.now).kind (field_of fields (out-Agg c.args.agg.now).field) c.in-Values.buckets c.in-Values-other.more c.merge_values.new.buckets xs ys
    (subst (λ subs. Joins value_cmp (Stands fields (seen subs)) c.in-Values.buckets c.in-Values-other.more c.merge_values.new.buckets) c.as_slice-in-Values-other.ensures (rw (← c.in-Values.buckets-is, ← c.in-Values-other.more-is) (c.in_ok-merge_values-in-Values-other.ensures fields))) first second)

pub merge_times-loop-start-init : goal.merge_times-loop-start-init
merge_times-loop-start-init t c fields xs ys first second k =
    merged_first (Stands fields (seen c.args.below.now)) (get int_cmp c.args.buckets.now k) (get int_cmp c.args.others.now k) (xs k) (ys k) (first k) (second k)

pub merge_times-loop-start-preserved-in_ok-insert : goal.merge_times-loop-start-preserved-in_ok-insert
merge_times-loop-start-preserved-in_ok-insert t c fields xs ys first second k =
    let level = Stands fields (seen c.args.below.now) in
    let start = c.in-Some.start in
    merged_step int_cmp whole_tied level (get int_cmp c.loop-start.buckets) (get int_cmp c.remove-had.new.self) (get int_cmp c.insert.new.self) (get int_cmp c.loop-start.others) (get int_cmp c.pop_first.new.self) start c.in-Some.other c.in_ok-bucket.bucket
    c.in-Some.ensures.value c.in-Some.ensures.updates.0 c.remove-had.ensures.updates.0 c.in_ok-insert.ensures.updates.0 xs ys
    (λ one two. c.in_ok-bucket.ensures fields (xs start) (ys start) (subst (λ o. IsBucketOf level o (xs start)) (sym c.remove-had.ensures.value) one) two) (c.loop-start.invariant fields xs ys first second) k

pub merge_times-loop-start-smaller : goal.merge_times-loop-start-smaller
merge_times-loop-start-smaller t c = search rules

pub merge_times-loop-start-preserved : goal.merge_times-loop-start-preserved
merge_times-loop-start-preserved t c fields xs ys first second k =
    let level = Stands fields (seen c.args.below.now) in
    let start = c.in-Some.start in
    merged_step int_cmp whole_tied level (get int_cmp c.loop-start.buckets) (get int_cmp c.remove-had.new.self) (get int_cmp c.insert.new.self) (get int_cmp c.loop-start.others) (get int_cmp c.pop_first.new.self) start c.in-Some.other c.in_ok-bucket.bucket
    c.in-Some.ensures.value c.in-Some.ensures.updates.0 c.remove-had.ensures.updates.0 c.in_ok-insert.ensures.updates.0 xs ys
    (λ one two. c.in_ok-bucket.ensures fields (xs start) (ys start) (subst (λ o. IsBucketOf level o (xs start)) (sym c.remove-had.ensures.value) one) two) (c.loop-start.invariant fields xs ys first second) k

pub merge_times-returns : goal.merge_times-returns
merge_times-returns t c fields xs ys first second =
    all_merged int_cmp (Stands fields (seen c.args.below.now)) c.loop-start.buckets c.loop-start.others xs ys (nothing_left c.loop-start.others.entries c.pop_first.result c.in_default.is c.pop_first.ensures.variant.1) (c.loop-start.invariant fields xs ys first second)

pub merge_values-loop-value-init : goal.merge_values-loop-value-init
merge_values-loop-value-init t c fields xs ys first second k =
    merged_first (Stands fields (seen c.args.below.now)) (get value_cmp c.args.buckets.now k) (get value_cmp c.args.others.now k) (xs k) (ys k) (first k) (second k)

pub merge_values-loop-value-preserved-in_ok-insert : goal.merge_values-loop-value-preserved-in_ok-insert
merge_values-loop-value-preserved-in_ok-insert t c fields xs ys first second k =
    let level = Stands fields (seen c.args.below.now) in
    let value = c.in-Some.value in
    merged_step value_cmp value_tied level (get value_cmp c.loop-value.buckets) (get value_cmp c.remove-had.new.self) (get value_cmp c.insert.new.self) (get value_cmp c.loop-value.others) (get value_cmp c.pop_first.new.self) value c.in-Some.other c.in_ok-bucket.bucket
    c.in-Some.ensures.value c.in-Some.ensures.updates.0 c.remove-had.ensures.updates.0 c.in_ok-insert.ensures.updates.0 xs ys
    (λ one two. c.in_ok-bucket.ensures fields (xs value) (ys value) (subst (λ o. IsBucketOf level o (xs value)) (sym c.remove-had.ensures.value) one) two) (c.loop-value.invariant fields xs ys first second) k

pub merge_values-loop-value-smaller : goal.merge_values-loop-value-smaller
merge_values-loop-value-smaller t c = search rules

pub merge_values-loop-value-preserved : goal.merge_values-loop-value-preserved
merge_values-loop-value-preserved t c fields xs ys first second k =
    let level = Stands fields (seen c.args.below.now) in
    let value = c.in-Some.value in
    merged_step value_cmp value_tied level (get value_cmp c.loop-value.buckets) (get value_cmp c.remove-had.new.self) (get value_cmp c.insert.new.self) (get value_cmp c.loop-value.others) (get value_cmp c.pop_first.new.self) value c.in-Some.other c.in_ok-bucket.bucket
    c.in-Some.ensures.value c.in-Some.ensures.updates.0 c.remove-had.ensures.updates.0 c.in_ok-insert.ensures.updates.0 xs ys
    (λ one two. c.in_ok-bucket.ensures fields (xs value) (ys value) (subst (λ o. IsBucketOf level o (xs value)) (sym c.remove-had.ensures.value) one) two) (c.loop-value.invariant fields xs ys first second) k

pub merge_values-returns : goal.merge_values-returns
merge_values-returns t c fields xs ys first second =
    all_merged value_cmp (Stands fields (seen c.args.below.now)) c.loop-value.buckets c.loop-value.others xs ys (nothing_left c.loop-value.others.entries c.pop_first.result c.in_default.is c.pop_first.ensures.variant.1) (c.loop-value.invariant fields xs ys first second)

pub merge_one-returns-in_ok-merge_rises-in-Rises-other : goal.merge_one-returns-in_ok-merge_rises-in-Rises-other
unfolding out-Node out-Agg denote.Hole.Carrier.out
merge_one-returns-in_ok-merge_rises-in-Rises-other t c =
    rw (c.in-Rises.is, c.in-Rises-other.is)
    (λ fields xs ys first second. rises_nodes (Stands fields (seen (out-Agg c.args.agg.now).subs)) (out-Agg c.args.agg.now).kind (field_of fields (out-Agg c.args.agg.now).field) c.in-Rises.rises c.in-Rises-other.more c.merge_rises.new.rises xs ys
    (rw (← c.in-Rises.rises-is, ← c.in-Rises-other.more-is) c.in_ok-merge_rises-in-Rises-other.ensures) first second)
