use Rattle.std.proofs.Common.{rules, FitsSigned, sum_by, ◌≡◌, ◌+◌, ◌-◌, ◌<◌, ◌≤◌, ◌<ℤ◌, ◌++◌, ◌∷◌, [], ◌∙◌, ap, sym, subst, refl, arith, suc, pos, ◌+ℤ◌, ℤ, List, length, take, drop, reverse, get_or, Some, inl, inr}
use Rattle.std.specs.Prelude.{IfOk, IfErr}
use Rattle.std.specs.BTreeMap.{get, keys}
use Rattle.std.specs.Cmp.{int_cmp_total}
use Rattle.std.specs.Option.{option_copied}
use Rattle.std.specs.Ordering.{int_cmp}
use Rattle.std.specs.Int.{w128}
use Rattle.std.proofs.lemmas.Int.{to_z-of_z}
use Rattle.time_text.specs.Interval.{ms_of}
use Rattle.row_cells.specs.declared.scalars.Scalar.{Scalar}
use Rattle.row_cells.specs.Each.{Each}
use Rattle.search_filter.specs.ValueLaws.{whole_tied}
use Rattle.histogram_aggs.specs.declared.state.Bucket.{out-Bucket}
use Rattle.histogram_aggs.specs.declared.state.Node.{out-Node, out-roll-Node}
use Rattle.histogram_aggs.specs.declared.state.Node.TheOpen.{Node-F}
use Rattle.histogram_aggs.specs.declared.state.Node.TheVariants.{rolls-Metric, rolls-Times, rolls-Values, rolls-Rises}
use Rattle.histogram_aggs.specs.Answers.{Placed, bucket_count, bucket_of, histogram_answer, histogram_tree, results_of, start_members, terms_answer, terms_object, value_members}
use Rattle.histogram_aggs.specs.Buckets.{in_bucket, starts_between, starts_from, with_value}
use Rattle.histogram_aggs.specs.Samples.{Sample}
use Rattle.histogram_aggs.specs.Seen.{seen}
use Rattle.histogram_aggs.specs.Stands.{BucketStands, IsBucketOf, MarksStand, OneStands, Stands, TimesStand, ValuesStand}
use Rattle.histogram_aggs.specs.Told.{AreBucketsTold, IsBucketTold, IsEntryOf, IsStop, IsTold, answer_one, buckets_of, of_least, outs_of, results_below}
use Rattle.histogram_aggs.proofs.IncreaseSteps.{increase_answered}
use Rattle.histogram_aggs.proofs.AnswerSteps.{behind_done, behind_more, behind_stopped, copied, dropped, err_then, err_told, filled_more, filled_passed, filled_stopped, first_stopped, first_told, histogram_answered, kept_more, kept_stopped, later_stopped, less_one, level_done, level_stopped, level_told, metric_answered, ok_then, on_ok_then, shown_between, shown_least, terms_answered, times_told, each_shown, marks_each, values_in, values_stopped, values_told}
use Rattle.histogram_aggs.proofs.KeySteps.{keys_of_times}
use Rattle.histogram_aggs.proofs.LevelSteps.{min_reached}
use Rattle.histogram_aggs.proofs.ToldSteps.{stands_at, stands_length}
use Rattle.histogram_aggs.proofs.answers.+answer.Goals as goal
use Rattle.histogram_aggs.proofs.answers.+answer.Goals.{answer_times-then-least-eq0+in_ok-answer_all, answer_times-else-least-eq0+in_ok-answer_filled}

-- ---- a level

pub answer_level-loop-i-preserved : goal.answer_level-loop-i-preserved
answer_level-loop-i-preserved t c =
    let i = c.loop-i.i in
    let aggs = c.args.aggs.now in
    let node = c.index_mut.result.now in
    let lt : i < length aggs = omega (arith, c.loop-i-test.true, c.min-i-end.ensures) in
    let lt_loop : i < length c.loop-i.nodes.items = search rules in
    let lt_nodes : i < length c.args.nodes.now.items = subst (λ n. i < n) c.loop-i.invariant.0.0 lt_loop in
    let here : node ≡ get_or c.loop-i.nodes.items i node = search rules in
    let at : node ≡ get_or c.args.nodes.now.items i node = here ∙ c.loop-i.invariant.0.1 i node (omega arith) in (
      search rules,
      λ xs stands. level_told c.args.fields.now aggs i c.index-aggs-i.result xs c.in_ok-value.value c.loop-i.room c.answer_one.new.room c.args.room.now (results_of (seen aggs) c.args.fields.now xs).buckets c.loop-i.members.items c.put_named.new.members.items
          (c.args.members.now.items ++ (results_of (seen aggs) c.args.fields.now xs).members) lt c.index-aggs-i.is
          (c.in_ok-value.ensures.ok xs (stands_at c.args.fields.now aggs c.args.nodes.now.items i c.index-aggs-i.result node xs lt lt_nodes c.index-aggs-i.is at stands)) c.in_ok-put_named.ensures (c.loop-i.invariant.1 xs stands),
    )

pub answer_level-returns-in_err-value-clause-err : goal.answer_level-returns-in_err-value-clause-err
answer_level-returns-in_err-value-clause-err t c =
    let i = c.loop-i.i in
    let aggs = c.args.aggs.now in
    let node = c.index_mut.result.now in
    let lt : i < length aggs = omega (arith, c.loop-i-test.true, c.min-i-end.ensures) in
    let lt_loop : i < length c.loop-i.nodes.items = search rules in
    let lt_nodes : i < length c.args.nodes.now.items = subst (λ n. i < n) c.loop-i.invariant.0.0 lt_loop in
    let here : node ≡ get_or c.loop-i.nodes.items i node = search rules in
    let at : node ≡ get_or c.args.nodes.now.items i node = here ∙ c.loop-i.invariant.0.1 i node (omega arith) in
    err_told (λ e. (xs : List Sample) → Stands c.args.fields.now (seen aggs) c.args.nodes.now.items xs → IsStop c.args.room.now (results_of (seen aggs) c.args.fields.now xs).buckets e)
    c.from_residual.result c.in_err-value.field-0.0 c.from_residual.ensures.1
    (λ xs stands. level_stopped c.args.fields.now aggs i c.index-aggs-i.result xs c.loop-i.room c.args.room.now (results_of (seen aggs) c.args.fields.now xs).buckets c.in_err-value.field-0.0 lt c.index-aggs-i.is (c.loop-i.invariant.1 xs stands).1
    (c.in_err-value.ensures.err xs (stands_at c.args.fields.now aggs c.args.nodes.now.items i c.index-aggs-i.result node xs lt lt_nodes c.index-aggs-i.is at stands)))

pub answer_level-returns-clause-ok : goal.answer_level-returns-clause-ok
answer_level-returns-clause-ok t c xs stands =
    let i = c.loop-i.i in
    let aggs = c.args.aggs.now in
    let same = stands_length c.args.fields.now aggs c.args.nodes.now.items xs stands in
    let past : length aggs ≤ i = elim (min_reached (length aggs) (length c.args.nodes.now.items) i c.min-i-end.result (search rules) c.loop-i-test.false) [ inl is ↦ is | inr is ↦ subst (λ n. n ≤ i) same is ] in
    level_done c.args.fields.now aggs i xs c.loop-i.room c.args.room.now (results_of (seen aggs) c.args.fields.now xs).buckets c.loop-i.members.items (c.args.members.now.items ++ (results_of (seen aggs) c.args.fields.now xs).members) past (c.loop-i.invariant.1 xs stands)

-- ---- one aggregation

pub answer_one-returns-in_ok-out-in-Metric-clause-ok : goal.answer_one-returns-in_ok-out-in-Metric-clause-ok
answer_one-returns-in_ok-out-in-Metric-clause-ok t c xs stands =
    metric_answered c.args.fields.now c.args.agg.now c.args.node.now (option_copied c.field_at.result) _ xs c.args.room.now c.in_ok-out-in-Metric.out (ap out-Node (c.in-Metric.is ∙ sym (rolls-Metric c.in-Metric.tally)) ∙ (out-roll-Node (Node-F.Metric c.in-Metric.tally) ∙ ap Node-F.Metric (sym c.in-Metric.tally-is))) (copied c.field_at.result ∙ c.field_at.ensures) c.in_ok-out-in-Metric.ensures stands

pub answer_one-returns-in_ok-out-in-Rises-clause-ok : goal.answer_one-returns-in_ok-out-in-Rises-clause-ok
answer_one-returns-in_ok-out-in-Rises-clause-ok t c xs stands =
    increase_answered c.args.fields.now c.args.agg.now c.args.node.now _ xs c.args.room.now c.in_ok-out-in-Rises.out (ap out-Node (c.in-Rises.is ∙ sym (rolls-Rises c.in-Rises.rises)) ∙ (out-roll-Node (Node-F.Rises c.in-Rises.rises) ∙ ap Node-F.Rises (sym c.in-Rises.rises-is))) c.in_ok-out-in-Rises.ensures stands

pub answer_one-returns-in-DateHistogram-clause-ok : goal.answer_one-returns-in-DateHistogram-clause-ok
answer_one-returns-in-DateHistogram-clause-ok t c =
    ok_then (λ out. (f : Placed) (xs : List Sample) → TimesStand (Stands c.args.fields.now (seen c.as_slice-subs.result.now)) (ms_of c.in-DateHistogram.interval) c.in-Times.buckets xs
    → IsTold (histogram_answer (results_below c.args.fields.now c.as_slice-subs.result.now) (ms_of c.in-DateHistogram.interval) c.in-DateHistogram.min_doc_count (Some f) xs) c.args.room.now c.answer_times.new.room out)
    (λ out. (xs : List Sample) → OneStands c.args.fields.now c.args.agg.now c.args.node.now xs → IsTold (answer_one c.args.fields.now c.args.agg.now xs) c.args.room.now c.answer_times.new.room out) c.answer_times.result
    (λ out told xs. histogram_answered (λ a. IsTold a c.args.room.now c.answer_times.new.room out) c.args.fields.now c.args.agg.now c.args.node.now c.as_slice-subs.result.now c.in-DateHistogram.interval c.in-DateHistogram.min_doc_count c.in-Times.buckets xs
    (ap out-Node (c.in-Times.is ∙ sym (rolls-Times c.in-Times.buckets)) ∙ out-roll-Node (Node-F.Times c.in-Times.buckets)) c.in-DateHistogram.is c.as_slice-subs.ensures told)
    (subst (λ m. IfOk c.answer_times.result (λ out. (f : Placed) (xs : List Sample) → TimesStand (Stands c.args.fields.now (seen c.as_slice-subs.result.now)) (ms_of c.in-DateHistogram.interval) m xs
    → IsTold (histogram_answer (results_below c.args.fields.now c.as_slice-subs.result.now) (ms_of c.in-DateHistogram.interval) c.in-DateHistogram.min_doc_count (Some f) xs) c.args.room.now c.answer_times.new.room out)) c.in-Times.buckets-is c.answer_times.ensures.ok)

pub answer_one-returns-in-DateHistogram-clause-err : goal.answer_one-returns-in-DateHistogram-clause-err
answer_one-returns-in-DateHistogram-clause-err t c =
    err_then (λ e. (f : Placed) (xs : List Sample) → TimesStand (Stands c.args.fields.now (seen c.as_slice-subs.result.now)) (ms_of c.in-DateHistogram.interval) c.in-Times.buckets xs
    → IsStop c.args.room.now (histogram_answer (results_below c.args.fields.now c.as_slice-subs.result.now) (ms_of c.in-DateHistogram.interval) c.in-DateHistogram.min_doc_count (Some f) xs).buckets e)
    (λ e. (xs : List Sample) → OneStands c.args.fields.now c.args.agg.now c.args.node.now xs → IsStop c.args.room.now (answer_one c.args.fields.now c.args.agg.now xs).buckets e) c.answer_times.result
    (λ e stop xs. histogram_answered (λ a. IsStop c.args.room.now a.buckets e) c.args.fields.now c.args.agg.now c.args.node.now c.as_slice-subs.result.now c.in-DateHistogram.interval c.in-DateHistogram.min_doc_count c.in-Times.buckets xs
    (ap out-Node (c.in-Times.is ∙ sym (rolls-Times c.in-Times.buckets)) ∙ out-roll-Node (Node-F.Times c.in-Times.buckets)) c.in-DateHistogram.is c.as_slice-subs.ensures stop)
    (subst (λ m. IfErr c.answer_times.result (λ e. (f : Placed) (xs : List Sample) → TimesStand (Stands c.args.fields.now (seen c.as_slice-subs.result.now)) (ms_of c.in-DateHistogram.interval) m xs
    → IsStop c.args.room.now (histogram_answer (results_below c.args.fields.now c.as_slice-subs.result.now) (ms_of c.in-DateHistogram.interval) c.in-DateHistogram.min_doc_count (Some f) xs).buckets e)) c.in-Times.buckets-is c.answer_times.ensures.err)

pub answer_one-returns-in-Terms-clause-ok : goal.answer_one-returns-in-Terms-clause-ok
answer_one-returns-in-Terms-clause-ok t c =
    ok_then (λ out. (f : Placed) (xs : List Sample) → ValuesStand (Stands c.args.fields.now (seen c.as_slice-subs-in-Terms.result.now)) f.field.role f.place c.in-Values.buckets xs
    → IsTold (terms_answer (results_below c.args.fields.now c.as_slice-subs-in-Terms.result.now) c.in-Terms.size c.in-Terms.by_key (Some f) xs) c.args.room.now c.answer_values.new.room out)
    (λ out. (xs : List Sample) → OneStands c.args.fields.now c.args.agg.now c.args.node.now xs → IsTold (answer_one c.args.fields.now c.args.agg.now xs) c.args.room.now c.answer_values.new.room out) c.answer_values.result
    (λ out told xs. terms_answered (λ a. IsTold a c.args.room.now c.answer_values.new.room out) c.args.fields.now c.args.agg.now c.args.node.now c.as_slice-subs-in-Terms.result.now c.in-Terms.size c.in-Terms.by_key c.in-Values.buckets xs
    (ap out-Node (c.in-Values.is ∙ sym (rolls-Values c.in-Values.buckets)) ∙ out-roll-Node (Node-F.Values c.in-Values.buckets)) c.in-Terms.is c.as_slice-subs-in-Terms.ensures told)
    (subst (λ m. IfOk c.answer_values.result (λ out. (f : Placed) (xs : List Sample) → ValuesStand (Stands c.args.fields.now (seen c.as_slice-subs-in-Terms.result.now)) f.field.role f.place m xs
    → IsTold (terms_answer (results_below c.args.fields.now c.as_slice-subs-in-Terms.result.now) c.in-Terms.size c.in-Terms.by_key (Some f) xs) c.args.room.now c.answer_values.new.room out)) c.in-Values.buckets-is c.answer_values.ensures.ok)

pub answer_one-returns-in-Terms-clause-err : goal.answer_one-returns-in-Terms-clause-err
answer_one-returns-in-Terms-clause-err t c =
    err_then (λ e. (f : Placed) (xs : List Sample) → ValuesStand (Stands c.args.fields.now (seen c.as_slice-subs-in-Terms.result.now)) f.field.role f.place c.in-Values.buckets xs
    → IsStop c.args.room.now (terms_answer (results_below c.args.fields.now c.as_slice-subs-in-Terms.result.now) c.in-Terms.size c.in-Terms.by_key (Some f) xs).buckets e)
    (λ e. (xs : List Sample) → OneStands c.args.fields.now c.args.agg.now c.args.node.now xs → IsStop c.args.room.now (answer_one c.args.fields.now c.args.agg.now xs).buckets e) c.answer_values.result
    (λ e stop xs. terms_answered (λ a. IsStop c.args.room.now a.buckets e) c.args.fields.now c.args.agg.now c.args.node.now c.as_slice-subs-in-Terms.result.now c.in-Terms.size c.in-Terms.by_key c.in-Values.buckets xs
    (ap out-Node (c.in-Values.is ∙ sym (rolls-Values c.in-Values.buckets)) ∙ out-roll-Node (Node-F.Values c.in-Values.buckets)) c.in-Terms.is c.as_slice-subs-in-Terms.ensures stop)
    (subst (λ m. IfErr c.answer_values.result (λ e. (f : Placed) (xs : List Sample) → ValuesStand (Stands c.args.fields.now (seen c.as_slice-subs-in-Terms.result.now)) f.field.role f.place m xs
    → IsStop c.args.room.now (terms_answer (results_below c.args.fields.now c.as_slice-subs-in-Terms.result.now) c.in-Terms.size c.in-Terms.by_key (Some f) xs).buckets e)) c.in-Values.buckets-is c.answer_values.ensures.err)

-- ---- buckets of time

pub answer_start-returns-clause-ok : goal.answer_start-returns-clause-ok
answer_start-returns-clause-ok t c =
    let level = Stands c.args.fields.now (seen c.args.below.now) in
    let below = results_below c.args.fields.now c.args.below.now in
    ok_then (λ out. (xs : List Sample) → BucketStands level c.in_ok-bucket.bucket xs → IsBucketTold below c.in_ok-key.key.items xs c.args.room.now c.answer_bucket.new.room out)
    (λ out. (xs : List Sample) → IsBucketOf level (get int_cmp c.args.buckets.now c.args.at.now) xs → IsBucketTold below (start_members c.args.at.now) xs c.args.room.now c.answer_bucket.new.room out) c.answer_bucket.result
    (λ out told xs stands. subst (λ key. IsBucketTold below key xs c.args.room.now c.answer_bucket.new.room out) c.in_ok-key.ensures (told xs (c.in_ok-bucket.ensures.bucket xs stands))) c.answer_bucket.ensures.ok

pub answer_start-returns-clause-err : goal.answer_start-returns-clause-err
answer_start-returns-clause-err t c =
    let level = Stands c.args.fields.now (seen c.args.below.now) in
    let below = results_below c.args.fields.now c.args.below.now in
    err_then (λ e. (xs : List Sample) → BucketStands level c.in_ok-bucket.bucket xs → IsStop c.args.room.now (bucket_count (bucket_of below xs)) e)
    (λ e. (xs : List Sample) → IsBucketOf level (get int_cmp c.args.buckets.now c.args.at.now) xs → IsStop c.args.room.now (bucket_count (bucket_of below xs)) e) c.answer_bucket.result
    (λ e stop xs stands. stop xs (c.in_ok-bucket.ensures.bucket xs stands)) c.answer_bucket.ensures.err

pub answer_behind-loop-done-preserved : goal.answer_behind-loop-done-preserved
answer_behind-loop-done-preserved t c of_start stands =
    let below = results_below c.args.fields.now c.args.below.now in
    let n = ms_of c.args.by in
    let all = starts_from (c.args.start.now +ℤ pos n) n c.args.number in
    behind_more (Stands c.args.fields.now (seen c.args.below.now)) below of_start c.loop-done.at c.in_ok-at.at n (c.args.number - c.loop-done._done) (c.args.number - (c.loop-done._done + 1)) c.loop-done.room c.answer_start.new.room c.args.room.now (buckets_of below of_start all)
    c.loop-done.buckets c.answer_start.new.buckets c.loop-done.outs.items c.put_out.new.outs.items (c.args.outs.now.items ++ outs_of below start_members of_start all) c.in_ok-out.out (less_one c.args.number c.loop-done._done c.loop-done-test.true) c.in_ok-at.ensures.next c.in_ok-at.ensures.behind
    c.in_ok-out.ensures.ok c.in_ok-out.ensures.others c.in_ok-put_out.ensures (c.loop-done.invariant of_start stands)

pub answer_behind-loop-done-init : goal.answer_behind-loop-done-init
answer_behind-loop-done-init t c of_start stands =
    let all : c.args.number - 0 ≡ c.args.number = omega arith in
    rw (c.copy-at.ensures, all) (stands, refl, refl)

pub answer_behind-returns-clause-ok : goal.answer_behind-returns-clause-ok
answer_behind-returns-clause-ok t c of_start stands =
    let below = results_below c.args.fields.now c.args.below.now in
    let n = ms_of c.args.by in
    let all = starts_from (c.args.start.now +ℤ pos n) n c.args.number in
    behind_done (Stands c.args.fields.now (seen c.args.below.now)) below of_start c.loop-done.at n (c.args.number - c.loop-done._done) c.loop-done.room c.args.room.now (buckets_of below of_start all) c.loop-done.buckets c.loop-done.outs.items
    (c.args.outs.now.items ++ outs_of below start_members of_start all) (omega (arith, c.loop-done-test.false)) (c.loop-done.invariant of_start stands)

pub answer_behind-returns-in_err-out-clause-err : goal.answer_behind-returns-in_err-out-clause-err
answer_behind-returns-in_err-out-clause-err t c =
    let level = Stands c.args.fields.now (seen c.args.below.now) in
    let below = results_below c.args.fields.now c.args.below.now in
    let n = ms_of c.args.by in
    let all = starts_from (c.args.start.now +ℤ pos n) n c.args.number in
    err_told (λ e. (of_start : ℤ → List Sample) → ((u : ℤ) → c.args.start.now <ℤ u → IsBucketOf level (get int_cmp c.args.buckets.now u) (of_start u)) → IsStop c.args.room.now (buckets_of below of_start all) e)
    c.from_residual-in_err-out.result c.in_err-out.field-0.0 c.from_residual-in_err-out.ensures.1
    (λ of_start stands. behind_stopped level below of_start c.loop-done.at c.in_ok-at.at n (c.args.number - c.loop-done._done) (c.args.number - (c.loop-done._done + 1)) c.loop-done.room c.args.room.now (buckets_of below of_start all) c.loop-done.buckets c.loop-done.outs.items
    (c.args.outs.now.items ++ outs_of below start_members of_start all) c.in_err-out.field-0.0 (less_one c.args.number c.loop-done._done c.loop-done-test.true) c.in_ok-at.ensures.next c.in_ok-at.ensures.behind c.in_err-out.ensures.err (c.loop-done.invariant of_start stands))

pub answer_all-returns-in_err-out-clause-err : goal.answer_all-returns-in_err-out-clause-err
answer_all-returns-in_err-out-clause-err t c =
    let level = Stands c.args.fields.now (seen c.args.below.now) in
    let below = results_below c.args.fields.now c.args.below.now in
    let n = ms_of c.args.by in
    let first = c.in-Some.first in
    err_told (λ e. (of_start : ℤ → List Sample) → MarksStand int_cmp level c.args.buckets.now of_start → IsStop c.args.room.now (buckets_of below of_start (starts_between n (keys c.args.buckets.now))) e)
    c.from_residual.result c.in_err-out.field-0.0 c.from_residual.ensures.1
    (λ of_start stands. subst (λ ts. IsStop c.args.room.now (buckets_of below of_start ts) c.in_err-out.field-0.0) (sym c.in-Some.ensures.some)
    (first_stopped below of_start first (starts_from (first +ℤ pos n) n c.in-Some.others) c.args.room.now c.in_err-out.field-0.0 (c.in_err-out.ensures.err (of_start first) (stands first))))

pub answer_all-returns-clause-ok : goal.answer_all-returns-clause-ok
answer_all-returns-clause-ok t c =
    let level = Stands c.args.fields.now (seen c.args.below.now) in
    let below = results_below c.args.fields.now c.args.below.now in
    let n = ms_of c.args.by in
    let first = c.in-Some.first in
    on_ok_then ((of_start : ℤ → List Sample) → ((u : ℤ) → first <ℤ u → IsBucketOf level (get int_cmp c.answer_start.new.buckets u) (of_start u))
    → AreBucketsTold below start_members of_start (starts_from (first +ℤ pos n) n c.in-Some.others) c.answer_start.new.room c.answer_behind.new.room c.put_out.new.outs.items c.answer_behind.new.outs.items)
    ((of_start : ℤ → List Sample) → MarksStand int_cmp level c.args.buckets.now of_start → AreBucketsTold below start_members of_start (starts_between n (keys c.args.buckets.now)) c.args.room.now c.answer_behind.new.room c.args.outs.now.items c.answer_behind.new.outs.items)
    c.answer_behind.result
    (λ told of_start stands. subst (λ ts. AreBucketsTold below start_members of_start ts c.args.room.now c.answer_behind.new.room c.args.outs.now.items c.answer_behind.new.outs.items) (sym c.in-Some.ensures.some)
    (first_told below of_start first (starts_from (first +ℤ pos n) n c.in-Some.others) start_members c.args.room.now c.answer_start.new.room c.answer_behind.new.room c.args.outs.now.items c.put_out.new.outs.items c.answer_behind.new.outs.items c.in_ok-out.out
    (c.in_ok-out.ensures.ok (of_start first) (stands first)) c.in_ok-put_out.ensures (told of_start (λ u later. subst (λ o. IsBucketOf level o (of_start u)) (sym (c.in_ok-out.ensures.others u later)) (stands u)))))
    c.answer_behind.ensures.ok

pub answer_all-returns-clause-err : goal.answer_all-returns-clause-err
answer_all-returns-clause-err t c =
    let level = Stands c.args.fields.now (seen c.args.below.now) in
    let below = results_below c.args.fields.now c.args.below.now in
    let n = ms_of c.args.by in
    let first = c.in-Some.first in
    err_then (λ e. (of_start : ℤ → List Sample) → ((u : ℤ) → first <ℤ u → IsBucketOf level (get int_cmp c.answer_start.new.buckets u) (of_start u)) → IsStop c.answer_start.new.room (buckets_of below of_start (starts_from (first +ℤ pos n) n c.in-Some.others)) e)
    (λ e. (of_start : ℤ → List Sample) → MarksStand int_cmp level c.args.buckets.now of_start → IsStop c.args.room.now (buckets_of below of_start (starts_between n (keys c.args.buckets.now))) e) c.answer_behind.result
    (λ e stop of_start stands. subst (λ ts. IsStop c.args.room.now (buckets_of below of_start ts) e) (sym c.in-Some.ensures.some)
    (later_stopped below of_start first (starts_from (first +ℤ pos n) n c.in-Some.others) c.args.room.now c.answer_start.new.room e (c.in_ok-out.ensures.ok (of_start first) (stands first)).1
    (stop of_start (λ u later. subst (λ o. IsBucketOf level o (of_start u)) (sym (c.in_ok-out.ensures.others u later)) (stands u)))))
    c.answer_behind.ensures.err

pub answer_filled-loop-start-init : goal.answer_filled-loop-start-init
answer_filled-loop-start-init t c of_start stands = (marks_each int_cmp int_cmp_total whole_tied (Stands c.args.fields.now (seen c.args.below.now)) c.args.buckets.now of_start c.requires stands, refl, refl)

pub answer_filled-loop-start-preserved-then-bucket-least : goal.answer_filled-loop-start-preserved-then-bucket-least
answer_filled-loop-start-preserved-then-bucket-least t c of_start stands =
    let below = results_below c.args.fields.now c.args.below.now in
    let all = of_least c.args.least of_start (keys c.args.buckets.now) in
    filled_passed (Stands c.args.fields.now (seen c.args.below.now)) below of_start c.args.least c.in-Some.start c.in-Some.bucket c.pop_first.new.self.entries c.loop-start.buckets.entries c.loop-start.room c.args.room.now (buckets_of below of_start all) c.loop-start.outs.items
    (c.args.outs.now.items ++ outs_of below start_members of_start all) c.in-Some.ensures.removal c.if-bucket-least.true (c.loop-start.invariant of_start stands)

pub answer_filled-loop-start-preserved : goal.answer_filled-loop-start-preserved
answer_filled-loop-start-preserved t c of_start stands =
    let level = Stands c.args.fields.now (seen c.args.below.now) in
    let below = results_below c.args.fields.now c.args.below.now in
    let all = of_least c.args.least of_start (keys c.args.buckets.now) in
    filled_more level below of_start c.args.least c.in-Some.start c.in-Some.bucket c.pop_first.new.self.entries c.loop-start.buckets.entries c.loop-start.room c.answer_bucket.new.room c.args.room.now (buckets_of below of_start all) c.loop-start.outs.items c.put_out.new.outs.items
    (c.args.outs.now.items ++ outs_of below start_members of_start all) c.in_ok-out.out c.in-Some.ensures.removal c.if-bucket-least.false
    (λ xs stood. subst (λ key. IsBucketTold below key xs c.loop-start.room c.answer_bucket.new.room c.in_ok-out.out) c.in_ok-key.ensures (c.in_ok-out.ensures.ok xs stood)) c.in_ok-put_out.ensures (c.loop-start.invariant of_start stands)

pub answer_filled-returns-in_err-out-clause-err : goal.answer_filled-returns-in_err-out-clause-err
answer_filled-returns-in_err-out-clause-err t c =
    let level = Stands c.args.fields.now (seen c.args.below.now) in
    let below = results_below c.args.fields.now c.args.below.now in
    err_told (λ e. (of_start : ℤ → List Sample) → MarksStand int_cmp level c.args.buckets.now of_start → IsStop c.args.room.now (buckets_of below of_start (of_least c.args.least of_start (keys c.args.buckets.now))) e)
    c.from_residual-in_err-out.result c.in_err-out.field-0.0 c.from_residual-in_err-out.ensures.1
    (λ of_start stands.
    let all = of_least c.args.least of_start (keys c.args.buckets.now) in
    filled_stopped level below of_start c.args.least c.in-Some.start c.in-Some.bucket c.pop_first.new.self.entries c.loop-start.buckets.entries c.loop-start.room c.args.room.now (buckets_of below of_start all) c.loop-start.outs.items
    (c.args.outs.now.items ++ outs_of below start_members of_start all) c.in_err-out.field-0.0 c.in-Some.ensures.removal c.if-bucket-least.false c.in_err-out.ensures.err (c.loop-start.invariant of_start stands))

pub answer_times-returns-clause-ok : goal.answer_times-returns-clause-ok
answer_times-returns-clause-ok t c f xs stands =
    let level = Stands c.args.fields.now (seen c.args.below.now) in
    let below = results_below c.args.fields.now c.args.below.now in
    let n = ms_of c.args.by in
    let ks = keys_of_times level n c.args.buckets.now xs c.len.ensures.ordered stands in
    elim c.if-least-eq0.branch [
      | answer_times-then-least-eq0+in_ok-answer_all w ↦
          (let outs : c.if-least-eq0.outs.items ≡ w.answer_all.new.outs.items = rw w.outs-is refl in
          rw w.room-is (times_told below n c.args.least f xs (starts_between n (keys c.args.buckets.now)) c.args.room.now w.answer_all.new.room c.in_ok-outs.outs.items w.answer_all.new.outs.items c.in_ok-histogram_out.field-0
          (shown_between n c.args.least below xs (keys c.args.buckets.now) ks w.if-least-eq0.true) c.in_ok-outs.ensures (w.in_ok-answer_all.ensures.ok (in_bucket n xs) stands) (c.in_ok-histogram_out.ensures ∙ ap histogram_tree outs)))
      | answer_times-else-least-eq0+in_ok-answer_filled w ↦
          (let outs : c.if-least-eq0.outs.items ≡ w.answer_filled.new.outs.items = rw w.outs-is refl in
          rw w.room-is (times_told below n c.args.least f xs (of_least c.args.least (in_bucket n xs) (keys c.args.buckets.now)) c.args.room.now w.answer_filled.new.room c.in_ok-outs.outs.items w.answer_filled.new.outs.items c.in_ok-histogram_out.field-0
          (shown_least n c.args.least below xs (keys c.args.buckets.now) ks w.if-least-eq0.false) c.in_ok-outs.ensures (w.in_ok-answer_filled.ensures.ok (in_bucket n xs) stands) (c.in_ok-histogram_out.ensures ∙ ap histogram_tree outs)))
    ]

pub answer_times-returns-in_err-answer_all-clause-err : goal.answer_times-returns-in_err-answer_all-clause-err
answer_times-returns-in_err-answer_all-clause-err t c =
    let level = Stands c.args.fields.now (seen c.args.below.now) in
    let below = results_below c.args.fields.now c.args.below.now in
    let n = ms_of c.args.by in
    err_told (λ e. (f : Placed) (xs : List Sample) → TimesStand level n c.args.buckets.now xs → IsStop c.args.room.now (histogram_answer below n c.args.least (Some f) xs).buckets e)
    c.from_residual-in_err-answer_all.result c.in_err-answer_all.field-0.0 c.from_residual-in_err-answer_all.ensures.1
    (λ f xs stands. subst (λ ts. IsStop c.args.room.now (buckets_of below (in_bucket n xs) ts) c.in_err-answer_all.field-0.0)
    (shown_between n c.args.least below xs (keys c.args.buckets.now) (keys_of_times level n c.args.buckets.now xs c.len.ensures.ordered stands) c.if-least-eq0.true) (c.in_err-answer_all.ensures.err (in_bucket n xs) stands))

pub answer_times-returns-in_err-answer_filled-clause-err : goal.answer_times-returns-in_err-answer_filled-clause-err
answer_times-returns-in_err-answer_filled-clause-err t c =
    let level = Stands c.args.fields.now (seen c.args.below.now) in
    let below = results_below c.args.fields.now c.args.below.now in
    let n = ms_of c.args.by in
    err_told (λ e. (f : Placed) (xs : List Sample) → TimesStand level n c.args.buckets.now xs → IsStop c.args.room.now (histogram_answer below n c.args.least (Some f) xs).buckets e)
    c.from_residual-in_err-answer_filled.result c.in_err-answer_filled.field-0.0 c.from_residual-in_err-answer_filled.ensures.1
    (λ f xs stands. subst (λ ts. IsStop c.args.room.now (buckets_of below (in_bucket n xs) ts) c.in_err-answer_filled.field-0.0)
    (shown_least n c.args.least below xs (keys c.args.buckets.now) (keys_of_times level n c.args.buckets.now xs c.len.ensures.ordered stands) c.if-least-eq0.false) (c.in_err-answer_filled.ensures.err (in_bucket n xs) stands))

-- ---- buckets of values

pub answer_kept-loop-left-preserved : goal.answer_kept-loop-left-preserved
answer_kept-loop-left-preserved t c =
    let level = Stands c.args.fields.now (seen c.args.below.now) in
    let below = results_below c.args.fields.now c.args.below.now in
    let one : c.loop-left.left ≡ suc (c.loop-left.left - 1) = omega (arith, c.loop-left-test.true) in
    let last : c.loop-left.shown.items ≡ c.pop.new.self.items ++ (c.in-Some.value, c.in-Some.bucket) ∷ [] = c.in-Some.ensures.items in
    let key : c.in_ok-key.key.items ≡ value_members c.in-Some.value = c.in_ok-key.ensures ∙ ap value_members c.into_value.ensures in (
      dropped c.loop-left.shown.items c.pop.new.self.items (drop c.args.size (reverse c.args.shown.now.items)) (c.in-Some.value, c.in-Some.bucket) c.loop-left.left (c.loop-left.left - 1) one last c.loop-left.invariant.0,
      λ of_value each.
          let all = take c.args.size (values_in (reverse c.args.shown.now.items)) in
          kept_more level below of_value c.in-Some.value c.in-Some.bucket c.loop-left.shown.items c.pop.new.self.items c.loop-left.left (c.loop-left.left - 1) c.loop-left.room c.answer_bucket.new.room c.args.room.now (buckets_of below of_value all) c.loop-left.outs.items c.put_out.new.outs.items
          (c.args.outs.now.items ++ outs_of below value_members of_value all) c.in_ok-out.out one last
          (λ xs stood. subst (λ k. IsBucketTold below k xs c.loop-left.room c.answer_bucket.new.room c.in_ok-out.out) key (c.in_ok-out.ensures.ok xs stood)) c.in_ok-put_out.ensures (c.loop-left.invariant.1 of_value each),
    )

pub answer_kept-returns-in_err-out-clause-err : goal.answer_kept-returns-in_err-out-clause-err
answer_kept-returns-in_err-out-clause-err t c =
    let level = Stands c.args.fields.now (seen c.args.below.now) in
    let below = results_below c.args.fields.now c.args.below.now in
    let one : c.loop-left.left ≡ suc (c.loop-left.left - 1) = omega (arith, c.loop-left-test.true) in
    let last : c.loop-left.shown.items ≡ c.pop.new.self.items ++ (c.in-Some.value, c.in-Some.bucket) ∷ [] = c.in-Some.ensures.items in
    err_told (λ e. (of_value : Scalar → List Sample) → Each (IsEntryOf level of_value) c.args.shown.now.items → IsStop c.args.room.now (buckets_of below of_value (take c.args.size (values_in (reverse c.args.shown.now.items)))) e)
    c.from_residual-in_err-out.result c.in_err-out.field-0.0 c.from_residual-in_err-out.ensures.1
    (λ of_value each.
    let all = take c.args.size (values_in (reverse c.args.shown.now.items)) in
    kept_stopped level below of_value c.in-Some.value c.in-Some.bucket c.loop-left.shown.items c.pop.new.self.items c.loop-left.left (c.loop-left.left - 1) c.loop-left.room c.args.room.now (buckets_of below of_value all) c.loop-left.outs.items
    (c.args.outs.now.items ++ outs_of below value_members of_value all) c.in_err-out.field-0.0 one last c.in_err-out.ensures.err (c.loop-left.invariant.1 of_value each))

pub answer_values-returns-clause-ok : goal.answer_values-returns-clause-ok
answer_values-returns-clause-ok t c f xs stands =
    let fits : FitsSigned w128 c.in_ok-other.other = search rules in
    let sum : c.in_ok-other.other ≡ pos (sum_by (λ e. (out-Bucket e.1).documents) c.answer_kept.new.shown.items) = rw (c.in_ok-other.ensures, c.as_slice.ensures.value) refl in
    let level = Stands c.args.fields.now (seen c.args.below.now) in
    let below = results_below c.args.fields.now c.args.below.now in
    values_told level below c.args.by_key c.args.buckets.now f xs c.in_ok-shown.shown.items c.len.ensures.ordered stands c.in_ok-shown.ensures c.args.size c.args.room.now c.answer_kept.new.room c.in_ok-outs.outs.items c.answer_kept.new.outs.items c.answer_kept.new.shown.items
    c.in_ok-other.other c.in_ok-terms_out.field-0 c.in_ok-outs.ensures
    (c.in_ok-answer_kept.ensures.ok (with_value f.field.role f.place xs) (each_shown level below c.args.by_key c.args.buckets.now f xs c.in_ok-shown.shown.items c.len.ensures.ordered stands c.in_ok-shown.ensures))
    c.in_ok-answer_kept.ensures.rest sum (c.in_ok-terms_out.ensures ∙ ap (λ z. terms_object z c.answer_kept.new.outs.items) (to_z-of_z w128 c.in_ok-other.other fits))

pub answer_values-returns-in_err-answer_kept-clause-err : goal.answer_values-returns-in_err-answer_kept-clause-err
answer_values-returns-in_err-answer_kept-clause-err t c =
    let level = Stands c.args.fields.now (seen c.args.below.now) in
    let below = results_below c.args.fields.now c.args.below.now in
    err_told (λ e. (f : Placed) (xs : List Sample) → ValuesStand level f.field.role f.place c.args.buckets.now xs → IsStop c.args.room.now (terms_answer below c.args.size c.args.by_key (Some f) xs).buckets e)
    c.from_residual-in_err-answer_kept.result c.in_err-answer_kept.field-0.0 c.from_residual-in_err-answer_kept.ensures.1
    (λ f xs stands. values_stopped level below c.args.by_key c.args.buckets.now f xs c.in_ok-shown.shown.items c.len.ensures.ordered stands c.in_ok-shown.ensures c.args.size c.args.room.now c.in_err-answer_kept.field-0.0
    (c.in_err-answer_kept.ensures.err (with_value f.field.role f.place xs) (each_shown level below c.args.by_key c.args.buckets.now f xs c.in_ok-shown.shown.items c.len.ensures.ordered stands c.in_ok-shown.ensures)))
