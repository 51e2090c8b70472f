use Rattle.std.proofs.Common.{rules, take, true, false, ◌≡◌, ◌+◌, ◌∙◌, ap, sym, subst, refl, arith, suc, length, [], ◌∷◌, ◌++◌, Some, Ok, cond}
use Rattle.std.specs.BTreeMap.{get}
use Rattle.std.specs.Option.{IsSome, option_copied, option_copied_mut}
use Rattle.std.specs.Ordering.{is_eq, int_cmp}
use Rattle.std.specs.Prelude.{slice_set, option_map}
use Rattle.row_cells.specs.declared.scalars.Scalar.{Scalar}
use Rattle.histogram_aggs.specs.Reading.{field_at}
use Rattle.histogram_aggs.specs.Repeats.{IsTop, has_value}
use Rattle.search_filter.specs.Seen.{seen as seen_held}
use Rattle.search_filter.specs.Values.{value_cmp}
use Rattle.time_text.specs.Interval.{ms_of}
use Rattle.histogram_aggs.specs.Seen.{seen}
use Rattle.histogram_aggs.specs.Stands.{IsBucketOf, Mixed, Stands, with_each}
use Rattle.histogram_aggs.proofs.LevelSteps.{min_reached, mixed_first, mixed_step, mixed_last}
use Rattle.histogram_aggs.proofs.StateSteps.{bucket_first, bucket_more, times_more}
use Rattle.histogram_aggs.proofs.ValueSteps.{each_new, each_repeated, field_more, take_more, top_grown, top_kept, value_more}
use Rattle.histogram_aggs.proofs.offers.+offer.Goals as goal

pub offer_bucket-returns : goal.offer_bucket-returns
offer_bucket-returns t c xs stands =
    bucket_more (Stands c.args.fields.now (seen c.args.below.now)) c.args.bucket.now.documents c.in_ok-bucket.field-0 c.args.bucket.now.below.items c.offer_level.new.nodes.items c.args.row.now c.args.window.now.start xs c.in_ok-bucket.ensures (c.in_ok-offer_level.ensures xs) stands

pub offer_level-loop-i-init : goal.offer_level-loop-i-init
offer_level-loop-i-init t c =
    ((refl, λ k d le. refl), λ xs stands. mixed_first c.args.fields.now (seen c.args.aggs.now) c.args.nodes.now.items xs (xs ++ record { start = c.args.window.now.start; row = c.args.row.now } ∷ []) stands)

pub offer_level-loop-i-preserved : goal.offer_level-loop-i-preserved
offer_level-loop-i-preserved t c =
    let i = c.loop-i.i in
    let more : suc i ≡ i + 1 = omega arith in (
      search rules,
      λ xs stands. subst (λ n. Mixed c.args.fields.now (seen c.args.aggs.now) (slice_set c.loop-i.nodes.items i c.offer_one.new.node) n xs (xs ++ record { start = c.args.window.now.start; row = c.args.row.now } ∷ [])) more
          (mixed_step c.args.fields.now c.args.aggs.now c.loop-i.nodes.items i c.index-aggs-i.result c.index_mut.result.now c.offer_one.new.node xs (xs ++ record { start = c.args.window.now.start; row = c.args.row.now } ∷ [])
          (omega (arith, c.loop-i-test.true, c.min-i-end.ensures)) (search rules) c.index-aggs-i.is (search rules) (c.in_ok-offer_one.ensures xs) (c.loop-i.invariant.1 xs stands)),
    )

pub offer_level-returns : goal.offer_level-returns
offer_level-returns t c xs stands =
    let same = c.loop-i.invariant.0.0 in
    mixed_last c.args.fields.now c.args.aggs.now c.loop-i.nodes.items c.loop-i.i xs (xs ++ record { start = c.args.window.now.start; row = c.args.row.now } ∷ [])
    (min_reached (length c.args.aggs.now) (length c.loop-i.nodes.items) c.loop-i.i c.min-i-end.result (search rules) c.loop-i-test.false) (c.loop-i.invariant.1 xs stands)

pub first_bucket-returns : goal.first_bucket-returns
first_bucket-returns t c = c.in_ok-offer_bucket.ensures [] (refl, c.in_ok-make_level.ensures)

pub offer_time-returns : goal.offer_time-returns
offer_time-returns t c xs stands =
    let level = Stands c.args.fields.now (seen c.args.below.now) in
    let at = c.start_of-at.result in
    let bucket = c.in_ok-bucket.bucket in
    let old = get int_cmp c.args.buckets.now in
    let missing = c.in_ok-offer_known.ensures.missing (ap Ok c.if-branch.false) in
    let put = c.in_ok-insert.ensures.updates.0 in
    times_more level (ms_of c.args.by) old (get int_cmp c.insert.new.self) at c.args.row.now bucket c.start_of-at.ensures
    (λ u. put u ∙ ap (λ o. cond (is_eq (int_cmp at u)) (Some bucket) o) (missing.1 u)) c.args.window.now.start
    (bucket_first level (old at) bucket c.args.row.now c.args.window.now.start (ap old c.start_of-at.ensures ∙ missing.0) (c.in_ok-bucket.ensures)) xs stands

pub offer_known-returns-in_ok-offer_bucket-in-Some-clause-known : goal.offer_known-returns-in_ok-offer_bucket-in-Some-clause-known
offer_known-returns-in_ok-offer_bucket-in-Some-clause-known t c is xs stands =
    let level = Stands c.args.fields.now (seen c.args.below.now) in
    let at = c.start_of-at.result in
    let after = c.offer_bucket.new.bucket in
    let old = get int_cmp c.args.buckets.now in
    let had : old at ≡ Some c.in-Some.bucket.now = sym c.get_mut.ensures.value ∙ ap (λ o. option_copied_mut o) c.in-Some.is in
    let put = ((c.get_mut.follows.holds after).3 (subst (λ o. IsSome o) (sym had) refl)).0 in
    times_more level (ms_of c.args.by) old (get int_cmp (c.get_mut.follows.lender after)) at c.args.row.now after c.start_of-at.ensures put c.args.window.now.start
    (λ ys stood. c.in_ok-offer_bucket-in-Some.ensures ys (subst (λ o. IsBucketOf level o ys) had stood).1) xs stands

pub offer_known_value-returns-in_ok-offer_bucket-in-Some-clause-known : goal.offer_known_value-returns-in_ok-offer_bucket-in-Some-clause-known
offer_known_value-returns-in_ok-offer_bucket-in-Some-clause-known t c is of_value stands =
    let level = Stands c.args.fields.now (seen c.args.below.now) in
    let value = c.args.value.now in
    let after = c.offer_bucket.new.bucket in
    let old = get value_cmp c.args.buckets.now in
    let had : old value ≡ Some c.in-Some.bucket.now = sym c.get_mut.ensures.value ∙ ap (λ o. option_copied_mut o) c.in-Some.is in
    let put = ((c.get_mut.follows.holds after).3 (subst (λ o. IsSome o) (sym had) refl)).0 in
    value_more level old (get value_cmp (c.get_mut.follows.lender after)) value after (record { start = c.args.window.now.start; row = c.args.row.now }) put
    (λ ys stood. c.in_ok-offer_bucket-in-Some.ensures ys (subst (λ o. IsBucketOf level o ys) had stood).1) of_value stands

pub offer_value-returns : goal.offer_value-returns
offer_value-returns t c of_value stands =
    let level = Stands c.args.fields.now (seen c.args.below.now) in
    let value = c.args.value.now in
    let bucket = c.in_ok-bucket.bucket in
    let old = get value_cmp c.args.buckets.now in
    let missing = c.in_ok-offer_known_value.ensures.missing (ap Ok c.if-branch.false) in
    let key : c.new-key.result ≡ value = search rules in
    let put = subst (λ (z : Scalar). (u : Scalar) → get value_cmp c.insert.new.self u ≡ cond (is_eq (value_cmp z u)) (Some bucket) (get value_cmp c.offer_known_value.new.buckets u)) key c.in_ok-insert.ensures.updates.0 in
    value_more level old (get value_cmp c.insert.new.self) value bucket (record { start = c.args.window.now.start; row = c.args.row.now })
    (λ u. put u ∙ ap (λ o. cond (is_eq (value_cmp value u)) (Some bucket) o) (missing.1 u)) (bucket_first level (old value) bucket c.args.row.now c.args.window.now.start missing.0 (c.in_ok-bucket.ensures)) of_value stands

pub offer_terms-returns : goal.offer_terms-returns
offer_terms-returns t c xs =
    let fields = c.args.fields.now in
    let level = Stands fields (seen c.args.below.now) in
    let found : field_at fields (Some c.in-Some.at) ≡ Some c.in-Some-field_at.field.now =
    sym c.field_at.ensures ∙ ap (λ o. option_map (λ f. f.now) o) c.in-Some-field_at.is in
    rw c.in-Some.is
    (field_more level fields c.in-Some.at c.in-Some-field_at.field.now (seen_held c.held_of-held.result) c.args.buckets.now c.offer_held.new.buckets c.args.row.now c.args.window.now.start xs found c.held_of-held.ensures (c.in_ok-offer_held.ensures))

pub offer_list-loop-at-preserved-then-is_repeated : goal.offer_list-loop-at-preserved-then-is_repeated
offer_list-loop-at-preserved-then-is_repeated t c =
    let level = Stands c.args.fields.now (seen c.args.below.now) in
    let vs = c.args.values.now in
    let before = take c.loop-at.at vs in
    let value = c.index-values-at.result in
    let more = take_more vs c.loop-at.at value c.loop-at-test.true c.index-values-at.is in
    let has : has_value before value ≡ true = search rules in (
      subst (λ ws. IsTop (option_copied c.loop-at.top) ws) (sym more) (top_kept (option_copied c.loop-at.top) before value c.loop-at.invariant.0 has),
      λ of_value stands k. subst (λ ws. IsBucketOf level (get value_cmp c.loop-at.buckets k) (with_each ws (record { start = c.args.window.now.start; row = c.args.row.now }) of_value k)) (sym more)
          (each_repeated level (get value_cmp c.loop-at.buckets) before value (record { start = c.args.window.now.start; row = c.args.row.now }) of_value has (c.loop-at.invariant.1 of_value stands) k),
    )

pub offer_list-loop-at-preserved : goal.offer_list-loop-at-preserved
offer_list-loop-at-preserved t c =
    let level = Stands c.args.fields.now (seen c.args.below.now) in
    let vs = c.args.values.now in
    let before = take c.loop-at.at vs in
    let value = c.index-values-at.result in
    let more = take_more vs c.loop-at.at value c.loop-at-test.true c.index-values-at.is in
    let has : has_value before value ≡ false = search rules in (
      subst (λ ws. IsTop (Some c.greater.result.now) ws) (sym more)
          (subst (λ g. IsTop (Some g) (before ++ value ∷ [])) (sym c.greater.ensures) (top_grown (option_copied c.loop-at.top) before value c.loop-at.invariant.0)),
      λ of_value stands k. subst (λ ws. IsBucketOf level (get value_cmp c.offer_value.new.buckets k) (with_each ws (record { start = c.args.window.now.start; row = c.args.row.now }) of_value k)) (sym more)
          (each_new level (get value_cmp c.offer_value.new.buckets) before value (record { start = c.args.window.now.start; row = c.args.row.now }) of_value has
          (c.in_ok-offer_value.ensures (with_each before (record { start = c.args.window.now.start; row = c.args.row.now }) of_value) (c.loop-at.invariant.1 of_value stands)) k),
    )
