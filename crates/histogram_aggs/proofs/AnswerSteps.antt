-- What is told of a level, of a bucket, and of many buckets, one more at a time.
use Rattle.std.proofs.Common.{◌≡◌, ℕ, zero, suc, ℤ, pos, ◌+◌, ◌-◌, ◌+ℤ◌, ◌<◌, ◌≤◌, Bool, true, false, cond, List, [], ◌∷◌, ◌++◌, length, map, take, drop, reverse, get_or, append_assoc, append-nil, Option, Some, None, refl, ap, ◌∙◌, sym, subst, arith, sum_by}
use Rattle.std.specs.Prelude.{◌<ℤ◌, nat_le, option_map, IfOk, IfErr, IsErrAnd, OnOk, Result, Ok, Err}
use Rattle.std.specs.Borrow.{Bor}
use Rattle.std.specs.BTreeMap.{BTreeMap, IsOrdered, get, is_at}
use Rattle.std.specs.Cmp.{IsTotalOrder}
use Rattle.std.specs.List.{slice_get}
use Rattle.std.specs.Map.{keys_of, lookup}
use Rattle.std.specs.Option.{option_copied}
use Rattle.std.specs.Ordering.{int_cmp}
use Rattle.std.specs.declared.cmp.Ordering.{Ordering}
use Rattle.std.specs.declared.cmp.Ordering.TheVariants.{Equal}
use Rattle.std.proofs.lemmas.Int.{ints}
use Rattle.std.proofs.lemmas.List.{reverse-append, reverse-reverse}
use Rattle.std.proofs.lemmas.List.Sums.{sum_by-cons, sum_by-append}
use Rattle.std.proofs.lemmas.Result.{err_from_is_err_and}
use Rattle.time_text.specs.Interval.{ms_of}
use Rattle.time_text.specs.declared.intervals.Interval.{Interval}
use Rattle.row_cells.specs.declared.scalars.Scalar.{Scalar}
use Rattle.row_cells.specs.declared.schemas.Field.{Field}
use Rattle.row_cells.specs.Each.{Each}
use Rattle.row_cells.specs.EachLaws.{Each-weaker}
use Rattle.reply_json.specs.declared.out.Member.{Member}
use Rattle.reply_json.specs.declared.out.Out.{Out}
use Rattle.reply_json.specs.Trees.{member}
use Rattle.search_filter.specs.Values.{value_cmp}
use Rattle.search_filter.specs.ValueLaws.{value_cmp_total, value_tied}
use Rattle.histogram_aggs.specs.declared.aggs.Agg.{Agg, out-Agg}
use Rattle.histogram_aggs.specs.declared.aggs.AggKind.{AggKind}
use Rattle.histogram_aggs.specs.declared.aggs.AggKind.TheVariants.{Min, Max, Sum, ValueCount, Increase, Terms, DateHistogram}
use Rattle.histogram_aggs.specs.declared.errors.AggError.{AggError}
use Rattle.histogram_aggs.specs.declared.state.Bucket.{Bucket, out-Bucket}
use Rattle.histogram_aggs.specs.declared.state.Node.{Node, out-Node}
use Rattle.histogram_aggs.specs.declared.state.Node.TheOpen.{Node-F}
use Rattle.histogram_aggs.specs.declared.tallies.Tally.{Tally}
use Rattle.histogram_aggs.specs.Answers.{Answer, Placed, Results, answer_of, bucket_count, bucket_of, bucket_tree, field_of, histogram_answer, histogram_at, histogram_tree, metric_answer, placed_of, results_of, start_members, starts_shown, terms_answer, terms_object, value_members}
use Rattle.histogram_aggs.specs.Buckets.{in_asked_order, in_bucket, keys_at, starts_at, starts_between, starts_from, with_value}
use Rattle.histogram_aggs.specs.Reading.{field_at}
use Rattle.histogram_aggs.specs.Samples.{Sample, documents_in}
use Rattle.histogram_aggs.specs.Seen.{seen}
use Rattle.histogram_aggs.specs.Stands.{Level, BucketStands, HistogramStands, IsBucketOf, MarksStand, MetricStands, NodeStands, OneStands, Stands, TermsStand, TimesStand, ValuesStand}
use Rattle.histogram_aggs.specs.Tallies.{is_measure}
use Rattle.histogram_aggs.specs.Told.{AreBucketsTold, IsBucketTold, IsEntryOf, IsStop, IsTold, StandBehind, answer_one, buckets_of, entries_asked, of_least, outs_of, results_below}
use Rattle.histogram_aggs.proofs.KeySteps.{entries_found, keys_of_values}
use Rattle.histogram_aggs.proofs.LevelSteps.{drop_past}
use Rattle.histogram_aggs.proofs.OrderSteps.{Weighs, asked_keys, each_asked, each_reverse, gt_test, le_test}
use Rattle.histogram_aggs.proofs.ToldSteps.{moved, results_step, stop_more}

-- ---- results of calls

pub ok_then : {T E : Type 0} (P Q : T → Type 0) (r : Result T E) → ((x : T) → P x → Q x) → IfOk r P → IfOk r Q
ok_then P Q (Ok x) step is = step x is
ok_then P Q (Err e) step is = tt

pub err_then : {T E : Type 0} (P Q : E → Type 0) (r : Result T E) → ((e : E) → P e → Q e) → IfErr r P → IfErr r Q
err_then P Q (Ok x) step is = tt
err_then P Q (Err e) step is = step e is

pub on_ok_then : {T E : Type 0} (P Q : Type 0) (r : Result T E) → (P → Q) → OnOk r P → OnOk r Q
on_ok_then P Q (Ok x) step is = step is
on_ok_then P Q (Err e) step is = tt

pub err_told : {T : Type 0} (P : AggError → Type 0) (r : Result T AggError) (e : AggError) → IsErrAnd r (λ y. y ≡ e) → P e → IfErr r P
err_told P r e exit is =
    let answer = err_from_is_err_and r exit in
    subst (λ s. IfErr s P) (sym answer.1) (subst P (sym answer.2) is)

-- ---- room

pub room_told : (room left room0 total part rest : ℕ) → left + part ≡ room → room0 + (part + rest) ≡ room + total → room0 + rest ≡ left + total
room_told room left room0 total part rest told all = omega (arith, told, all)

pub less_one : (a b : ℕ) → b < a → a - b ≡ suc (a - (b + 1))
less_one a b lt = omega (arith, lt)

int_later : (a b c : ℤ) → a <ℤ b → b <ℤ c → a <ℤ c
int_later a b c ab bc = omega (arith, ints, ab, bc)

-- ---- a level

pub level_told : (fields : List Field) (aggs : List Agg) (i : ℕ) (agg : Agg) (xs : List Sample) (value : Out) (room left room0 total : ℕ) (members after all : List Member) →
    i < length aggs → agg ≡ get_or aggs i agg → IsTold (answer_one fields agg xs) room left value → after ≡ members ++ member (out-Agg agg).name value ∷ [] →
    (members ++ (results_of (seen (drop i aggs)) fields xs).members ≡ all) × (room0 + (results_of (seen (drop i aggs)) fields xs).buckets ≡ room + total) →
    (after ++ (results_of (seen (drop (i + 1) aggs)) fields xs).members ≡ all) × (room0 + (results_of (seen (drop (i + 1) aggs)) fields xs).buckets ≡ left + total)
level_told fields aggs i agg xs value room left room0 total members after all lt is told more before =
    let rest = results_of (seen (drop (i + 1) aggs)) fields xs in
    let one = answer_one fields agg xs in
    let here = subst (λ (r : Results). (members ++ r.members ≡ all) × (room0 + r.buckets ≡ room + total)) (results_step fields aggs i agg xs lt is) before in (
      moved members after rest.members all (member (out-Agg agg).name one.tree) here.0 (more ∙ ap (λ v. members ++ member (out-Agg agg).name v ∷ []) told.0),
      room_told room left room0 total one.buckets rest.buckets told.1 here.1,
    )

pub level_stopped : (fields : List Field) (aggs : List Agg) (i : ℕ) (agg : Agg) (xs : List Sample) (room room0 total : ℕ) (e : AggError) → i < length aggs → agg ≡ get_or aggs i agg →
    room0 + (results_of (seen (drop i aggs)) fields xs).buckets ≡ room + total → IsStop room (answer_one fields agg xs).buckets e → IsStop room0 total e
level_stopped fields aggs i agg xs room room0 total e lt is same stop =
    stop_more room (answer_one fields agg xs).buckets room0 total (results_of (seen (drop (i + 1) aggs)) fields xs).buckets e
    (subst (λ (r : Results). room0 + r.buckets ≡ room + total) (results_step fields aggs i agg xs lt is) same) stop

pub level_done : (fields : List Field) (aggs : List Agg) (i : ℕ) (xs : List Sample) (room room0 total : ℕ) (members all : List Member) → length aggs ≤ i →
    (members ++ (results_of (seen (drop i aggs)) fields xs).members ≡ all) × (room0 + (results_of (seen (drop i aggs)) fields xs).buckets ≡ room + total) → (members ≡ all) × (room + total ≡ room0)
level_done fields aggs i xs room room0 total members all le before =
    let here = subst (λ left. (members ++ (results_of (seen left) fields xs).members ≡ all) × (room0 + (results_of (seen left) fields xs).buckets ≡ room + total)) (drop_past aggs i le) before in
    (sym (append-nil members) ∙ here.0, none_left here.1)
  where
    none_left : room0 + 0 ≡ room + total → room + total ≡ room0
    none_left is = omega (arith, is)

-- ---- one aggregation

pub copied : (o : Option (Bor Field)) → option_copied o ≡ option_map (λ f. f.now) o
copied None = refl
copied (Some f) = refl

metric_kind : (below : List Sample → Results) (kind : AggKind) (f : Placed) (xs : List Sample) → is_measure kind ≡ true → metric_answer kind (Some f) xs ≡ answer_of below kind (Some f) xs
metric_kind below Min f xs is = refl
metric_kind below Max f xs is = refl
metric_kind below Sum f xs is = refl
metric_kind below ValueCount f xs is = refl
metric_kind below Increase f xs is = refl
metric_kind below (Terms size by_key) f xs is = cc
metric_kind below (DateHistogram interval least) f xs is = cc

pub metric_answered : (fields : List Field) (agg : Agg) (node : Node) (found : Option Field) (tally : Tally) (xs : List Sample) (room : ℕ) (out : Out) → out-Node node ≡ Node-F.Metric tally → found ≡ field_at fields (out-Agg agg).field →
    ((f : Placed) (ys : List Sample) → found ≡ Some f.field → MetricStands (out-Agg agg).kind (Some f) tally ys → out ≡ (metric_answer (out-Agg agg).kind (Some f) ys).tree) → OneStands fields agg node xs → IsTold (answer_one fields agg xs) room room out
metric_answered fields agg node found tally xs room out node_is is told stands =
    by_place (out-Agg agg).field is (subst (λ n. NodeStands (λ ns zs. Stands fields (seen (out-Agg agg).subs) ns zs) (out-Agg agg).kind (field_of fields (out-Agg agg).field) n xs) node_is stands)
  where
    below : List Sample → Results
    below ys = results_of (seen (out-Agg agg).subs) fields ys

    by_field : (place : ℕ) (o : Option Field) → found ≡ o → MetricStands (out-Agg agg).kind (placed_of place o) tally xs → IsTold (answer_of below (out-Agg agg).kind (placed_of place o) xs) room room out
    by_field place None same stood = absurd stood
    by_field place (Some f) same stood =
        let at : Placed = record { place = place; field = f } in
        subst (λ a. IsTold a room room out) (metric_kind below (out-Agg agg).kind at xs stood.0) (told at xs same stood, omega arith)

    by_place : (o : Option ℕ) → found ≡ field_at fields o → MetricStands (out-Agg agg).kind (field_of fields o) tally xs → IsTold (answer_of below (out-Agg agg).kind (field_of fields o) xs) room room out
    by_place None same stood = absurd stood
    by_place (Some place) same stood = by_field place (slice_get fields place) same stood

pub histogram_answered : (P : Answer → Type 0) (fields : List Field) (agg : Agg) (node : Node) (subs : List Agg) (interval : Interval) (least : ℕ) (m : BTreeMap ℤ Bucket) (xs : List Sample) → out-Node node ≡ Node-F.Times m → (out-Agg agg).kind ≡ DateHistogram interval least →
    subs ≡ (out-Agg agg).subs → ((f : Placed) (ys : List Sample) → TimesStand (Stands fields (seen subs)) (ms_of interval) m ys → P (histogram_answer (results_below fields subs) (ms_of interval) least (Some f) ys)) →
    OneStands fields agg node xs → P (answer_one fields agg xs)
histogram_answered P fields agg node subs interval least m xs node_is kind_is subs_is told stands =
    subst (λ k. P (answer_of (results_below fields (out-Agg agg).subs) k (field_of fields (out-Agg agg).field) xs)) (sym kind_is)
    (subst (λ bs. P (answer_of (results_below fields bs) (DateHistogram interval least) (field_of fields (out-Agg agg).field) xs)) subs_is
    (by_field (field_of fields (out-Agg agg).field)
    (subst (λ bs. HistogramStands (λ ns zs. Stands fields (seen bs) ns zs) (DateHistogram interval least) (field_of fields (out-Agg agg).field) m xs) (sym subs_is)
    (subst (λ k. HistogramStands (λ ns zs. Stands fields (seen (out-Agg agg).subs) ns zs) k (field_of fields (out-Agg agg).field) m xs) kind_is
    (subst (λ n. NodeStands (λ ns zs. Stands fields (seen (out-Agg agg).subs) ns zs) (out-Agg agg).kind (field_of fields (out-Agg agg).field) n xs) node_is stands)))))
  where
    by_field : (o : Option Placed) → HistogramStands (λ ns zs. Stands fields (seen subs) ns zs) (DateHistogram interval least) o m xs → P (answer_of (results_below fields subs) (DateHistogram interval least) o xs)
    by_field None stood = absurd stood
    by_field (Some f) stood = told f xs stood

pub terms_answered : (P : Answer → Type 0) (fields : List Field) (agg : Agg) (node : Node) (subs : List Agg) (size : ℕ) (by_key : Option Bool) (m : BTreeMap Scalar Bucket) (xs : List Sample) → out-Node node ≡ Node-F.Values m → (out-Agg agg).kind ≡ Terms size by_key →
    subs ≡ (out-Agg agg).subs → ((f : Placed) (ys : List Sample) → ValuesStand (Stands fields (seen subs)) f.field.role f.place m ys → P (terms_answer (results_below fields subs) size by_key (Some f) ys)) →
    OneStands fields agg node xs → P (answer_one fields agg xs)
terms_answered P fields agg node subs size by_key m xs node_is kind_is subs_is told stands =
    subst (λ k. P (answer_of (results_below fields (out-Agg agg).subs) k (field_of fields (out-Agg agg).field) xs)) (sym kind_is)
    (subst (λ bs. P (answer_of (results_below fields bs) (Terms size by_key) (field_of fields (out-Agg agg).field) xs)) subs_is
    (by_field (field_of fields (out-Agg agg).field)
    (subst (λ bs. TermsStand (λ ns zs. Stands fields (seen bs) ns zs) (Terms size by_key) (field_of fields (out-Agg agg).field) m xs) (sym subs_is)
    (subst (λ k. TermsStand (λ ns zs. Stands fields (seen (out-Agg agg).subs) ns zs) k (field_of fields (out-Agg agg).field) m xs) kind_is
    (subst (λ n. NodeStands (λ ns zs. Stands fields (seen (out-Agg agg).subs) ns zs) (out-Agg agg).kind (field_of fields (out-Agg agg).field) n xs) node_is stands)))))
  where
    by_field : (o : Option Placed) → TermsStand (λ ns zs. Stands fields (seen subs) ns zs) (Terms size by_key) o m xs → P (answer_of (results_below fields subs) (Terms size by_key) o xs)
    by_field None stood = absurd stood
    by_field (Some f) stood = told f xs stood

-- ---- one bucket in front of others

module _ {K : Type 0} (below : List Sample → Results) (of_key : K → List Sample) (k : K) (ks : List K) where
  count_opened : (room total room0 : ℕ) → room0 + buckets_of below of_key (k ∷ ks) ≡ room + total → room0 + (bucket_count (bucket_of below (of_key k)) + buckets_of below of_key ks) ≡ room + total
  count_opened room total room0 is = ap (λ n. room0 + n) (sym (sum_by-cons (λ j. bucket_count (bucket_of below (of_key j))) k ks)) ∙ is

  pub one_more : (key : K → List Member) (room left room0 total : ℕ) (outs after all : List Out) (out : Out) → IsBucketTold below (key k) (of_key k) room left out → after ≡ outs ++ out ∷ [] →
      outs ++ outs_of below key of_key (k ∷ ks) ≡ all → room0 + buckets_of below of_key (k ∷ ks) ≡ room + total →
      (after ++ outs_of below key of_key ks ≡ all) × (room0 + buckets_of below of_key ks ≡ left + total)
  one_more key room left room0 total outs after all out told more same count = (
    moved outs after (outs_of below key of_key ks) all (bucket_tree (key k) (bucket_of below (of_key k))) same (more ∙ ap (λ o. outs ++ o ∷ []) told.0),
    room_told room left room0 total (bucket_count (bucket_of below (of_key k))) (buckets_of below of_key ks) told.1 (count_opened room total room0 count),
  )

  pub one_stopped : (room room0 total : ℕ) (e : AggError) → room0 + buckets_of below of_key (k ∷ ks) ≡ room + total → IsStop room (bucket_count (bucket_of below (of_key k))) e → IsStop room0 total e
  one_stopped room room0 total e count stop = stop_more room (bucket_count (bucket_of below (of_key k))) room0 total (buckets_of below of_key ks) e (count_opened room total room0 count) stop

  -- the first is told, and then the others
  pub first_told : (key : K → List Member) (room mid left : ℕ) (outs one after : List Out) (out : Out) → IsBucketTold below (key k) (of_key k) room mid out → one ≡ outs ++ out ∷ [] →
      AreBucketsTold below key of_key ks mid left one after → AreBucketsTold below key of_key (k ∷ ks) room left outs after
  first_told key room mid left outs one after out told put behind = (
    behind.0 ∙ (ap (λ os. os ++ outs_of below key of_key ks) (put ∙ ap (λ o. outs ++ o ∷ []) told.0) ∙ append_assoc outs (bucket_tree (key k) (bucket_of below (of_key k)) ∷ []) (outs_of below key of_key ks)),
    ap (λ n. left + n) (sum_by-cons (λ j. bucket_count (bucket_of below (of_key j))) k ks)
        ∙ joined (bucket_count (bucket_of below (of_key k))) (buckets_of below of_key ks) told.1 behind.1,
  )
    where
      joined : (part rest : ℕ) → mid + part ≡ room → left + rest ≡ mid → left + (part + rest) ≡ room
      joined part rest a b = omega (arith, a, b)

  pub first_stopped : (room : ℕ) (e : AggError) → IsStop room (bucket_count (bucket_of below (of_key k))) e → IsStop room (buckets_of below of_key (k ∷ ks)) e
  first_stopped room e stop = one_stopped room room (buckets_of below of_key (k ∷ ks)) e refl stop

  pub later_stopped : (room mid : ℕ) (e : AggError) → mid + bucket_count (bucket_of below (of_key k)) ≡ room → IsStop mid (buckets_of below of_key ks) e → IsStop room (buckets_of below of_key (k ∷ ks)) e
  later_stopped room mid e told stop =
      stop_more mid (buckets_of below of_key ks) room (buckets_of below of_key (k ∷ ks)) 0 e
      (joined (bucket_count (bucket_of below (of_key k))) (buckets_of below of_key ks) (buckets_of below of_key (k ∷ ks)) told (sum_by-cons (λ j. bucket_count (bucket_of below (of_key j))) k ks)) stop
    where
      joined : (part rest all : ℕ) → mid + part ≡ room → all ≡ part + rest → room + (rest + 0) ≡ mid + all
      joined part rest all a b = omega (arith, a, b)

-- ---- buckets of time, one behind the other

-- what is told and what is left, in front of a start
abbrev pub Behind : Level → (List Sample → Results) → (ℤ → List Sample) → ℤ → ℕ → ℕ → BTreeMap ℤ Bucket → List Out → List Out → ℕ → ℕ → ℕ → Type 0
Behind level below of_start at n k m outs all room0 room total =
    StandBehind level at m of_start × (outs ++ outs_of below start_members of_start (starts_from (at +ℤ pos n) n k) ≡ all) × (room0 + buckets_of below of_start (starts_from (at +ℤ pos n) n k) ≡ room + total)

opened : (at next : ℤ) (n k j : ℕ) → k ≡ suc j → next ≡ at +ℤ pos n → starts_from (at +ℤ pos n) n k ≡ next ∷ starts_from (next +ℤ pos n) n j
opened at next n k j is next_is = ap (starts_from (at +ℤ pos n) n) is ∙ ap (λ t. t ∷ starts_from (t +ℤ pos n) n j) (sym next_is)

pub behind_more : (level : Level) (below : List Sample → Results) (of_start : ℤ → List Sample) (at next : ℤ) (n k j room left room0 total : ℕ) (m after_m : BTreeMap ℤ Bucket) (outs after all : List Out) (out : Out) →
    k ≡ suc j → next ≡ at +ℤ pos n → at <ℤ next → ((xs : List Sample) → IsBucketOf level (get int_cmp m next) xs → IsBucketTold below (start_members next) xs room left out) →
    ((t : ℤ) → next <ℤ t → get int_cmp after_m t ≡ get int_cmp m t) → after ≡ outs ++ out ∷ [] → Behind level below of_start at n k m outs all room0 room total → Behind level below of_start next n j after_m after all room0 left total
behind_more level below of_start at next n k j room left room0 total m after_m outs after all out is next_is behind told others more before =
    let starts = opened at next n k j is next_is in
    let step = one_more below of_start next (starts_from (next +ℤ pos n) n j) start_members room left room0 total outs after all out (told (of_start next) (before.0 next behind)) more
    (subst (λ ts. outs ++ outs_of below start_members of_start ts ≡ all) starts before.1) (subst (λ ts. room0 + buckets_of below of_start ts ≡ room + total) starts before.2) in
    (λ t later. subst (λ o. IsBucketOf level o (of_start t)) (sym (others t later)) (before.0 t (int_later at next t behind later)), step.0, step.1)

pub behind_stopped : (level : Level) (below : List Sample → Results) (of_start : ℤ → List Sample) (at next : ℤ) (n k j room room0 total : ℕ) (m : BTreeMap ℤ Bucket) (outs all : List Out) (e : AggError) →
    k ≡ suc j → next ≡ at +ℤ pos n → at <ℤ next → ((xs : List Sample) → IsBucketOf level (get int_cmp m next) xs → IsStop room (bucket_count (bucket_of below xs)) e) →
    Behind level below of_start at n k m outs all room0 room total → IsStop room0 total e
behind_stopped level below of_start at next n k j room room0 total m outs all e is next_is behind stop before =
    one_stopped below of_start next (starts_from (next +ℤ pos n) n j) room room0 total e
    (subst (λ ts. room0 + buckets_of below of_start ts ≡ room + total) (opened at next n k j is next_is) before.2) (stop (of_start next) (before.0 next behind))

pub behind_done : (level : Level) (below : List Sample → Results) (of_start : ℤ → List Sample) (at : ℤ) (n k room room0 total : ℕ) (m : BTreeMap ℤ Bucket) (outs all : List Out) → k ≡ 0 →
    Behind level below of_start at n k m outs all room0 room total → (outs ≡ all) × (room + total ≡ room0)
behind_done level below of_start at n k room room0 total m outs all none before = (
  sym (append-nil outs) ∙ subst (λ i. outs ++ outs_of below start_members of_start (starts_from (at +ℤ pos n) n i) ≡ all) none before.1,
  none_left (subst (λ i. room0 + buckets_of below of_start (starts_from (at +ℤ pos n) n i) ≡ room + total) none before.2),
)
  where
    none_left : room0 + 0 ≡ room + total → room + total ≡ room0
    none_left is = omega (arith, is)

-- ---- buckets as entries

pub marks_each : {K : Type 0} (cmp : K → K → Ordering) (total : IsTotalOrder cmp) (tied : (x y : K) → cmp x y ≡ Equal → x ≡ y) (below : Level) (m : BTreeMap K Bucket) (of_key : K → List Sample) →
    IsOrdered cmp m → MarksStand cmp below m of_key → Each (λ e. BucketStands below e.1 (of_key e.0)) m.entries
marks_each {K} cmp total tied below m of_key ordered stands =
    Each-weaker (λ (e : K × Bucket). lookup (is_at (cmp e.0)) m.entries ≡ Some e.1) (λ (e : K × Bucket). BucketStands below e.1 (of_key e.0))
    (λ e found. (subst (λ o. IsBucketOf below o (of_key e.0)) found (stands e.0)).1) m.entries (entries_found cmp total tied m.entries ordered)

-- what is told and what is left of buckets with so many documents
abbrev pub Filled : Level → (List Sample → Results) → (ℤ → List Sample) → ℕ → List (ℤ × Bucket) → List Out → List Out → ℕ → ℕ → ℕ → Type 0
Filled level below of_start least entries outs all room0 room total =
    Each (λ e. BucketStands level e.1 (of_start e.0)) entries × (outs ++ outs_of below start_members of_start (of_least least of_start (keys_of entries)) ≡ all)
    × (room0 + buckets_of below of_start (of_least least of_start (keys_of entries)) ≡ room + total)

of_least_opened : (of_start : ℤ → List Sample) (least : ℕ) (start : ℤ) (bucket : Bucket) (rest entries : List (ℤ × Bucket)) (b : Bool) → entries ≡ (start, bucket) ∷ rest → nat_le least (documents_in (of_start start)) ≡ b →
    of_least least of_start (keys_of entries) ≡ cond b (start ∷ of_least least of_start (keys_of rest)) (of_least least of_start (keys_of rest))
of_least_opened of_start least start bucket rest entries b is test =
    ap (λ es. of_least least of_start (keys_of es)) is ∙ ap (λ c. cond c (start ∷ of_least least of_start (keys_of rest)) (of_least least of_start (keys_of rest))) test

pub filled_more : (level : Level) (below : List Sample → Results) (of_start : ℤ → List Sample) (least : ℕ) (start : ℤ) (bucket : Bucket) (rest entries : List (ℤ × Bucket)) (room left room0 total : ℕ) (outs after all : List Out) (out : Out) →
    entries ≡ (start, bucket) ∷ rest → least ≤ (out-Bucket bucket).documents → ((xs : List Sample) → BucketStands level bucket xs → IsBucketTold below (start_members start) xs room left out) → after ≡ outs ++ out ∷ [] →
    Filled level below of_start least entries outs all room0 room total → Filled level below of_start least rest after all room0 left total
filled_more level below of_start least start bucket rest entries room left room0 total outs after all out is le told more before =
    let each = subst (Each (λ e. BucketStands level e.1 (of_start e.0))) is before.0 in
    let starts = of_least_opened of_start least start bucket rest entries true is (le_test least (documents_in (of_start start)) (subst (λ d. least ≤ d) each.0.0 le)) in
    let step = one_more below of_start start (of_least least of_start (keys_of rest)) start_members room left room0 total outs after all out (told (of_start start) each.0) more
    (subst (λ ts. outs ++ outs_of below start_members of_start ts ≡ all) starts before.1) (subst (λ ts. room0 + buckets_of below of_start ts ≡ room + total) starts before.2) in
    (each.1, step.0, step.1)

pub filled_passed : (level : Level) (below : List Sample → Results) (of_start : ℤ → List Sample) (least : ℕ) (start : ℤ) (bucket : Bucket) (rest entries : List (ℤ × Bucket)) (room room0 total : ℕ) (outs all : List Out) →
    entries ≡ (start, bucket) ∷ rest → (out-Bucket bucket).documents < least → Filled level below of_start least entries outs all room0 room total → Filled level below of_start least rest outs all room0 room total
filled_passed level below of_start least start bucket rest entries room room0 total outs all is lt before =
    let each = subst (Each (λ e. BucketStands level e.1 (of_start e.0))) is before.0 in
    let starts = of_least_opened of_start least start bucket rest entries false is (gt_test least (documents_in (of_start start)) (subst (λ d. d < least) each.0.0 lt)) in
    (each.1, subst (λ ts. outs ++ outs_of below start_members of_start ts ≡ all) starts before.1, subst (λ ts. room0 + buckets_of below of_start ts ≡ room + total) starts before.2)

pub filled_stopped : (level : Level) (below : List Sample → Results) (of_start : ℤ → List Sample) (least : ℕ) (start : ℤ) (bucket : Bucket) (rest entries : List (ℤ × Bucket)) (room room0 total : ℕ) (outs all : List Out) (e : AggError) →
    entries ≡ (start, bucket) ∷ rest → least ≤ (out-Bucket bucket).documents → ((xs : List Sample) → BucketStands level bucket xs → IsStop room (bucket_count (bucket_of below xs)) e) →
    Filled level below of_start least entries outs all room0 room total → IsStop room0 total e
filled_stopped level below of_start least start bucket rest entries room room0 total outs all e is le stop before =
    let each = subst (Each (λ f. BucketStands level f.1 (of_start f.0))) is before.0 in
    let starts = of_least_opened of_start least start bucket rest entries true is (le_test least (documents_in (of_start start)) (subst (λ d. least ≤ d) each.0.0 le)) in
    one_stopped below of_start start (of_least least of_start (keys_of rest)) room room0 total e (subst (λ ts. room0 + buckets_of below of_start ts ≡ room + total) starts before.2) (stop (of_start start) each.0)

-- ---- a histogram

shown_all : (n least : ℕ) (below : List Sample → Results) (of_start : ℤ → List Sample) (filled : List ℤ) → least ≡ 0 → starts_shown n least (λ t. bucket_of below (of_start t)) filled ≡ starts_between n filled
shown_all n least below of_start filled none = ap (λ l. starts_shown n l (λ t. bucket_of below (of_start t)) filled) none

shown_filled : (n least : ℕ) (below : List Sample → Results) (of_start : ℤ → List Sample) (filled : List ℤ) → (least ≡ 0 → ⊥) → starts_shown n least (λ t. bucket_of below (of_start t)) filled ≡ of_least least of_start filled
shown_filled n zero below of_start filled some = absurd (some refl)
shown_filled n (suc least) below of_start filled some = refl

-- by the starts that have samples, in order
pub shown_between : (n least : ℕ) (below : List Sample → Results) (xs : List Sample) (ks : List ℤ) → ks ≡ starts_at n xs → least ≡ 0 →
    starts_between n ks ≡ starts_shown n least (λ t. bucket_of below (in_bucket n xs t)) (starts_at n xs)
shown_between n least below xs ks is none = ap (starts_between n) is ∙ sym (shown_all n least below (in_bucket n xs) (starts_at n xs) none)

pub shown_least : (n least : ℕ) (below : List Sample → Results) (xs : List Sample) (ks : List ℤ) → ks ≡ starts_at n xs → (least ≡ 0 → ⊥) →
    of_least least (in_bucket n xs) ks ≡ starts_shown n least (λ t. bucket_of below (in_bucket n xs t)) (starts_at n xs)
shown_least n least below xs ks is some = ap (of_least least (in_bucket n xs)) is ∙ sym (shown_filled n least below (in_bucket n xs) (starts_at n xs) some)

pub times_told : (below : List Sample → Results) (n least : ℕ) (f : Placed) (xs : List Sample) (ts : List ℤ) (room left : ℕ) (none outs : List Out) (out : Out) →
    ts ≡ starts_shown n least (λ t. bucket_of below (in_bucket n xs t)) (starts_at n xs) → none ≡ [] → AreBucketsTold below start_members (in_bucket n xs) ts room left none outs → out ≡ histogram_tree outs →
    IsTold (histogram_answer below n least (Some f) xs) room left out
times_told below n least f xs ts room left none outs out is empty told made =
    subst (λ us. IsTold (histogram_at (λ t. bucket_of below (in_bucket n xs t)) us) room left out) is
    (made ∙ ap histogram_tree (told.0 ∙ ap (λ os. os ++ outs_of below start_members (in_bucket n xs) ts) empty), told.1)

-- ---- buckets of values

last_each : {A : Type 0} (P : A → Type 0) (es : List A) (e : A) → Each P (es ++ e ∷ []) → Each P es × P e
last_each P [] e each = (tt, each.0)
last_each P (f ∷ es) e each = let rest = last_each P es e each.1 in ((each.0, rest.0), rest.1)

abbrev pub values_in : List (Scalar × Bucket) → List Scalar
values_in es = map (λ e. e.0) es

abbrev pub Kept : Level → (List Sample → Results) → (Scalar → List Sample) → ℕ → List (Scalar × Bucket) → List Out → List Out → ℕ → ℕ → ℕ → Type 0
Kept level below of_value n shown outs all room0 room total =
    Each (IsEntryOf level of_value) shown × (outs ++ outs_of below value_members of_value (take n (values_in (reverse shown))) ≡ all) × (room0 + buckets_of below of_value (take n (values_in (reverse shown))) ≡ room + total)

pub reversed_last : {A : Type 0} (shown rest : List A) (e : A) → shown ≡ rest ++ e ∷ [] → reverse shown ≡ e ∷ reverse rest
reversed_last shown rest e is = ap reverse is ∙ reverse-append rest (e ∷ [])

taken : (value : Scalar) (bucket : Bucket) (shown rest : List (Scalar × Bucket)) (n k : ℕ) → n ≡ suc k → shown ≡ rest ++ (value, bucket) ∷ [] → take n (values_in (reverse shown)) ≡ value ∷ take k (values_in (reverse rest))
taken value bucket shown rest n k is last = ap (λ i. take i (values_in (reverse shown))) is ∙ ap (λ es. take (suc k) (values_in es)) (reversed_last shown rest (value, bucket) last)

pub kept_more : (level : Level) (below : List Sample → Results) (of_value : Scalar → List Sample) (value : Scalar) (bucket : Bucket) (shown rest : List (Scalar × Bucket)) (n k room left room0 total : ℕ) (outs after all : List Out) (out : Out) →
    n ≡ suc k → shown ≡ rest ++ (value, bucket) ∷ [] → ((xs : List Sample) → BucketStands level bucket xs → IsBucketTold below (value_members value) xs room left out) → after ≡ outs ++ out ∷ [] →
    Kept level below of_value n shown outs all room0 room total → Kept level below of_value k rest after all room0 left total
kept_more level below of_value value bucket shown rest n k room left room0 total outs after all out is last told more before =
    let each = last_each (IsEntryOf level of_value) rest (value, bucket) (subst (Each (IsEntryOf level of_value)) last before.0) in
    let front = taken value bucket shown rest n k is last in
    let step = one_more below of_value value (take k (values_in (reverse rest))) value_members room left room0 total outs after all out (told (of_value value) each.1) more
    (subst (λ vs. outs ++ outs_of below value_members of_value vs ≡ all) front before.1) (subst (λ vs. room0 + buckets_of below of_value vs ≡ room + total) front before.2) in
    (each.0, step.0, step.1)

pub kept_stopped : (level : Level) (below : List Sample → Results) (of_value : Scalar → List Sample) (value : Scalar) (bucket : Bucket) (shown rest : List (Scalar × Bucket)) (n k room room0 total : ℕ) (outs all : List Out) (e : AggError) →
    n ≡ suc k → shown ≡ rest ++ (value, bucket) ∷ [] → ((xs : List Sample) → BucketStands level bucket xs → IsStop room (bucket_count (bucket_of below xs)) e) →
    Kept level below of_value n shown outs all room0 room total → IsStop room0 total e
kept_stopped level below of_value value bucket shown rest n k room room0 total outs all e is last stop before =
    let each = last_each (IsEntryOf level of_value) rest (value, bucket) (subst (Each (IsEntryOf level of_value)) last before.0) in
    one_stopped below of_value value (take k (values_in (reverse rest))) room room0 total e
    (subst (λ vs. room0 + buckets_of below of_value vs ≡ room + total) (taken value bucket shown rest n k is last) before.2) (stop (of_value value) each.1)

pub dropped : {A : Type 0} (shown rest done : List A) (e : A) (n k : ℕ) → n ≡ suc k → shown ≡ rest ++ e ∷ [] → drop n (reverse shown) ≡ done → drop k (reverse rest) ≡ done
dropped shown rest done e n k is last same = sym (ap (λ i. drop i (reverse shown)) is ∙ ap (drop (suc k)) (reversed_last shown rest e last)) ∙ same

-- ---- documents of values

sum_reversed : (es : List (Scalar × Bucket)) → sum_by (λ e. (out-Bucket e.1).documents) (reverse es) ≡ sum_by (λ e. (out-Bucket e.1).documents) es
sum_reversed [] = refl
sum_reversed (e ∷ es) =
    ap (sum_by (λ f. (out-Bucket f.1).documents)) (reverse-append (e ∷ []) es)
    ∙ joined (out-Bucket e.1).documents (sum_by-append (λ f. (out-Bucket f.1).documents) (reverse es) (e ∷ [])) (sum_by-cons (λ f. (out-Bucket f.1).documents) e []) (sum_by-cons (λ f. (out-Bucket f.1).documents) e es) (sum_reversed es)
  where
    joined : {a b c d s : ℕ} (one : ℕ) → a ≡ b + c → c ≡ one + 0 → d ≡ one + s → b ≡ s → a ≡ d
    joined one p q r t = omega (arith, p, q, r, t)

weights : (weight : Scalar → ℕ) (es : List (Scalar × Bucket)) → Each (Weighs weight) es → sum_by (λ e. (out-Bucket e.1).documents) es ≡ sum_by weight (values_in es)
weights weight [] each = refl
weights weight (e ∷ es) each =
    sum_by-cons (λ f. (out-Bucket f.1).documents) e es ∙ (ap (λ d. d + sum_by (λ f. (out-Bucket f.1).documents) es) (sym each.0)
    ∙ (ap (λ s. weight e.0 + s) (weights weight es each.1) ∙ sym (sum_by-cons weight e.0 (values_in es))))

each_drop : {A : Type 0} (P : A → Type 0) (n : ℕ) (es : List A) → Each P es → Each P (drop n es)
each_drop P zero es each = each
each_drop P (suc n) [] each = tt
each_drop P (suc n) (e ∷ es) each = each_drop P n es each.1

values_drop : (n : ℕ) (es : List (Scalar × Bucket)) → values_in (drop n es) ≡ drop n (values_in es)
values_drop zero es = refl
values_drop (suc n) [] = refl
values_drop (suc n) (e ∷ es) = values_drop n es

keys_mapped : (es : List (Scalar × Bucket)) → values_in es ≡ keys_of es
keys_mapped [] = refl
keys_mapped (e ∷ es) = ap (λ ks. e.0 ∷ ks) (keys_mapped es)

-- buckets of values in the order that was asked for, the first at the end
module _ (level : Level) (below : List Sample → Results) (by_key : Option Bool) (m : BTreeMap Scalar Bucket) (f : Placed) (xs : List Sample) (shown : List (Scalar × Bucket)) (ordered : IsOrdered value_cmp m)
    (stands : ValuesStand level f.field.role f.place m xs) (is : shown ≡ reverse (entries_asked by_key m.entries)) where
  each_entry : Each (IsEntryOf level (with_value f.field.role f.place xs)) m.entries
  each_entry = marks_each value_cmp value_cmp_total value_tied level m (with_value f.field.role f.place xs) ordered stands

  each_weighs : Each (Weighs (λ v. documents_in (with_value f.field.role f.place xs v))) m.entries
  each_weighs = Each-weaker (IsEntryOf level (with_value f.field.role f.place xs)) (Weighs (λ v. documents_in (with_value f.field.role f.place xs v))) (λ e here. sym here.0) m.entries each_entry

  pub each_shown : Each (IsEntryOf level (with_value f.field.role f.place xs)) shown
  each_shown = subst (Each (IsEntryOf level (with_value f.field.role f.place xs))) (sym is)
      (each_reverse (IsEntryOf level (with_value f.field.role f.place xs)) (entries_asked by_key m.entries) (each_asked (IsEntryOf level (with_value f.field.role f.place xs)) by_key m.entries each_entry))

  in_front : reverse shown ≡ entries_asked by_key m.entries
  in_front = ap reverse is ∙ reverse-reverse (entries_asked by_key m.entries)

  pub values_shown : values_in (reverse shown) ≡ in_asked_order by_key (λ v. documents_in (with_value f.field.role f.place xs v)) (keys_at f.field.role f.place xs)
  values_shown =
      ap (λ es. values_in es) in_front ∙ (asked_keys by_key (λ v. documents_in (with_value f.field.role f.place xs v)) m.entries each_weighs
      ∙ ap (in_asked_order by_key (λ v. documents_in (with_value f.field.role f.place xs v))) (keys_mapped m.entries ∙ keys_of_values level f.field.role f.place m xs ordered stands))

  pub cut_documents : (size : ℕ) (cut : List (Scalar × Bucket)) → reverse cut ≡ drop size (reverse shown) →
      sum_by (λ e. (out-Bucket e.1).documents) cut ≡ sum_by (λ v. documents_in (with_value f.field.role f.place xs v)) (drop size (in_asked_order by_key (λ v. documents_in (with_value f.field.role f.place xs v)) (keys_at f.field.role f.place xs)))
  cut_documents size cut left =
      sym (sum_reversed cut) ∙ (ap (sum_by (λ e. (out-Bucket e.1).documents)) (left ∙ ap (drop size) in_front)
      ∙ (weights (λ v. documents_in (with_value f.field.role f.place xs v)) (drop size (entries_asked by_key m.entries))
      (each_drop (Weighs (λ v. documents_in (with_value f.field.role f.place xs v))) size (entries_asked by_key m.entries) (each_asked (Weighs (λ v. documents_in (with_value f.field.role f.place xs v))) by_key m.entries each_weighs))
      ∙ ap (sum_by (λ v. documents_in (with_value f.field.role f.place xs v))) (values_drop size (entries_asked by_key m.entries) ∙ ap (drop size) (ap (λ es. values_in es) (sym in_front) ∙ values_shown))))

  pub values_told : (size room left : ℕ) (none outs : List Out) (cut : List (Scalar × Bucket)) (other : ℤ) (out : Out) → none ≡ [] →
      AreBucketsTold below value_members (with_value f.field.role f.place xs) (take size (values_in (reverse shown))) room left none outs → reverse cut ≡ drop size (reverse shown) →
      other ≡ pos (sum_by (λ e. (out-Bucket e.1).documents) cut) → out ≡ terms_object other outs → IsTold (terms_answer below size by_key (Some f) xs) room left out
  values_told size room left none outs cut other out empty told rest sum made =
      let vs = in_asked_order by_key (λ v. documents_in (with_value f.field.role f.place xs v)) (keys_at f.field.role f.place xs) in
      let here = subst (λ us. AreBucketsTold below value_members (with_value f.field.role f.place xs) (take size us) room left [] outs) values_shown
      (subst (λ os. AreBucketsTold below value_members (with_value f.field.role f.place xs) (take size (values_in (reverse shown))) room left os outs) empty told) in (
        made ∙ (ap (λ z. terms_object z outs) (sum ∙ ap pos (cut_documents size cut rest))
            ∙ ap (terms_object (pos (sum_by (λ v. documents_in (with_value f.field.role f.place xs v)) (drop size vs)))) here.0),
        here.1,
      )

  pub values_stopped : (size room : ℕ) (e : AggError) → IsStop room (buckets_of below (with_value f.field.role f.place xs) (take size (values_in (reverse shown)))) e → IsStop room (terms_answer below size by_key (Some f) xs).buckets e
  values_stopped size room e stop = subst (λ vs. IsStop room (buckets_of below (with_value f.field.role f.place xs) (take size vs)) e) values_shown stop
