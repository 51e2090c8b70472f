-- Aggregations by series and whole buckets answer lists that are alike with the same.
use Rattle.std.specs.Prelude.{◌≡◌, ℕ, zero, suc, ℤ, ◌<◌, ◌%◌, ◌⊎◌, Bool, true, List, [], ◌∷◌, map, flat_map, Option, Some, None}
use Rattle.std.specs.Cmp.{int_cmp_total}
use Rattle.std.specs.Cmp.Lexicographic.{slice_cmp, nat_list_cmp_total}
use Rattle.std.specs.List.{slice_get, list_any}
use Rattle.std.specs.Ordering.{is_eq, nat_cmp, int_cmp, int_eq}
use Rattle.std.proofs.Common.{refl, ap, ◌∙◌, sym, subst, inl, inr}
use mathlib.Core.Path.{fun_ext}
use Rattle.time_text.specs.Bucket.{bucket_start}
use Rattle.time_text.specs.Interval.{ms_of}
use Rattle.time_text.specs.BucketLaws.{nest}
use Rattle.fold_law.specs.declared.counters.Rising.{Rising}
use Rattle.fold_law.specs.Laws.{fold_of}
use Rattle.fold_law.specs.Rises.{no_rise, merge_risings}
use Rattle.row_cells.specs.declared.scalars.Scalar.{Scalar}
use Rattle.row_cells.specs.declared.schemas.Role.{Role}
use Rattle.row_cells.specs.declared.schemas.Role.TheVariants.{Dimension, Gauge, Counter}
use Rattle.row_cells.specs.declared.schemas.Field.{Field}
use Rattle.row_cells.specs.Each.{Each}
use Rattle.row_cells.specs.EachLaws.{Each-weaker, Each-all}
use Rattle.downsample_fold.specs.Columns.{total_of}
use Rattle.row_cells.specs.Mapped.{IsRoleAt}
use Rattle.search_filter.specs.Values.{values_of, number_of, value_cmp}
use Rattle.search_filter.specs.ValueLaws.{value_cmp_total, whole_tied, word_tied, value_tied}
use Rattle.histogram_aggs.specs.declared.aggs.AggKind.{AggKind}
use Rattle.histogram_aggs.specs.declared.aggs.AggKind.TheVariants.{Min, Max, Sum, ValueCount, Increase, Terms, DateHistogram}
use Rattle.histogram_aggs.specs.Asks.{Asks, no_asks, ask}
use Rattle.histogram_aggs.specs.Sets.{ascending}
use Rattle.histogram_aggs.specs.Samples.{Sample, values_at}
use Rattle.histogram_aggs.specs.Metrics.{gauge_all, gauge_metric, numbers_at, of_window, rise_in_order, windows_of, series_in, increase_of, increase_in, metric_by, first_of, last_of}
use Rattle.histogram_aggs.specs.Buckets.{keys_at, with_value, in_bucket, starts_at}
use Rattle.histogram_aggs.specs.Answers.{Answer, Results, Bucket, bucket_of, Placed, placed_of, field_of, metric_tree, type_shown, terms_over, terms_answer, histogram_over, histogram_answer, answer_of, with_answer, results_of, within_limit}
use Rattle.histogram_aggs.specs.Alike.{Choice, Head, Keeps, IsOfHead, pick, Alike, IsSeriesWise, AreSeriesWise}
use Rattle.histogram_aggs.specs.Laws.{AggsAlike}
use Rattle.histogram_aggs.specs.PickLaws.{filter-same, alike-pick, alike-documents, alike-gauge, alike-rise, same-marks}

-- ---- the field at a place

role-at : (fields : List Field) (from place : ℕ) (f : Placed) → placed_of from (slice_get fields place) ≡ Some f → (f.place ≡ from) × IsRoleAt f.field.role fields place
role-at [] from place f is = cc
role-at (g ∷ fields) from zero f is = let same = placed_is g f is in (ap (λ p. p.place) (sym same), ap (λ p. p.field.role) same)
  where
    placed_is : (h : Field) (p : Placed) → placed_of from (Some h) ≡ Some p → ◌≡◌ {A = Placed} (record { place = from; field = h }) p
    placed_is h p same = cc
role-at (g ∷ fields) from (suc place) f is = role-at fields from place f is

-- a mapped field has its role at its place
field-role : (fields : List Field) (asked : Option ℕ) (f : Placed) → field_of fields asked ≡ Some f → IsRoleAt f.field.role fields f.place
field-role fields None f is = cc
field-role fields (Some place) f is = let at = role-at fields place place f is in subst (λ p. IsRoleAt f.field.role fields p) (sym at.0) at.1

-- ---- marks

flat-same : {A : Type 0} (f g : Sample → List A) (xs : List Sample) → Each (λ s. f s ≡ g s) xs → flat_map f xs ≡ flat_map g xs
flat-same f g [] each = refl
flat-same f g (s ∷ xs) each = rw (each.0, flat-same f g xs each.1) refl

map-flat : {A : Type 0} (f : Sample → A) (xs : List Sample) → map f xs ≡ flat_map (λ s. f s ∷ []) xs
map-flat f [] = refl
map-flat f (s ∷ xs) = ap (λ ys. f s ∷ ys) (map-flat f xs)

values-same : (n : ℕ) (fields : List Field) (head : Head) (keeps : Keeps) (role : Role) (place : ℕ) (s : Sample) → role ≡ Dimension → IsRoleAt role fields place → IsOfHead fields head s → values_at role place s ≡ values_of (head s.row.key place)
values-same n fields head keeps role place s is at of_head =
    ap (λ r. values_at r place s) is ∙ ap values_of (of_head.dimensions place (subst (λ r. IsRoleAt r fields place) is at))

module _ (n : ℕ) (some : 0 < n) (fields : List Field) (head : Head) (keeps : Keeps) where
  -- ---- metrics

  same-starts : (xs ys : List Sample) → Alike n fields head keeps xs ys → windows_of xs ≡ windows_of ys
  same-starts xs ys alike =
      ap (ascending int_cmp) (map-flat (λ s. s.start) xs)
      ∙ (same-marks int_cmp int_cmp_total whole_tied n fields head keeps (λ key start bucket. start ∷ []) xs ys alike
      ∙ sym (ap (ascending int_cmp) (map-flat (λ s. s.start) ys)))

  same-series : (xs ys : List Sample) → Alike n fields head keeps xs ys → series_in xs ≡ series_in ys
  same-series xs ys alike =
      ap (ascending (slice_cmp nat_cmp)) (map-flat (λ s. s.row.key) xs)
      ∙ (same-marks (slice_cmp nat_cmp) nat_list_cmp_total word_tied n fields head keeps (λ key start bucket. key ∷ []) xs ys alike
      ∙ sym (ap (ascending (slice_cmp nat_cmp)) (map-flat (λ s. s.row.key) ys)))

  abbrev increase_by : (List ℕ → ℤ → Rising) → List ℤ → List (List ℕ) → ℤ
  increase_by rise windows series = total_of (map (λ key. increase_in (fold_of no_rise merge_risings (rise key) windows).0) series)

  same-increase : (place : ℕ) (xs ys : List Sample) → IsRoleAt Counter fields place → keeps place ≡ true → Alike n fields head keeps xs ys → increase_of place xs ≡ increase_of place ys
  same-increase place xs ys at kept alike =
      let rises : (λ key start. rise_in_order place (of_window key start xs)) ≡ (λ key start. rise_in_order place (of_window key start ys)) = fun_ext (λ key. fun_ext (λ start. alike-rise n fields head keeps xs ys alike place key start at kept)) in
      ap (λ rise. increase_by rise (windows_of xs) (series_in xs)) rises
      ∙ (ap (λ windows. increase_by (λ key start. rise_in_order place (of_window key start ys)) windows (series_in xs)) (same-starts xs ys alike)
      ∙ ap (λ series. increase_by (λ key start. rise_in_order place (of_window key start ys)) (windows_of ys) series) (same-series xs ys alike))

  abbrev numbers_of : ℕ → List ℕ → List ℤ
  numbers_of place key = map number_of (values_of (head key place))

  same-numbers : (role : Role) (place : ℕ) (xs ys : List Sample) → role ≡ Dimension → IsRoleAt role fields place → Alike n fields head keeps xs ys → ascending int_cmp (numbers_at role place xs) ≡ ascending int_cmp (numbers_at role place ys)
  same-numbers role place xs ys is at alike =
      ap (ascending int_cmp) (flat-same (λ s. map number_of (values_at role place s)) (λ s. numbers_of place s.row.key) xs (Each-weaker (IsOfHead fields head) (λ s. map number_of (values_at role place s) ≡ numbers_of place s.row.key) (λ s of_head. ap (map number_of) (values-same n fields head keeps role place s is at of_head)) xs alike.first))
      ∙ (same-marks int_cmp int_cmp_total whole_tied n fields head keeps (λ key start bucket. numbers_of place key) xs ys alike
      ∙ sym (ap (ascending int_cmp) (flat-same (λ s. map number_of (values_at role place s)) (λ s. numbers_of place s.row.key) ys (Each-weaker (IsOfHead fields head) (λ s. map number_of (values_at role place s) ≡ numbers_of place s.row.key) (λ s of_head. ap (map number_of) (values-same n fields head keeps role place s is at of_head)) ys alike.second))))

  same-keys : (role : Role) (place : ℕ) (xs ys : List Sample) → role ≡ Dimension → IsRoleAt role fields place → Alike n fields head keeps xs ys → keys_at role place xs ≡ keys_at role place ys
  same-keys role place xs ys is at alike =
      ap (ascending value_cmp) (flat-same (values_at role place) (λ s. values_of (head s.row.key place)) xs (Each-weaker (IsOfHead fields head) (λ s. values_at role place s ≡ values_of (head s.row.key place)) (λ s of_head. values-same n fields head keeps role place s is at of_head) xs alike.first))
      ∙ (same-marks value_cmp value_cmp_total value_tied n fields head keeps (λ key start bucket. values_of (head key place)) xs ys alike
      ∙ sym (ap (ascending value_cmp) (flat-same (values_at role place) (λ s. values_of (head s.row.key place)) ys (Each-weaker (IsOfHead fields head) (λ s. values_at role place s ≡ values_of (head s.row.key place)) (λ s of_head. values-same n fields head keeps role place s is at of_head) ys alike.second))))

  -- ---- the rows of a bucket are picked

  abbrev has_value : ℕ → Scalar → Choice
  has_value place v = λ key start bucket. list_any (λ w. is_eq (value_cmp w v)) (values_of (head key place))

  with_value-pick : (role : Role) (place : ℕ) (v : Scalar) (xs : List Sample) → role ≡ Dimension → IsRoleAt role fields place → Each (IsOfHead fields head) xs → with_value role place xs v ≡ pick n (has_value place v) xs
  with_value-pick role place v xs is at each =
      filter-same (λ s. list_any (λ w. is_eq (value_cmp w v)) (values_at role place s)) (λ s. has_value place v s.row.key s.start (bucket_start n s.row.time)) xs
      (Each-weaker (IsOfHead fields head) (λ s. list_any (λ w. is_eq (value_cmp w v)) (values_at role place s) ≡ has_value place v s.row.key s.start (bucket_start n s.row.time)) (λ s of_head. ap (list_any (λ w. is_eq (value_cmp w v))) (values-same n fields head keeps role place s is at of_head)) xs each)

  abbrev is_within : ℕ → ℤ → Choice
  is_within wide t = λ key start bucket. int_eq (bucket_start wide bucket) t

  in_bucket-pick : (wide : ℕ) (t : ℤ) (xs : List Sample) → 0 < wide → wide % n ≡ 0 → in_bucket wide xs t ≡ pick n (is_within wide t) xs
  in_bucket-pick wide t xs some_wide multiple =
      filter-same (λ s. int_eq (bucket_start wide s.row.time) t) (λ s. is_within wide t s.row.key s.start (bucket_start n s.row.time)) xs
      (Each-all (λ s. int_eq (bucket_start wide s.row.time) t ≡ is_within wide t s.row.key s.start (bucket_start n s.row.time)) (λ s. ap (λ b. int_eq b t) (sym (nest n wide s.row.time some_wide some multiple))) xs)

  same-filled : (wide : ℕ) (xs ys : List Sample) → 0 < wide → wide % n ≡ 0 → Alike n fields head keeps xs ys → starts_at wide xs ≡ starts_at wide ys
  same-filled wide xs ys some_wide multiple alike =
      let within : (λ s. bucket_start wide s.row.time ∷ []) ≡ (λ (s : Sample). bucket_start wide (bucket_start n s.row.time) ∷ []) = fun_ext (λ s. ap (λ b. b ∷ []) (sym (nest n wide s.row.time some_wide some multiple))) in
      ap (ascending int_cmp) (map-flat (λ s. bucket_start wide s.row.time) xs ∙ ap (λ f. flat_map f xs) within)
      ∙ (same-marks int_cmp int_cmp_total whole_tied n fields head keeps (λ key start bucket. bucket_start wide bucket ∷ []) xs ys alike
      ∙ sym (ap (ascending int_cmp) (map-flat (λ s. bucket_start wide s.row.time) ys ∙ ap (λ f. flat_map f ys) within)))

  -- ---- one aggregation, over any that agree below it

  abbrev Agree : (List Sample → Results) → Type 0
  Agree below = (xs ys : List Sample) → Alike n fields head keeps xs ys → below xs ≡ below ys

  same-bucket : (below : List Sample → Results) (xs ys : List Sample) (c : Choice) → Agree below → Alike n fields head keeps xs ys → bucket_of below (pick n c xs) ≡ bucket_of below (pick n c ys)
  same-bucket below xs ys c agree alike =
      let parts = alike-pick n fields head keeps xs ys c alike in
      bucket_eq (alike-documents n fields head keeps (pick n c xs) (pick n c ys) parts) (agree (pick n c xs) (pick n c ys) parts)
    where
      bucket_eq : {d e : ℕ} {r q : Results} → d ≡ e → r ≡ q → ◌≡◌ {A = Bucket} (record { documents = d; results = r }) (record { documents = e; results = q })
      bucket_eq p q = cc

  terms-agree : (below : List Sample → Results) (size : ℕ) (by_key : Option Bool) (f : Placed) (xs ys : List Sample) → Agree below → f.field.role ≡ Dimension → IsRoleAt f.field.role fields f.place → Alike n fields head keeps xs ys →
      terms_answer below size by_key (Some f) xs ≡ terms_answer below size by_key (Some f) ys
  terms-agree below size by_key f xs ys agree is at alike =
      let buckets : (λ v. bucket_of below (with_value f.field.role f.place xs v)) ≡ (λ v. bucket_of below (with_value f.field.role f.place ys v)) = fun_ext (λ v.
      ap (bucket_of below) (with_value-pick f.field.role f.place v xs is at alike.first)
      ∙ (same-bucket below xs ys (has_value f.place v) agree alike ∙ sym (ap (bucket_of below) (with_value-pick f.field.role f.place v ys is at alike.second)))) in
      ap (λ bucket. terms_over size by_key bucket (keys_at f.field.role f.place xs)) buckets
      ∙ ap (terms_over size by_key (λ v. bucket_of below (with_value f.field.role f.place ys v))) (same-keys f.field.role f.place xs ys is at alike)

  histogram-agree : (below : List Sample → Results) (wide least : ℕ) (f : Option Placed) (xs ys : List Sample) → Agree below → 0 < wide → wide % n ≡ 0 → Alike n fields head keeps xs ys →
      histogram_answer below wide least f xs ≡ histogram_answer below wide least f ys
  histogram-agree below wide least None xs ys agree some_wide multiple alike = refl
  histogram-agree below wide least (Some f) xs ys agree some_wide multiple alike =
      let buckets : (λ t. bucket_of below (in_bucket wide xs t)) ≡ (λ t. bucket_of below (in_bucket wide ys t)) = fun_ext (λ t.
      ap (bucket_of below) (in_bucket-pick wide t xs some_wide multiple)
      ∙ (same-bucket below xs ys (is_within wide t) agree alike ∙ sym (ap (bucket_of below) (in_bucket-pick wide t ys some_wide multiple)))) in
      ap (λ bucket. histogram_over wide least bucket (starts_at wide xs)) buckets
      ∙ ap (histogram_over wide least (λ t. bucket_of below (in_bucket wide ys t))) (same-filled wide xs ys some_wide multiple alike)

  -- ---- metrics by kind

  abbrev shown_of : AggKind → Placed → Option ℤ → Answer
  shown_of kind f v = record { tree = metric_tree (type_shown kind f.field.kind) v; buckets = 0 }

  gauge-agree : (kind : AggKind) (f : Placed) (xs ys : List Sample) → (f.field.role ≡ Gauge) × (keeps f.place ≡ true) → IsRoleAt f.field.role fields f.place → Alike n fields head keeps xs ys → gauge_metric kind (gauge_all f.place xs).0 ≡ gauge_metric kind (gauge_all f.place ys).0
  gauge-agree kind f xs ys is at alike = ap (λ g. gauge_metric kind g.0) (alike-gauge n fields head keeps xs ys alike f.place (subst (λ r. IsRoleAt r fields f.place) is.0 at) is.1)

  least-agree : (f : Placed) (xs ys : List Sample) → ((f.field.role ≡ Gauge) × (keeps f.place ≡ true)) ⊎ (f.field.role ≡ Dimension) → IsRoleAt f.field.role fields f.place → Alike n fields head keeps xs ys → metric_by Min f.field.role f.place xs ≡ metric_by Min f.field.role f.place ys
  least-agree f xs ys (inl is) at alike = ap (λ r. metric_by Min r f.place xs) is.0 ∙ (gauge-agree Min f xs ys is at alike ∙ sym (ap (λ r. metric_by Min r f.place ys) is.0))
  least-agree f xs ys (inr is) at alike =
      ap (λ r. metric_by Min r f.place xs) is
      ∙ (ap (λ vs. first_of vs) (same-numbers Dimension f.place xs ys refl (subst (λ r. IsRoleAt r fields f.place) is at) alike) ∙ sym (ap (λ r. metric_by Min r f.place ys) is))

  greatest-agree : (f : Placed) (xs ys : List Sample) → ((f.field.role ≡ Gauge) × (keeps f.place ≡ true)) ⊎ (f.field.role ≡ Dimension) → IsRoleAt f.field.role fields f.place → Alike n fields head keeps xs ys → metric_by Max f.field.role f.place xs ≡ metric_by Max f.field.role f.place ys
  greatest-agree f xs ys (inl is) at alike = ap (λ r. metric_by Max r f.place xs) is.0 ∙ (gauge-agree Max f xs ys is at alike ∙ sym (ap (λ r. metric_by Max r f.place ys) is.0))
  greatest-agree f xs ys (inr is) at alike =
      ap (λ r. metric_by Max r f.place xs) is
      ∙ (ap (λ vs. last_of vs) (same-numbers Dimension f.place xs ys refl (subst (λ r. IsRoleAt r fields f.place) is at) alike) ∙ sym (ap (λ r. metric_by Max r f.place ys) is))

  answer-agree : (below : List Sample → Results) (kind : AggKind) (asked : Option ℕ) (found : Option Placed) (xs ys : List Sample) → Agree below → field_of fields asked ≡ found → IsSeriesWise n keeps kind found → Alike n fields head keeps xs ys →
      answer_of below kind found xs ≡ answer_of below kind found ys
  answer-agree below (Terms size by_key) asked None xs ys agree is wise alike = refl
  answer-agree below (Terms size by_key) asked (Some f) xs ys agree is wise alike = terms-agree below size by_key f xs ys agree wise (field-role fields asked f is) alike
  answer-agree below (DateHistogram interval least) asked found xs ys agree is wise alike = histogram-agree below (ms_of interval) least found xs ys agree wise.0 wise.1 alike
  answer-agree below Min asked None xs ys agree is wise alike = refl
  answer-agree below Min asked (Some f) xs ys agree is wise alike = ap (shown_of Min f) (least-agree f xs ys wise (field-role fields asked f is) alike)
  answer-agree below Max asked None xs ys agree is wise alike = refl
  answer-agree below Max asked (Some f) xs ys agree is wise alike = ap (shown_of Max f) (greatest-agree f xs ys wise (field-role fields asked f is) alike)
  answer-agree below Sum asked None xs ys agree is wise alike = refl
  answer-agree below Sum asked (Some f) xs ys agree is wise alike =
      ap (λ r. shown_of Sum f (metric_by Sum r f.place xs)) wise.0 ∙ (ap (shown_of Sum f) (gauge-agree Sum f xs ys wise (field-role fields asked f is) alike) ∙ sym (ap (λ r. shown_of Sum f (metric_by Sum r f.place ys)) wise.0))
  answer-agree below ValueCount asked None xs ys agree is wise alike = refl
  answer-agree below ValueCount asked (Some f) xs ys agree is wise alike =
      ap (λ r. shown_of ValueCount f (metric_by ValueCount r f.place xs)) wise.0 ∙ (ap (shown_of ValueCount f) (gauge-agree ValueCount f xs ys wise (field-role fields asked f is) alike) ∙ sym (ap (λ r. shown_of ValueCount f (metric_by ValueCount r f.place ys)) wise.0))
  answer-agree below Increase asked None xs ys agree is wise alike = refl
  answer-agree below Increase asked (Some f) xs ys agree is wise alike =
      ap (λ v. shown_of Increase f (Some v)) (same-increase f.place xs ys (subst (λ r. IsRoleAt r fields f.place) wise.0 (field-role fields asked f is)) wise.1 alike)

  -- ---- all of them

  pub results-agree : (asks : Asks) (xs ys : List Sample) → AreSeriesWise n keeps fields asks → Alike n fields head keeps xs ys → results_of asks fields xs ≡ results_of asks fields ys
  results-agree no_asks xs ys wise alike = refl
  results-agree (ask name kind place subs others) xs ys wise alike =
      joined_eq (answer-agree (λ zs. results_of subs fields zs) kind place (field_of fields place) xs ys (λ us vs parts. results-agree subs us vs wise.1 parts) refl wise.0 alike) (results-agree others xs ys wise.2 alike)
    where
      joined_eq : {a b : Answer} {r q : Results} → a ≡ b → r ≡ q → with_answer name a r ≡ with_answer name b q
      joined_eq p q = cc

pub aggs_alike : AggsAlike
aggs_alike asks fields n head keeps xs ys some wise alike = ap within_limit (results-agree n some fields head keeps asks xs ys wise alike)
