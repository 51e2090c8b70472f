-- What stands for two lists of samples, one behind the other.
use Rattle.std.proofs.Common.{◌≡◌, ◌+◌, ◌<◌, ◌≤◌, ◌⊎◌, ℕ, zero, suc, ℤ, true, false, cond, List, [], ◌∷◌, ◌++◌, length, get_or, Option, Some, None, refl, ap, ◌∙◌, sym, subst, inl, inr, arith, append-nil}
use Rattle.std.specs.Prelude.{min}
use Rattle.std.specs.Option.{IsSome}
use Rattle.std.specs.Map.{lookup}
use Rattle.std.specs.BTreeMap.{BTreeMap, get, is_at}
use Rattle.std.specs.Ordering.{is_eq, int_cmp, int_eq}
use Rattle.std.specs.declared.cmp.Ordering.{Ordering}
use Rattle.std.specs.declared.cmp.Ordering.TheVariants.{Less, Equal, Greater}
use Rattle.std.proofs.lemmas.List.Elements.{filter-append}
use Rattle.time_text.specs.Bucket.{bucket_start}
use Rattle.time_text.specs.Interval.{ms_of}
use Rattle.row_cells.specs.declared.scalars.Scalar.{Scalar}
use Rattle.row_cells.specs.declared.schemas.Field.{Field}
use Rattle.search_filter.specs.Values.{value_cmp}
use Rattle.histogram_aggs.specs.declared.aggs.Agg.{Agg}
use Rattle.histogram_aggs.specs.declared.aggs.AggKind.{AggKind}
use Rattle.histogram_aggs.specs.declared.aggs.AggKind.TheVariants.{Min, Max, Sum, ValueCount, Increase, Terms, DateHistogram}
use Rattle.histogram_aggs.specs.declared.state.Bucket.{Bucket}
use Rattle.histogram_aggs.specs.declared.state.Node.{Node, out-Node, out-roll-Node}
use Rattle.histogram_aggs.specs.declared.state.Node.TheOpen.{Node-F}
use Rattle.histogram_aggs.specs.declared.state.Node.TheVariants.{Metric, Times, Values, rolls-Metric, rolls-Times, rolls-Values}
use Rattle.histogram_aggs.specs.declared.tallies.Tally.{Tally}
use Rattle.histogram_aggs.specs.Answers.{Placed}
use Rattle.histogram_aggs.specs.Buckets.{in_bucket, with_value}
use Rattle.histogram_aggs.specs.JoinLaws.{documents_in-append}
use Rattle.histogram_aggs.specs.Merges.{Merged}
use Rattle.histogram_aggs.specs.Repeats.{has_value}
use Rattle.histogram_aggs.specs.Samples.{Sample, documents_in, values_at}
use Rattle.histogram_aggs.specs.Seen.{seen}
use Rattle.histogram_aggs.specs.Stands.{Level, BucketStands, HistogramStands, IsBucketOf, MarksStand, MetricStands, NodeStands, OneStands, Stands, TermsStand}
use Rattle.histogram_aggs.specs.Tallies.{both_tallies, tally_over}
use Rattle.histogram_aggs.specs.TallyLaws.{tallies_joined}
use Rattle.histogram_aggs.proofs.LevelSteps.{min_reached}
use Rattle.histogram_aggs.proofs.ReadingSteps.{seen_opened}

-- ---- a level

-- each aggregation of a level that stands has a node that stands
pub stands_at : (fields : List Field) (aggs : List Agg) (nodes : List Node) (i : ℕ) (agg : Agg) (node : Node) (xs : List Sample) → i < length aggs → i < length nodes → agg ≡ get_or aggs i agg → node ≡ get_or nodes i node →
    Stands fields (seen aggs) nodes xs → OneStands fields agg node xs
stands_at fields [] nodes i agg node xs lt lt_nodes is is_node stands = absurd (omega (arith, lt))
stands_at fields (a ∷ aggs) [] i agg node xs lt lt_nodes is is_node stands = absurd (omega (arith, lt_nodes))
stands_at fields (a ∷ aggs) (n ∷ nodes) zero agg node xs lt lt_nodes is is_node stands =
    let opened = subst (λ asks. Stands fields asks (n ∷ nodes) xs) (seen_opened a (seen aggs)) stands in
    subst (λ b. OneStands fields b node xs) (sym is) (subst (λ m. OneStands fields a m xs) (sym is_node) opened.0)
stands_at fields (a ∷ aggs) (n ∷ nodes) (suc i) agg node xs lt lt_nodes is is_node stands =
    let opened = subst (λ asks. Stands fields asks (n ∷ nodes) xs) (seen_opened a (seen aggs)) stands in
    stands_at fields aggs nodes i agg node xs (omega (arith, lt)) (omega (arith, lt_nodes)) is is_node opened.1

stands_length : (fields : List Field) (aggs : List Agg) (nodes : List Node) (xs : List Sample) → Stands fields (seen aggs) nodes xs → length nodes ≡ length aggs
stands_length fields [] [] xs stands = refl
stands_length fields [] (n ∷ nodes) xs stands = absurd stands
stands_length fields (a ∷ aggs) [] xs stands = absurd (subst (λ asks. Stands fields asks [] xs) (seen_opened a (seen aggs)) stands)
stands_length fields (a ∷ aggs) (n ∷ nodes) xs stands =
    let opened = subst (λ asks. Stands fields asks (n ∷ nodes) xs) (seen_opened a (seen aggs)) stands in
    ap suc (stands_length fields aggs nodes xs opened.1)

-- past the least of three lengths, of which the last is that of a level that stands, the aggregations or the nodes are done
pub level_reached : (fields : List Field) (aggs : List Agg) (others : List Node) (ys : List Sample) (nodes i m n : ℕ) → m ≡ min (length aggs) nodes → n ≡ min m (length others) → n ≤ i →
    Stands fields (seen aggs) others ys → (length aggs ≤ i) ⊎ (nodes ≤ i)
level_reached fields aggs others ys nodes i m n m_is n_is le stands =
    elim (min_reached m (length others) i n n_is le) [ inl some ↦ min_reached (length aggs) nodes i m m_is some | inr all ↦ inl (subst (λ k. k ≤ i) (stands_length fields aggs others ys stands) all) ]

-- ---- one aggregation

metric_joined : (kind : AggKind) (found : Option Placed) (a b both : Tally) (xs ys : List Sample) → both ≡ both_tallies a b →
    MetricStands kind found a xs → MetricStands kind found b ys → MetricStands kind found both (xs ++ ys)
metric_joined kind None a b both xs ys is first second = absurd first
metric_joined kind (Some f) a b both xs ys is first second = (
  first.0,
  is ∙ (ap (λ t. both_tallies t b) first.1 ∙ (ap (both_tallies (tally_over kind f.field.role f.place xs)) second.1 ∙ sym (tallies_joined kind f.field.role f.place xs ys))),
)

-- what a merge of buckets does
abbrev pub Joins : {K : Type 0} → (K → K → Ordering) → Level → BTreeMap K Bucket → BTreeMap K Bucket → BTreeMap K Bucket → Type 0
Joins {K} cmp below old others new = (xs ys : K → List Sample) → MarksStand cmp below old xs → MarksStand cmp below others ys → MarksStand cmp below new (λ k. xs k ++ ys k)

times_joined : (below : Level) (kind : AggKind) (found : Option Placed) (old others new : BTreeMap ℤ Bucket) (xs ys : List Sample) → Joins int_cmp below old others new →
    HistogramStands below kind found old xs → HistogramStands below kind found others ys → HistogramStands below kind found new (xs ++ ys)
times_joined below Min found old others new xs ys joins first second = absurd first
times_joined below Max found old others new xs ys joins first second = absurd first
times_joined below Sum found old others new xs ys joins first second = absurd first
times_joined below ValueCount found old others new xs ys joins first second = absurd first
times_joined below Increase found old others new xs ys joins first second = absurd first
times_joined below (Terms size by_key) found old others new xs ys joins first second = absurd first
times_joined below (DateHistogram interval least) None old others new xs ys joins first second = absurd first
times_joined below (DateHistogram interval least) (Some f) old others new xs ys joins first second = λ t.
    subst (λ zs. IsBucketOf below (get int_cmp new t) zs) (sym (filter-append (λ s. int_eq (bucket_start (ms_of interval) s.row.time) t) xs ys))
    (joins (in_bucket (ms_of interval) xs) (in_bucket (ms_of interval) ys) first second t)

values_joined : (below : Level) (kind : AggKind) (found : Option Placed) (old others new : BTreeMap Scalar Bucket) (xs ys : List Sample) → Joins value_cmp below old others new →
    TermsStand below kind found old xs → TermsStand below kind found others ys → TermsStand below kind found new (xs ++ ys)
values_joined below Min found old others new xs ys joins first second = absurd first
values_joined below Max found old others new xs ys joins first second = absurd first
values_joined below Sum found old others new xs ys joins first second = absurd first
values_joined below ValueCount found old others new xs ys joins first second = absurd first
values_joined below Increase found old others new xs ys joins first second = absurd first
values_joined below (DateHistogram interval least) found old others new xs ys joins first second = absurd first
values_joined below (Terms size by_key) None old others new xs ys joins first second = absurd first
values_joined below (Terms size by_key) (Some f) old others new xs ys joins first second = λ v.
    subst (λ zs. IsBucketOf below (get value_cmp new v) zs) (sym (filter-append (λ s. has_value (values_at f.field.role f.place s) v) xs ys))
    (joins (with_value f.field.role f.place xs) (with_value f.field.role f.place ys) first second v)

-- ---- their nodes

metric_out : (tally : Tally) → out-Node (Metric tally) ≡ Node-F.Metric tally
metric_out tally = ap out-Node (sym (rolls-Metric tally)) ∙ out-roll-Node (Node-F.Metric tally)

times_out : (m : BTreeMap ℤ Bucket) → out-Node (Times m) ≡ Node-F.Times m
times_out m = ap out-Node (sym (rolls-Times m)) ∙ out-roll-Node (Node-F.Times m)

values_out : (m : BTreeMap Scalar Bucket) → out-Node (Values m) ≡ Node-F.Values m
values_out m = ap out-Node (sym (rolls-Values m)) ∙ out-roll-Node (Node-F.Values m)

pub metric_nodes : (below : Level) (kind : AggKind) (found : Option Placed) (a b both : Tally) (xs ys : List Sample) → both ≡ both_tallies a b →
    NodeStands below kind found (out-Node (Metric a)) xs → NodeStands below kind found (out-Node (Metric b)) ys → NodeStands below kind found (out-Node (Metric both)) (xs ++ ys)
metric_nodes below kind found a b both xs ys is first second =
    subst (λ n. NodeStands below kind found n (xs ++ ys)) (sym (metric_out both))
    (metric_joined kind found a b both xs ys is (subst (λ n. NodeStands below kind found n xs) (metric_out a) first) (subst (λ n. NodeStands below kind found n ys) (metric_out b) second))

pub times_nodes : (below : Level) (kind : AggKind) (found : Option Placed) (old others new : BTreeMap ℤ Bucket) (xs ys : List Sample) → Joins int_cmp below old others new →
    NodeStands below kind found (out-Node (Times old)) xs → NodeStands below kind found (out-Node (Times others)) ys → NodeStands below kind found (out-Node (Times new)) (xs ++ ys)
times_nodes below kind found old others new xs ys joins first second =
    subst (λ n. NodeStands below kind found n (xs ++ ys)) (sym (times_out new))
    (times_joined below kind found old others new xs ys joins (subst (λ n. NodeStands below kind found n xs) (times_out old) first) (subst (λ n. NodeStands below kind found n ys) (times_out others) second))

pub values_nodes : (below : Level) (kind : AggKind) (found : Option Placed) (old others new : BTreeMap Scalar Bucket) (xs ys : List Sample) → Joins value_cmp below old others new →
    NodeStands below kind found (out-Node (Values old)) xs → NodeStands below kind found (out-Node (Values others)) ys → NodeStands below kind found (out-Node (Values new)) (xs ++ ys)
values_nodes below kind found old others new xs ys joins first second =
    subst (λ n. NodeStands below kind found n (xs ++ ys)) (sym (values_out new))
    (values_joined below kind found old others new xs ys joins (subst (λ n. NodeStands below kind found n xs) (values_out old) first) (subst (λ n. NodeStands below kind found n ys) (values_out others) second))

-- ---- a bucket

pub bucket_both : (below : Level) (documents more sum : ℕ) (old others new : List Node) (xs ys : List Sample) → sum ≡ documents + more →
    (below old xs → below others ys → below new (xs ++ ys)) → (documents ≡ documents_in xs) × below old xs → (more ≡ documents_in ys) × below others ys →
    (sum ≡ documents_in (xs ++ ys)) × below new (xs ++ ys)
bucket_both below documents more sum old others new xs ys sum_is later first second =
    (let one = first.0 in let two = second.0 in omega (arith, sum_is, one, two, documents_in-append xs ys), later first.1 second.1)

left_empty : {A : Type 0} (xs ys : List A) → xs ++ ys ≡ [] → xs ≡ []
left_empty [] ys is = refl
left_empty (x ∷ xs) ys is = cc

pub joined_known : (below : Level) (bucket other new : Bucket) (xs ys : List Sample) → (BucketStands below bucket xs → BucketStands below other ys → BucketStands below new (xs ++ ys)) →
    IsBucketOf below (Some bucket) xs → IsBucketOf below (Some other) ys → IsBucketOf below (Some new) (xs ++ ys)
joined_known below bucket other new xs ys later first second = (λ none. first.0 (left_empty xs ys none), later first.1 second.1)

pub joined_new : (below : Level) (other : Bucket) (xs ys : List Sample) → xs ≡ [] → IsBucketOf below (Some other) ys → IsBucketOf below (Some other) (xs ++ ys)
joined_new below other xs ys none second = subst (λ zs. IsBucketOf below (Some other) (zs ++ ys)) (sym none) second

-- ---- buckets by key

pub merged_first : (below : Level) (bucket other : Option Bucket) (xs ys : List Sample) → IsBucketOf below bucket xs → IsBucketOf below other ys → Merged below bucket other xs ys
merged_first below bucket None xs ys first second =
    subst (λ zs. IsBucketOf below bucket (xs ++ zs)) (sym second) (subst (λ zs. IsBucketOf below bucket zs) (sym (append-nil xs)) first)
merged_first below bucket (Some other) xs ys first second = (first, second)

pub merged_last : (below : Level) (bucket other : Option Bucket) (xs ys : List Sample) → other ≡ None → Merged below bucket other xs ys → IsBucketOf below bucket (xs ++ ys)
merged_last below bucket None xs ys none merged = merged
merged_last below bucket (Some other) xs ys none merged = cc

-- one bucket more is put to that of its key
pub merged_step : {K : Type 0} (cmp : K → K → Ordering) (tells : (a b : K) → cmp a b ≡ Equal → a ≡ b) (below : Level) (old removed new left later : K → Option Bucket) (key : K) (other bucket : Bucket) →
    left key ≡ Some other → ((k : K) → later k ≡ cond (is_eq (cmp key k)) None (left k)) →
    ((k : K) → removed k ≡ cond (is_eq (cmp key k)) None (old k)) → ((k : K) → new k ≡ cond (is_eq (cmp key k)) (Some bucket) (removed k)) →
    (xs ys : K → List Sample) → (IsBucketOf below (old key) (xs key) → IsBucketOf below (Some other) (ys key) → IsBucketOf below (Some bucket) (xs key ++ ys key)) →
    ((k : K) → Merged below (old k) (left k) (xs k) (ys k)) → (k : K) → Merged below (new k) (later k) (xs k) (ys k)
merged_step {K} cmp tells below old removed new left later key other bucket here less without more xs ys joins before k =
    subst (λ o. Merged below (new k) o (xs k) (ys k)) (sym (less k))
    (subst (λ b. Merged below b (cond (is_eq (cmp key k)) None (left k)) (xs k) (ys k)) (sym (more k ∙ ap (λ o. cond (is_eq (cmp key k)) (Some bucket) o) (without k)))
    (by_case (cmp key k) refl))
  where
    kept : Merged below (old k) (left k) (xs k) (ys k)
    kept = before k

    by_case : (o : Ordering) → cmp key k ≡ o → Merged below (cond (is_eq o) (Some bucket) (cond (is_eq o) None (old k))) (cond (is_eq o) None (left k)) (xs k) (ys k)
    by_case Less is = kept
    by_case Greater is = kept
    by_case Equal is =
        let both = subst (λ o. Merged below (old key) o (xs key) (ys key)) here (before key) in
        subst (λ (u : K). IsBucketOf below (Some bucket) (xs u ++ ys u)) (tells key k is) (joins both.0 both.1)

pub nothing_left : {A X : Type 0} (es : List A) (o : Option X) → o ≡ None → (0 < length es → IsSome o) → es ≡ []
nothing_left [] o none some = refl
nothing_left (e ∷ es) (Some x) none some = cc
nothing_left (e ∷ es) None none some = absurd (never (some (omega arith)))
  where
    never : false ≡ true → ⊥
    never e = cc

-- where no bucket is left, each bucket is of both
pub all_merged : {K : Type 0} (cmp : K → K → Ordering) (below : Level) (buckets others : BTreeMap K Bucket) (xs ys : K → List Sample) → others.entries ≡ [] →
    ((k : K) → Merged below (get cmp buckets k) (get cmp others k) (xs k) (ys k)) → MarksStand cmp below buckets (λ k. xs k ++ ys k)
all_merged cmp below buckets others xs ys none merged k =
    merged_last below (get cmp buckets k) (get cmp others k) (xs k) (ys k) (ap (λ es. lookup (is_at (cmp k)) es) none) (merged k)
