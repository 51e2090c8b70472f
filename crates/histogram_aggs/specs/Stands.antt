-- Aggregations in memory, and the samples that they stand for.
use Rattle.std.specs.Prelude.{◌≡◌, ℕ, zero, suc, ℤ, Bool, true, false, List, [], ◌∷◌, ◌++◌, Option, Some, None, if◌then◌else◌}
use Rattle.std.specs.Ordering.{int_cmp}
use Rattle.std.specs.declared.cmp.Ordering.{Ordering}
use Rattle.std.specs.BTreeMap.{BTreeMap, get}
use Rattle.time_text.specs.Interval.{ms_of}
use Rattle.fold_law.specs.declared.counters.Rise.{Rise}
use Rattle.row_cells.specs.declared.scalars.Scalar.{Scalar}
use Rattle.row_cells.specs.declared.schemas.Field.{Field}
use Rattle.row_cells.specs.declared.schemas.Role.{Role}
use Rattle.search_filter.specs.Values.{value_cmp}
use Rattle.histogram_aggs.specs.declared.aggs.Agg.{Agg, out-Agg}
use Rattle.histogram_aggs.specs.declared.aggs.AggKind.{AggKind}
use Rattle.histogram_aggs.specs.declared.aggs.AggKind.TheVariants.{Min, Max, Sum, ValueCount, Increase, Terms, DateHistogram}
use Rattle.histogram_aggs.specs.declared.state.Bucket.{Bucket, out-Bucket}
use Rattle.histogram_aggs.specs.declared.state.Node.{Node, out-Node}
use Rattle.histogram_aggs.specs.declared.state.Node.TheOpen.{Node-F}
use Rattle.histogram_aggs.specs.declared.tallies.Tally.{Tally}
use Rattle.histogram_aggs.specs.Answers.{Placed, field_of}
use Rattle.histogram_aggs.specs.Asks.{Asks, no_asks, ask}
use Rattle.histogram_aggs.specs.Buckets.{in_bucket, with_value}
use Rattle.histogram_aggs.specs.Repeats.{has_value}
use Rattle.histogram_aggs.specs.Rises.{RisesStand}
use Rattle.histogram_aggs.specs.Samples.{Sample, documents_in}
use Rattle.histogram_aggs.specs.Seen.{seen}
use Rattle.histogram_aggs.specs.Tallies.{is_measure, tally_over}

-- what a level stands for
abbrev pub Level : Type 1
Level = List Node → List Sample → Type 0

-- a bucket has the documents of its samples, and the level below stands for them
abbrev pub BucketStands : Level → Bucket → List Sample → Type 0
BucketStands below b xs = ((out-Bucket b).documents ≡ documents_in xs) × below (out-Bucket b).below.items xs

-- there is a bucket exactly where there are samples
abbrev pub IsBucketOf : Level → Option Bucket → List Sample → Type 0
IsBucketOf below None xs = xs ≡ []
IsBucketOf below (Some b) xs = (xs ≡ [] → ⊥) × BucketStands below b xs

-- for each key there is the bucket of its samples
abbrev pub MarksStand : {K : Type 0} → (K → K → Ordering) → Level → BTreeMap K Bucket → (K → List Sample) → Type 0
MarksStand {K} cmp below m of_key = (k : K) → IsBucketOf below (get cmp m k) (of_key k)

-- buckets of n milliseconds
abbrev pub TimesStand : Level → ℕ → BTreeMap ℤ Bucket → List Sample → Type 0
TimesStand below n m xs = MarksStand int_cmp below m (in_bucket n xs)

-- buckets of the values at a field
abbrev pub ValuesStand : Level → Role → ℕ → BTreeMap Scalar Bucket → List Sample → Type 0
ValuesStand below role place m xs = MarksStand value_cmp below m (with_value role place xs)

-- the samples of each value, with one more where it is among these
abbrev pub with_each : List Scalar → Sample → (Scalar → List Sample) → Scalar → List Sample
with_each vs s of_value v = of_value v ++ (if has_value vs v then s ∷ [] else [])

abbrev pub IsUnmapped : Option Placed → Type 0
IsUnmapped None = Unit {0}
IsUnmapped (Some f) = ⊥

abbrev pub MetricStands : AggKind → Option Placed → Tally → List Sample → Type 0
MetricStands kind None tally xs = ⊥
MetricStands kind (Some f) tally xs = (is_measure kind ≡ true) × (tally ≡ tally_over kind f.field.role f.place xs)

abbrev pub HistogramStands : Level → AggKind → Option Placed → BTreeMap ℤ Bucket → List Sample → Type 0
HistogramStands below (DateHistogram interval least) (Some f) m xs = TimesStand below (ms_of interval) m xs
HistogramStands below kind found m xs = ⊥

abbrev pub FieldStands : Level → Option Placed → BTreeMap Scalar Bucket → List Sample → Type 0
FieldStands below None m xs = ⊥
FieldStands below (Some f) m xs = ValuesStand below f.field.role f.place m xs

abbrev pub TermsStand : Level → AggKind → Option Placed → BTreeMap Scalar Bucket → List Sample → Type 0
TermsStand below (Terms size by_key) found m xs = FieldStands below found m xs
TermsStand below kind found m xs = ⊥

abbrev pub is_increase : AggKind → Bool
is_increase Min = false
is_increase Max = false
is_increase Sum = false
is_increase ValueCount = false
is_increase Increase = true
is_increase (Terms size by_key) = false
is_increase (DateHistogram interval least) = false

abbrev pub IncreaseStands : AggKind → Option Placed → BTreeMap (List ℕ) (BTreeMap (ℤ × ℤ) Rise) → List Sample → Type 0
IncreaseStands kind None m xs = ⊥
IncreaseStands kind (Some f) m xs = (is_increase kind ≡ true) × RisesStand f.place m xs

abbrev pub NodeStands : Level → AggKind → Option Placed → Node-F Node Bucket → List Sample → Type 0
NodeStands below kind found Node-F.Unmapped xs = IsUnmapped found
NodeStands below kind found (Node-F.Metric tally) xs = MetricStands kind found tally xs
NodeStands below kind found (Node-F.Times m) xs = HistogramStands below kind found m xs
NodeStands below kind found (Node-F.Values m) xs = TermsStand below kind found m xs
NodeStands below kind found (Node-F.Rises m) xs = IncreaseStands kind found m xs

-- each aggregation of a level by its node
abbrev pub Stands : List Field → Asks → List Node → List Sample → Type 0
Stands fields no_asks [] xs = Unit {0}
Stands fields (ask name kind place below others) (node ∷ nodes) xs = NodeStands (λ ns ys. Stands fields below ns ys) kind (field_of fields place) (out-Node node) xs × Stands fields others nodes xs
Stands fields no_asks (node ∷ nodes) xs = ⊥
Stands fields (ask name kind place below others) [] xs = ⊥

-- the first so many nodes of a level stand for the second samples, and the others for the first
abbrev pub Mixed : List Field → Asks → List Node → ℕ → List Sample → List Sample → Type 0
Mixed fields no_asks [] done xs ys = Unit {0}
Mixed fields (ask name kind place below others) (node ∷ nodes) zero xs ys = NodeStands (λ ns zs. Stands fields below ns zs) kind (field_of fields place) (out-Node node) xs × Mixed fields others nodes zero xs ys
Mixed fields (ask name kind place below others) (node ∷ nodes) (suc done) xs ys = NodeStands (λ ns zs. Stands fields below ns zs) kind (field_of fields place) (out-Node node) ys × Mixed fields others nodes done xs ys
Mixed fields no_asks (node ∷ nodes) done xs ys = ⊥
Mixed fields (ask name kind place below others) [] done xs ys = ⊥

-- what an aggregation has of samples, with those below it
abbrev pub OneStands : List Field → Agg → Node → List Sample → Type 0
OneStands fields agg node xs = NodeStands (λ ns zs. Stands fields (seen (out-Agg agg).subs) ns zs) (out-Agg agg).kind (field_of fields (out-Agg agg).field) (out-Node node) xs
