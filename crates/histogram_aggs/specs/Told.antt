-- What is told of aggregations in memory, and how many more buckets an answer may have.
use Rattle.std.specs.Prelude.{◌≡◌, ℕ, ℤ, ◌+◌, ◌<◌, ◌<ℤ◌, Bool, true, false, List, [], ◌∷◌, ◌++◌, map, filter, reverse, sum_by, nat_le, Option, Some, None, if◌then◌else◌}
use Rattle.std.specs.BTreeMap.{BTreeMap, get}
use Rattle.std.specs.Ordering.{int_cmp}
use Rattle.std.specs.declared.cmp.Reverse.{Reverse}
use Rattle.std.specs.declared.result.Result.{Result}
use Rattle.std.specs.declared.result.Result.TheVariants.{Err}
use Rattle.row_cells.specs.declared.scalars.Scalar.{Scalar}
use Rattle.row_cells.specs.declared.schemas.Field.{Field}
use Rattle.reply_json.specs.declared.out.Member.{Member}
use Rattle.reply_json.specs.declared.out.Out.{Out}
use Rattle.histogram_aggs.specs.declared.aggs.Agg.{Agg, out-Agg}
use Rattle.histogram_aggs.specs.declared.errors.AggError.{AggError}
use Rattle.histogram_aggs.specs.declared.errors.AggError.TheVariants.{Shape, WrongField, TooManyBuckets, NoMemory}
use Rattle.histogram_aggs.specs.declared.state.Bucket.{Bucket, out-Bucket}
use Rattle.histogram_aggs.specs.Answers.{Answer, Results, TooMany, answer_of, bucket_count, bucket_of, bucket_tree, field_of, results_of, too_many_buckets}
use Rattle.histogram_aggs.specs.Samples.{Sample, documents_in}
use Rattle.histogram_aggs.specs.Seen.{seen}
use Rattle.histogram_aggs.specs.Stands.{Level, BucketStands, IsBucketOf}

-- ---- the answers of what is below a bucket, and of one aggregation

abbrev pub results_below : List Field → List Agg → List Sample → Results
results_below fields aggs xs = results_of (seen aggs) fields xs

abbrev pub answer_one : List Field → Agg → List Sample → Answer
answer_one fields agg xs = answer_of (results_below fields (out-Agg agg).subs) (out-Agg agg).kind (field_of fields (out-Agg agg).field) xs

-- ---- what is told, where there was room for so many buckets and some is left

abbrev pub AreTold : Results → ℕ → ℕ → List Member → List Member → Type 0
AreTold r room left before after = (after ≡ before ++ r.members) × (left + r.buckets ≡ room)

abbrev pub IsTold : Answer → ℕ → ℕ → Out → Type 0
IsTold a room left out = (out ≡ a.tree) × (left + a.buckets ≡ room)

-- a bucket of these samples, behind the members of its key
abbrev pub IsBucketTold : (List Sample → Results) → List Member → List Sample → ℕ → ℕ → Out → Type 0
IsBucketTold below key xs room left out = (out ≡ bucket_tree key (bucket_of below xs)) × (left + bucket_count (bucket_of below xs) ≡ room)

-- how many buckets those of these keys are, with all below them
abbrev pub buckets_of : {K : Type 0} → (List Sample → Results) → (K → List Sample) → List K → ℕ
buckets_of below of_key ks = sum_by (λ k. bucket_count (bucket_of below (of_key k))) ks

-- what is told of them
abbrev pub outs_of : {K : Type 0} → (List Sample → Results) → (K → List Member) → (K → List Sample) → List K → List Out
outs_of below key of_key ks = map (λ k. bucket_tree (key k) (bucket_of below (of_key k))) ks

-- the buckets of these keys, behind others
abbrev pub AreBucketsTold : {K : Type 0} → (List Sample → Results) → (K → List Member) → (K → List Sample) → List K → ℕ → ℕ → List Out → List Out → Type 0
AreBucketsTold below key of_key ks room left before after =
    (after ≡ before ++ outs_of below key of_key ks) × (left + buckets_of below of_key ks ≡ room)

-- why nothing is told: there are more buckets than room, or want of memory
abbrev pub IsStop : ℕ → ℕ → AggError → Type 0
IsStop room buckets Shape = ⊥
IsStop room buckets (WrongField path kind) = ⊥
IsStop room buckets TooManyBuckets = room < buckets
IsStop room buckets NoMemory = Unit {0}

-- why aggregations aren't answered: their definition has too many buckets, or want of memory
abbrev pub IsRefusedBy : Result Out TooMany → AggError → Type 0
IsRefusedBy answer Shape = ⊥
IsRefusedBy answer (WrongField path kind) = ⊥
IsRefusedBy answer TooManyBuckets = answer ≡ Err too_many_buckets
IsRefusedBy answer NoMemory = Unit {0}

-- ---- buckets of time

-- the buckets behind a start are those of their samples
abbrev pub StandBehind : Level → ℤ → BTreeMap ℤ Bucket → (ℤ → List Sample) → Type 0
StandBehind below start m of_start = (t : ℤ) → start <ℤ t → IsBucketOf below (get int_cmp m t) (of_start t)

-- the starts whose samples stand for so many documents
abbrev pub of_least : ℕ → (ℤ → List Sample) → List ℤ → List ℤ
of_least least of_start ts = filter (λ t. nat_le least (documents_in (of_start t))) ts

-- ---- buckets of values

-- a bucket is that of its value's samples
abbrev pub IsEntryOf : Level → (Scalar → List Sample) → Scalar × Bucket → Type 0
IsEntryOf below of_value e = BucketStands below e.1 (of_value e.0)

-- a ranked bucket with its value
abbrev pub entry_of : (Reverse ℕ × Scalar) × Bucket → Scalar × Bucket
entry_of e = (e.0.1, e.1)

-- a bucket put in front of those with no more documents
abbrev pub put_entry : Scalar × Bucket → List (Scalar × Bucket) → List (Scalar × Bucket)
put_entry e [] = e ∷ []
put_entry e (f ∷ fs) = if nat_le (out-Bucket f.1).documents (out-Bucket e.1).documents then e ∷ f ∷ fs else f ∷ put_entry e fs

-- by falling documents
abbrev pub by_documents : List (Scalar × Bucket) → List (Scalar × Bucket)
by_documents [] = []
by_documents (e ∷ es) = put_entry e (by_documents es)

abbrev pub entries_asked : Option Bool → List (Scalar × Bucket) → List (Scalar × Bucket)
entries_asked None es = by_documents es
entries_asked (Some true) es = es
entries_asked (Some false) es = reverse es
