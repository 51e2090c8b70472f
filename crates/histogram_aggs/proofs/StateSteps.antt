-- One row more in what stands for rows.
use Rattle.std.proofs.Common.{◌≡◌, ◌+◌, ℕ, zero, suc, ℤ, Bool, true, false, cond, List, [], ◌∷◌, ◌++◌, Option, Some, None, refl, ap, ◌∙◌, sym, subst, arith, append-nil}
use Rattle.std.specs.Prelude.{slice_index_or}
use Rattle.std.specs.List.{slice_get}
use Rattle.std.specs.Ordering.{is_eq, int_cmp, int_eq}
use Rattle.std.proofs.lemmas.Bool.Decides.{Decides-int_eq}
use Rattle.std.proofs.lemmas.List.Elements.{filter-append}
use Rattle.time_text.specs.Bucket.{bucket_start}
use Rattle.row_cells.specs.declared.schemas.Field.{Field}
use Rattle.row_cells.specs.declared.rows.Row.{Row}
use Rattle.downsample_fold.specs.Columns.{cell_of}
use Rattle.histogram_aggs.specs.declared.aggs.AggKind.{AggKind}
use Rattle.histogram_aggs.specs.declared.state.Bucket.{Bucket}
use Rattle.histogram_aggs.specs.declared.state.Node.{Node}
use Rattle.histogram_aggs.specs.declared.tallies.Tally.{Tally}
use Rattle.histogram_aggs.specs.Answers.{field_of, placed_of}
use Rattle.histogram_aggs.specs.Buckets.{in_bucket}
use Rattle.histogram_aggs.specs.JoinLaws.{documents_in-append}
use Rattle.histogram_aggs.specs.Reading.{field_at}
use Rattle.histogram_aggs.specs.Samples.{Sample, documents_in}
use Rattle.histogram_aggs.specs.Stands.{Level, BucketStands, IsBucketOf, MetricStands}
use Rattle.histogram_aggs.specs.Tallies.{both_tallies, tally_by, tally_over}
use Rattle.histogram_aggs.specs.TallyLaws.{tallies_joined, tally_single}

pub at_or : {S : Type 0} (xs : List S) (i : ℕ) (d x : S) → slice_get xs i ≡ Some x → slice_index_or xs i d ≡ x
at_or [] i d x is = cc
at_or (y ∷ xs) zero d x is = cc
at_or (y ∷ xs) (suc i) d x is = at_or xs i d x is

pub none_or : {S : Type 0} (xs : List S) (i : ℕ) (d : S) → slice_get xs i ≡ None → slice_index_or xs i d ≡ d
none_or [] i d is = refl
none_or (y ∷ xs) zero d is = cc
none_or (y ∷ xs) (suc i) d is = none_or xs i d is

-- ---- a metric

pub metric_more : (kind : AggKind) (fields : List Field) (place : ℕ) (field : Field) (tally one both : Tally) (row : Row) → field_at fields (Some place) ≡ Some field →
    one ≡ tally_by kind field.role row.time (cell_of place row) → both ≡ both_tallies tally one → (start : ℤ) (xs : List Sample) → MetricStands kind (field_of fields (Some place)) tally xs →
    MetricStands kind (field_of fields (Some place)) both (xs ++ record { start = start; row = row } ∷ [])
metric_more kind fields place field tally one both row found one_is both_is start xs = by_field (slice_get fields place) found
  where
    by_field : (o : Option Field) → o ≡ Some field → MetricStands kind (placed_of place o) tally xs → MetricStands kind (placed_of place o) both (xs ++ record { start = start; row = row } ∷ [])
    by_field None is stands = cc
    by_field (Some f) is stands =
        let same : f ≡ field = cc in (
          stands.0,
          both_is ∙ (ap (λ t. both_tallies t one) stands.1
              ∙ (ap (both_tallies (tally_over kind f.role place xs)) (one_is ∙ (ap (λ (g : Field). tally_by kind g.role row.time (cell_of place row)) (sym same) ∙ sym (tally_single kind f.role place (record { start = start; row = row }))))
              ∙ sym (tallies_joined kind f.role place xs (record { start = start; row = row } ∷ [])))),
        )

-- ---- a bucket

not_empty : {A : Type 0} (xs : List A) (x : A) → xs ++ x ∷ [] ≡ [] → ⊥
not_empty [] x is = cc
not_empty (y ∷ xs) x is = cc

-- buckets of which one has one row more
pub times_more : (below : Level) (n : ℕ) (old new : ℤ → Option Bucket) (at : ℤ) (row : Row) (bucket : Bucket) → at ≡ bucket_start n row.time →
    ((t : ℤ) → new t ≡ cond (is_eq (int_cmp at t)) (Some bucket) (old t)) →
    (start : ℤ) → ((ys : List Sample) → IsBucketOf below (old at) ys → BucketStands below bucket (ys ++ record { start = start; row = row } ∷ [])) →
    (xs : List Sample) → ((t : ℤ) → IsBucketOf below (old t) (in_bucket n xs t)) → (t : ℤ) → IsBucketOf below (new t) (in_bucket n (xs ++ record { start = start; row = row } ∷ []) t)
times_more below n old new at row bucket is more start grown xs same t =
    subst (λ ys. IsBucketOf below (new t) ys) (sym (filter-append (λ s. int_eq (bucket_start n s.row.time) t) xs (record { start = start; row = row } ∷ [])))
    (subst (λ b. IsBucketOf below b (in_bucket n xs t ++ cond (int_eq (bucket_start n row.time) t) (record { start = start; row = row } ∷ []) [])) (sym (more t ∙ ap (λ b. cond b (Some bucket) (old t)) (ap (λ u. int_eq u t) is)))
    (by_test (int_eq (bucket_start n row.time) t) refl))
  where
    by_test : (b : Bool) → int_eq (bucket_start n row.time) t ≡ b → IsBucketOf below (cond b (Some bucket) (old t)) (in_bucket n xs t ++ cond b (record { start = start; row = row } ∷ []) [])
    by_test true here =
        let one : at ≡ t = is ∙ (Decides-int_eq (bucket_start n row.time) t).0 here in
        (not_empty (in_bucket n xs t) (record { start = start; row = row }), grown (in_bucket n xs t) (subst (λ u. IsBucketOf below (old u) (in_bucket n xs t)) (sym one) (same t)))
    by_test false here = subst (λ ys. IsBucketOf below (old t) ys) (sym (append-nil (in_bucket n xs t))) (same t)

-- a bucket's numbers with one row more
pub bucket_more : (below : Level) (documents sum : ℕ) (old new : List Node) (row : Row) (start : ℤ) (xs : List Sample) → sum ≡ documents + row.count →
    (below old xs → below new (xs ++ record { start = start; row = row } ∷ [])) → (documents ≡ documents_in xs) × below old xs →
    (sum ≡ documents_in (xs ++ record { start = start; row = row } ∷ [])) × below new (xs ++ record { start = start; row = row } ∷ [])
bucket_more below documents sum old new row start xs sum_is later stands =
    (let had = stands.0 in omega (arith, sum_is, had, documents_in-append xs (record { start = start; row = row } ∷ [])), later stands.1)

-- a bucket where there was none
pub bucket_first : (below : Level) (before : Option Bucket) (bucket : Bucket) (row : Row) (start : ℤ) → before ≡ None → BucketStands below bucket (record { start = start; row = row } ∷ []) →
    (ys : List Sample) → IsBucketOf below before ys → BucketStands below bucket (ys ++ record { start = start; row = row } ∷ [])
bucket_first below before bucket row start none first ys stands =
    subst (λ zs. BucketStands below bucket (zs ++ record { start = start; row = row } ∷ [])) (sym (subst (λ o. IsBucketOf below o ys) none stands)) first
