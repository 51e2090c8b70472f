-- One row more in the buckets of its values.
use Rattle.std.proofs.Common.{◌≡◌, ◌+◌, ◌<◌, ℕ, ℤ, Bool, true, false, cond, List, [], ◌∷◌, ◌++◌, length, take, get_or, add-one, Option, Some, None, refl, ap, ◌∙◌, sym, subst, append-nil}
use Rattle.std.specs.BTreeMap.{BTreeMap, get}
use Rattle.std.specs.Cmp.{tied_itself}
use Rattle.std.specs.Prelude.{◌||◌, if◌then◌else◌}
use Rattle.std.specs.List.{slice_get}
use Rattle.std.specs.Ordering.{is_eq, is_gt, is_lt, ordering_reverse}
use Rattle.std.specs.declared.cmp.Ordering.{Ordering}
use Rattle.std.specs.declared.cmp.Ordering.TheVariants.{Less, Equal, Greater}
use Rattle.std.proofs.Math.Seq.{take-suc}
use Rattle.std.proofs.lemmas.List.Elements.{filter-append}
use Rattle.row_cells.specs.declared.scalars.Scalar.{Scalar}
use Rattle.row_cells.specs.declared.schemas.Field.{Field}
use Rattle.row_cells.specs.declared.schemas.Role.{Role}
use Rattle.row_cells.specs.declared.rows.Row.{Row}
use Rattle.row_cells.specs.Each.{Each}
use Rattle.row_cells.specs.EachLaws.{Each-weaker}
use Rattle.downsample_fold.specs.Columns.{cell_of}
use Rattle.search_filter.specs.Values.{value_cmp}
use Rattle.search_filter.specs.ValueLaws.{value_cmp_total, value_tied}
use Rattle.histogram_aggs.specs.declared.state.Bucket.{Bucket}
use Rattle.histogram_aggs.specs.Answers.{field_of, placed_of}
use Rattle.histogram_aggs.specs.Buckets.{with_value}
use Rattle.histogram_aggs.specs.JoinLaws.{each-append}
use Rattle.histogram_aggs.specs.Reading.{field_at}
use Rattle.histogram_aggs.specs.Repeats.{IsTop, greater_of, has_value}
use Rattle.histogram_aggs.specs.Samples.{Sample, values_at, values_by}
use Rattle.histogram_aggs.specs.Stands.{Level, BucketStands, FieldStands, IsBucketOf, MarksStand, with_each}

not_empty : {A : Type 0} (xs : List A) (x : A) → xs ++ x ∷ [] ≡ [] → ⊥
not_empty [] x is = cc
not_empty (y ∷ xs) x is = cc

-- buckets of which that of a value has one row more
pub value_more : (below : Level) (old new : Scalar → Option Bucket) (at : Scalar) (bucket : Bucket) (s : Sample) →
    ((v : Scalar) → new v ≡ cond (is_eq (value_cmp at v)) (Some bucket) (old v)) →
    ((ys : List Sample) → IsBucketOf below (old at) ys → BucketStands below bucket (ys ++ s ∷ [])) →
    (of_value : Scalar → List Sample) → ((v : Scalar) → IsBucketOf below (old v) (of_value v)) → (v : Scalar) → IsBucketOf below (new v) (with_each (at ∷ []) s of_value v)
value_more below old new at bucket s more grown of_value same v =
    subst (λ b. IsBucketOf below b (with_each (at ∷ []) s of_value v)) (sym (more v)) (by_test (value_cmp at v) refl)
  where
    by_test : (o : Ordering) → value_cmp at v ≡ o → IsBucketOf below (cond (is_eq o) (Some bucket) (old v)) (of_value v ++ cond (is_eq o || false) (s ∷ []) [])
    by_test Equal is =
        let one : at ≡ v = value_tied at v is in
        (not_empty (of_value v) s, grown (of_value v) (subst (λ u. IsBucketOf below (old u) (of_value v)) (sym one) (same v)))
    by_test Less is = subst (λ ys. IsBucketOf below (old v) ys) (sym (append-nil (of_value v))) (same v)
    by_test Greater is = subst (λ ys. IsBucketOf below (old v) ys) (sym (append-nil (of_value v))) (same v)

-- ---- greatest values

below_by : (v top value : Scalar) (o : Ordering) → value_cmp v top ≡ o → is_gt o ≡ false → value_cmp top value ≡ Less → value_cmp v value ≡ Less
below_by v top value Less is le above = value_cmp_total.trans v top value is above
below_by v top value Equal is le above = value_cmp_total.congr v top value is ∙ above
below_by v top value Greater is le above = cc

-- a value above a greatest one is none of them
pub none_above : (before : List Scalar) (top value : Scalar) → value_cmp top value ≡ Less → Each (λ v. is_gt (value_cmp v top) ≡ false) before → has_value before value ≡ false
none_above [] top value above each = refl
none_above (v ∷ before) top value above each = rw (below_by v top value (value_cmp v top) refl each.0 above) (none_above before top value above each.1)

any_last : (before : List Scalar) (value w : Scalar) → has_value (before ++ value ∷ []) w ≡ (has_value before w || is_eq (value_cmp value w))
any_last [] value w = or_false (is_eq (value_cmp value w))
  where
    or_false : (b : Bool) → (b || false) ≡ b
    or_false true = refl
    or_false false = refl
any_last (v ∷ before) value w = ap (λ b. is_eq (value_cmp v w) || b) (any_last before value w) ∙ or_assoc (is_eq (value_cmp v w)) (has_value before w) (is_eq (value_cmp value w))
  where
    or_assoc : (a b c : Bool) → (a || (b || c)) ≡ ((a || b) || c)
    or_assoc true b c = refl
    or_assoc false b c = refl

-- what holds of each value holds of one that is among them
each_has : (P : Scalar → Type 0) (vs : List Scalar) (value : Scalar) → has_value vs value ≡ true → Each P vs → P value
each_has P [] value has each = absurd (no has)
  where
    no : false ≡ true → ⊥
    no e = cc
each_has P (v ∷ vs) value has each = by_case (value_cmp v value) refl has (λ later. each_has P vs value later each.1)
  where
    by_case : (o : Ordering) → value_cmp v value ≡ o → (is_eq o || has_value vs value) ≡ true → (has_value vs value ≡ true → P value) → P value
    by_case Less is any later = later any
    by_case Equal is any later = subst P (value_tied v value is) each.0
    by_case Greater is any later = later any

pub top_kept : (top : Option Scalar) (before : List Scalar) (value : Scalar) → IsTop top before → has_value before value ≡ true → IsTop top (before ++ value ∷ [])
top_kept None before value top has = absurd (no (subst (λ vs. has_value vs value ≡ true) top has))
  where
    no : false ≡ true → ⊥
    no e = cc
top_kept (Some t) before value top has = (
  each-append (λ v. is_gt (value_cmp v t) ≡ false) before (value ∷ []) top.0 (each_has (λ v. is_gt (value_cmp v t) ≡ false) before value has top.0, tt),
  any_last before value t ∙ ap (λ b. b || is_eq (value_cmp value t)) top.1,
)

pub top_grown : (top : Option Scalar) (before : List Scalar) (value : Scalar) → IsTop top before → IsTop (Some (greater_of top value)) (before ++ value ∷ [])
top_grown None before value top =
    subst (λ vs. IsTop (Some value) (vs ++ value ∷ [])) (sym top) ((ap is_gt (tied_itself value_cmp_total value), tt), ap (λ o. is_eq o || false) (tied_itself value_cmp_total value))
top_grown (Some t) before value top = by_case (value_cmp t value) refl
  where
    or_true : (a b : Bool) → b ≡ true → (a || b) ≡ true
    or_true true b is = refl
    or_true false b is = is

    by_case : (o : Ordering) → value_cmp t value ≡ o → IsTop (Some (if is_lt o then value else t)) (before ++ value ∷ [])
    by_case Less is = (
      each-append (λ v. is_gt (value_cmp v value) ≡ false) before (value ∷ [])
          (Each-weaker (λ v. is_gt (value_cmp v t) ≡ false) (λ v. is_gt (value_cmp v value) ≡ false) (λ v le. ap is_gt (below_by v t value (value_cmp v t) refl le is)) before top.0)
          (ap is_gt (tied_itself value_cmp_total value), tt),
      any_last before value value ∙ or_true (has_value before value) (is_eq (value_cmp value value)) (ap is_eq (tied_itself value_cmp_total value)),
    )
    by_case Equal is = (
      each-append (λ v. is_gt (value_cmp v t) ≡ false) before (value ∷ []) top.0 (ap is_gt (value_cmp_total.antisymm value t ∙ ap ordering_reverse is), tt),
      any_last before value t ∙ ap (λ b. b || is_eq (value_cmp value t)) top.1,
    )
    by_case Greater is = (
      each-append (λ v. is_gt (value_cmp v t) ≡ false) before (value ∷ []) top.0 (ap is_gt (value_cmp_total.antisymm value t ∙ ap ordering_reverse is), tt),
      any_last before value t ∙ ap (λ b. b || is_eq (value_cmp value t)) top.1,
    )

-- ---- a list of values

pub take_more : (vs : List Scalar) (at : ℕ) (value : Scalar) → at < length vs → value ≡ get_or vs at value → take (at + 1) vs ≡ take at vs ++ value ∷ []
take_more vs at value lt is = ap (λ n. take n vs) (add-one at) ∙ (take-suc vs at value lt ∙ ap (λ v. take at vs ++ v ∷ []) (sym is))

-- a value once more
pub each_repeated : (below : Level) (get : Scalar → Option Bucket) (before : List Scalar) (value : Scalar) (s : Sample) (of_value : Scalar → List Sample) → has_value before value ≡ true →
    ((v : Scalar) → IsBucketOf below (get v) (with_each before s of_value v)) → (v : Scalar) → IsBucketOf below (get v) (with_each (before ++ value ∷ []) s of_value v)
each_repeated below get before value s of_value has same v =
    subst (λ b. IsBucketOf below (get v) (of_value v ++ (if b then s ∷ [] else []))) (sym (any_last before value v ∙ by_case (value_cmp value v) refl)) (same v)
  where
    or_true : (a : Bool) → a ≡ true → (a || true) ≡ a
    or_true true is = refl
    or_true false is = cc

    or_false : (a : Bool) → (a || false) ≡ a
    or_false true = refl
    or_false false = refl

    by_case : (o : Ordering) → value_cmp value v ≡ o → (has_value before v || is_eq o) ≡ has_value before v
    by_case Less is = or_false (has_value before v)
    by_case Equal is = or_true (has_value before v) (subst (λ w. has_value before w ≡ true) (value_tied value v is) has)
    by_case Greater is = or_false (has_value before v)

-- a value that wasn't there before
pub each_new : (below : Level) (get : Scalar → Option Bucket) (before : List Scalar) (value : Scalar) (s : Sample) (of_value : Scalar → List Sample) → has_value before value ≡ false →
    ((v : Scalar) → IsBucketOf below (get v) (with_each (value ∷ []) s (with_each before s of_value) v)) → (v : Scalar) → IsBucketOf below (get v) (with_each (before ++ value ∷ []) s of_value v)
each_new below get before value s of_value has same v =
    subst (λ ys. IsBucketOf below (get v) ys) (by_case (value_cmp value v) refl ∙ ap (λ b. of_value v ++ (if b then s ∷ [] else [])) (sym (any_last before value v))) (same v)
  where
    kept : (b : Bool) → (of_value v ++ (if b then s ∷ [] else [])) ++ [] ≡ of_value v ++ (if b || false then s ∷ [] else [])
    kept true = append-nil (of_value v ++ s ∷ [])
    kept false = append-nil (of_value v ++ [])

    put : (b : Bool) → b ≡ false → (of_value v ++ (if b then s ∷ [] else [])) ++ s ∷ [] ≡ of_value v ++ (if b || true then s ∷ [] else [])
    put true is = cc
    put false is = ap (λ ys. ys ++ s ∷ []) (append-nil (of_value v))

    by_case : (o : Ordering) → value_cmp value v ≡ o → (of_value v ++ (if has_value before v then s ∷ [] else [])) ++ (if is_eq o || false then s ∷ [] else []) ≡ of_value v ++ (if has_value before v || is_eq o then s ∷ [] else [])
    by_case Less is = kept (has_value before v)
    by_case Equal is = put (has_value before v) (subst (λ w. has_value before w ≡ false) (value_tied value v is) has)
    by_case Greater is = kept (has_value before v)

-- ---- a field's values

pub values_more : (below : Level) (get : Scalar → Option Bucket) (role : Role) (place : ℕ) (vs : List Scalar) (row : Row) (start : ℤ) (xs : List Sample) → vs ≡ values_by role row.time (cell_of place row) →
    ((v : Scalar) → IsBucketOf below (get v) (with_each vs (record { start = start; row = row }) (with_value role place xs) v)) → (v : Scalar) → IsBucketOf below (get v) (with_value role place (xs ++ record { start = start; row = row } ∷ []) v)
values_more below get role place vs row start xs is same v =
    subst (λ ys. IsBucketOf below (get v) ys)
    (ap (λ ws. with_each ws (record { start = start; row = row }) (with_value role place xs) v) is ∙ sym (filter-append (λ s. has_value (values_at role place s) v) xs (record { start = start; row = row } ∷ []))) (same v)

pub field_more : (below : Level) (fields : List Field) (place : ℕ) (field : Field) (vs : List Scalar) (old new : BTreeMap Scalar Bucket) (row : Row) (start : ℤ) (xs : List Sample) →
    field_at fields (Some place) ≡ Some field → vs ≡ values_by field.role row.time (cell_of place row) →
    ((of_value : Scalar → List Sample) → MarksStand value_cmp below old of_value → MarksStand value_cmp below new (with_each vs (record { start = start; row = row }) of_value)) →
    FieldStands below (field_of fields (Some place)) old xs → FieldStands below (field_of fields (Some place)) new (xs ++ record { start = start; row = row } ∷ [])
field_more below fields place field vs old new row start xs found is more = by_field (slice_get fields place) found
  where
    by_field : (o : Option Field) → o ≡ Some field → FieldStands below (placed_of place o) old xs → FieldStands below (placed_of place o) new (xs ++ record { start = start; row = row } ∷ [])
    by_field None same stands = absurd stands
    by_field (Some f) same stands =
        let one : f ≡ field = cc in
        values_more below (get value_cmp new) f.role place vs row start xs (is ∙ ap (λ (g : Field). values_by g.role row.time (cell_of place row)) (sym one)) (more (with_value f.role place xs) stands)
