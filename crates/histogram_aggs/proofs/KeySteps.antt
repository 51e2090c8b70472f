-- The keys of buckets are those of the samples that they stand for.
use Rattle.std.proofs.Common.{◌≡◌, ℕ, suc, ℤ, ◌-◌, ◌/◌, length, arith, Bool, true, false, List, [], ◌∷◌, ◌++◌, map, flat_map, Option, Some, None, refl, ap, ◌∙◌, sym, subst, inl, inr, ◌⊎◌, cond}
use Rattle.std.specs.BTreeMap.{BTreeMap, IsOrdered, get, is_at, keys}
use Rattle.std.specs.Cmp.{IsTotalOrder, int_cmp_total, tied_itself}
use Rattle.std.specs.Prelude.{◌-ℤ◌, unsigned_abs}
use Rattle.std.specs.List.{AllByRecursion, slice_get}
use Rattle.std.specs.List.Sorted.{IsStrictlySortedBy}
use Rattle.std.specs.Map.{keys_of, lookup}
use Rattle.std.specs.Ordering.{int_cmp, int_eq, is_eq, ordering_reverse}
use Rattle.std.specs.declared.cmp.Ordering.{Ordering}
use Rattle.std.specs.declared.cmp.Ordering.TheVariants.{Less, Equal, Greater}
use Rattle.std.proofs.lemmas.Bool.Decides.{Decides-int_eq}
use Rattle.std.proofs.lemmas.Map.Keys.{sorted_head, sorted_tail}
use Rattle.std.proofs.lemmas.Option.{same_Some, some_pair_parts}
use Rattle.time_text.specs.Bucket.{bucket_start}
use Rattle.row_cells.specs.declared.scalars.Scalar.{Scalar}
use Rattle.row_cells.specs.declared.schemas.Role.{Role}
use Rattle.row_cells.specs.Each.{Each}
use Rattle.row_cells.specs.EachLaws.{Each-both}
use Rattle.search_filter.specs.Values.{value_cmp}
use Rattle.search_filter.specs.ValueLaws.{value_cmp_total, value_tied, whole_tied}
use Rattle.histogram_aggs.specs.declared.state.Bucket.{Bucket}
use Rattle.histogram_aggs.specs.Buckets.{in_bucket, keys_at, last_or, starts_at, starts_between, starts_from, with_value}
use Rattle.histogram_aggs.specs.Repeats.{has_value}
use Rattle.histogram_aggs.specs.Samples.{Sample, values_at}
use Rattle.histogram_aggs.specs.Sets.{Among, ascending}
use Rattle.histogram_aggs.specs.SetLaws.{Ascends, among-left, among-right, among-split, ascending-among, ascending-ascends, among-ascending, has-from, has-to, same-elements}
use Rattle.histogram_aggs.specs.Stands.{Level, IsBucketOf, MarksStand, TimesStand, ValuesStand}

false_not_true : false ≡ true → ⊥
false_not_true e = cc

pub each_from_all : {A : Type 0} (P : A → Type 0) (xs : List A) → AllByRecursion P xs → Each P xs
each_from_all P [] all = tt
each_from_all P (x ∷ xs) all = (all.0, each_from_all P xs all.1)

module _ {K : Type 0} (cmp : K → K → Ordering) (total : IsTotalOrder cmp) (tied : (x y : K) → cmp x y ≡ Equal → x ≡ y) where
  pub ascends_from : (ks : List K) → IsStrictlySortedBy cmp ks → Ascends cmp total tied ks
  ascends_from [] sorted = tt
  ascends_from (k ∷ ks) sorted = (each_from_all (λ y. cmp k y ≡ Less) ks (sorted_head cmp k ks sorted), ascends_from ks (sorted_tail cmp k ks sorted))

  pub found_among : {X : Type 0} (es : List (K × X)) (k : K) (x : X) → lookup (is_at (cmp k)) es ≡ Some x → Among k (keys_of es)
  found_among [] k x is = cc
  found_among (e ∷ es) k x is = by_case (cmp k e.0) refl is (found_among es k x)
    where
      by_case : (o : Ordering) → cmp k e.0 ≡ o → cond (is_eq o) (Some e.1) (lookup (is_at (cmp k)) es) ≡ Some x → (lookup (is_at (cmp k)) es ≡ Some x → Among k (keys_of es)) → (e.0 ≡ k) ⊎ Among k (keys_of es)
      by_case Less same found later = inr (later found)
      by_case Equal same found later = inl (sym (tied k e.0 same))
      by_case Greater same found later = inr (later found)

  among_found : {X : Type 0} (es : List (K × X)) (k : K) → Among k (keys_of es) → lookup (is_at (cmp k)) es ≡ None → ⊥
  among_found [] k among is = absurd among
  among_found (e ∷ es) k (inl here) is =
      let found : lookup (is_at (cmp k)) (e ∷ es) ≡ Some e.1 = rw (ap is_eq (subst (λ z. cmp k z ≡ Equal) (sym here) (tied_itself total k))) refl in
      none_some (sym is ∙ found)
    where
      none_some : None ≡ Some e.1 → ⊥
      none_some p = cc
  among_found (e ∷ es) k (inr there) is = by_case (cmp k e.0) is (among_found es k there)
    where
      by_case : (o : Ordering) → cond (is_eq o) (Some e.1) (lookup (is_at (cmp k)) es) ≡ None → (lookup (is_at (cmp k)) es ≡ None → ⊥) → ⊥
      by_case Less none later = later none
      by_case Equal none later = cc
      by_case Greater none later = later none

  -- each entry of keys in order is found by its key
  pub entries_found : {X : Type 0} (es : List (K × X)) → IsStrictlySortedBy cmp (keys_of es) → Each (λ e. lookup (is_at (cmp e.0)) es ≡ Some e.1) es
  entries_found [] sorted = tt
  entries_found {X} (e ∷ es) sorted = (
    rw (ap is_eq (tied_itself total e.0)) refl,
    Each-both (λ (f : K × X). cmp e.0 f.0 ≡ Less) (λ (f : K × X). lookup (is_at (cmp f.0)) es ≡ Some f.1) (λ (f : K × X). lookup (is_at (cmp f.0)) (e ∷ es) ≡ Some f.1)
        (λ f above found. rw (ap is_eq (total.antisymm f.0 e.0 ∙ ap ordering_reverse above)) found) es
        (behind es (sorted_head cmp e.0 (keys_of es) sorted)) (entries_found es (sorted_tail cmp e.0 (keys_of es) sorted)),
  )
    where
      behind : (fs : List (K × X)) → AllByRecursion (λ y. cmp e.0 y ≡ Less) (keys_of fs) → Each (λ f. cmp e.0 f.0 ≡ Less) fs
      behind [] all = tt
      behind (f ∷ fs) all = (all.0, behind fs all.1)

pub keys_of_marks : {K : Type 0} (cmp : K → K → Ordering) (total : IsTotalOrder cmp) (tied : (x y : K) → cmp x y ≡ Equal → x ≡ y) (below : Level) (m : BTreeMap K Bucket) (of_key : K → List Sample) (marks : List K) →
    IsOrdered cmp m → MarksStand cmp below m of_key → ((k : K) → Among k marks → of_key k ≡ [] → ⊥) → ((k : K) → (of_key k ≡ [] → ⊥) → Among k marks) → keys m ≡ ascending cmp marks
keys_of_marks {K} cmp total tied below m of_key marks ordered stands there back =
    same-elements cmp total tied (keys m) (ascending cmp marks) (ascends_from cmp total tied (keys m) ordered) (ascending-ascends cmp total tied marks)
    (λ k among. ascending-among cmp total tied k marks (back k (filled k (get cmp m k) refl (stands k) (among_found cmp total tied m.entries k among))))
    (λ k among. found k (get cmp m k) refl (stands k) (there k (among-ascending cmp total tied k marks among)))
  where
    filled : (k : K) (o : Option Bucket) → get cmp m k ≡ o → IsBucketOf below o (of_key k) → (get cmp m k ≡ None → ⊥) → of_key k ≡ [] → ⊥
    filled k None is bucket some = absurd (some is)
    filled k (Some b) is bucket some = bucket.0

    found : (k : K) (o : Option Bucket) → get cmp m k ≡ o → IsBucketOf below o (of_key k) → (of_key k ≡ [] → ⊥) → Among k (keys m)
    found k None is bucket some = absurd (some bucket)
    found k (Some b) is bucket some = found_among cmp total tied m.entries k b is

-- ---- buckets of time

time_there : (n : ℕ) (xs : List Sample) (t : ℤ) → Among t (map (λ s. bucket_start n s.row.time) xs) → in_bucket n xs t ≡ [] → ⊥
time_there n [] t among none = absurd among
time_there n (s ∷ xs) t (inl here) none = no_cons (sym (rw ((Decides-int_eq (bucket_start n s.row.time) t).1 here) refl) ∙ none)
  where
    no_cons : s ∷ in_bucket n xs t ≡ [] → ⊥
    no_cons e = cc
time_there n (s ∷ xs) t (inr there) none = by_test (int_eq (bucket_start n s.row.time) t) none (time_there n xs t there)
  where
    by_test : (b : Bool) → cond b (s ∷ in_bucket n xs t) (in_bucket n xs t) ≡ [] → (in_bucket n xs t ≡ [] → ⊥) → ⊥
    by_test true is later = cc
    by_test false is later = later is

time_back : (n : ℕ) (xs : List Sample) (t : ℤ) → (in_bucket n xs t ≡ [] → ⊥) → Among t (map (λ s. bucket_start n s.row.time) xs)
time_back n [] t some = absurd (some refl)
time_back n (s ∷ xs) t some = by_test (int_eq (bucket_start n s.row.time) t) refl some (time_back n xs t)
  where
    Later : Type 0
    Later = Among t (map (λ u. bucket_start n u.row.time) xs)

    by_test : (b : Bool) → int_eq (bucket_start n s.row.time) t ≡ b → (cond b (s ∷ in_bucket n xs t) (in_bucket n xs t) ≡ [] → ⊥) → ((in_bucket n xs t ≡ [] → ⊥) → Later) → (bucket_start n s.row.time ≡ t) ⊎ Later
    by_test true is filled later = inl ((Decides-int_eq (bucket_start n s.row.time) t).0 is)
    by_test false is filled later = inr (later filled)

pub keys_of_times : (below : Level) (n : ℕ) (m : BTreeMap ℤ Bucket) (xs : List Sample) → IsOrdered int_cmp m → TimesStand below n m xs → keys m ≡ starts_at n xs
keys_of_times below n m xs ordered stands =
    keys_of_marks int_cmp int_cmp_total whole_tied below m (in_bucket n xs) (map (λ s. bucket_start n s.row.time) xs) ordered stands (time_there n xs) (time_back n xs)

-- ---- buckets of values

value_there : (role : Role) (place : ℕ) (xs : List Sample) (v : Scalar) → Among v (flat_map (values_at role place) xs) → with_value role place xs v ≡ [] → ⊥
value_there role place [] v among none = absurd among
value_there role place (s ∷ xs) v among none = by_part (among-split v (values_at role place s) (flat_map (values_at role place) xs) among) (value_there role place xs v)
  where
    no_cons : s ∷ with_value role place xs v ≡ [] → ⊥
    no_cons e = cc

    by_test : (b : Bool) → cond b (s ∷ with_value role place xs v) (with_value role place xs v) ≡ [] → (with_value role place xs v ≡ [] → ⊥) → ⊥
    by_test true is later = cc
    by_test false is later = later is

    by_part : Among v (values_at role place s) ⊎ Among v (flat_map (values_at role place) xs) → (Among v (flat_map (values_at role place) xs) → with_value role place xs v ≡ [] → ⊥) → ⊥
    by_part (inl here) later = no_cons (sym (rw (has-from value_cmp value_cmp_total value_tied v (values_at role place s) here) refl) ∙ none)
    by_part (inr there) later = by_test (has_value (values_at role place s) v) none (later there)

value_back : (role : Role) (place : ℕ) (xs : List Sample) (v : Scalar) → (with_value role place xs v ≡ [] → ⊥) → Among v (flat_map (values_at role place) xs)
value_back role place [] v some = absurd (some refl)
value_back role place (s ∷ xs) v some = by_test (has_value (values_at role place s) v) refl some (value_back role place xs v)
  where
    by_test : (b : Bool) → has_value (values_at role place s) v ≡ b → (cond b (s ∷ with_value role place xs v) (with_value role place xs v) ≡ [] → ⊥) → ((with_value role place xs v ≡ [] → ⊥) → Among v (flat_map (values_at role place) xs)) →
        Among v (values_at role place s ++ flat_map (values_at role place) xs)
    by_test true is filled later = among-left v (values_at role place s) (flat_map (values_at role place) xs) (has-to value_cmp value_cmp_total value_tied v (values_at role place s) is)
    by_test false is filled later = among-right v (values_at role place s) (flat_map (values_at role place) xs) (later filled)

pub keys_of_values : (below : Level) (role : Role) (place : ℕ) (m : BTreeMap Scalar Bucket) (xs : List Sample) → IsOrdered value_cmp m → ValuesStand below role place m xs → keys m ≡ keys_at role place xs
keys_of_values below role place m xs ordered stands =
    keys_of_marks value_cmp value_cmp_total value_tied below m (with_value role place xs) (flat_map (values_at role place) xs) ordered stands (value_there role place xs) (value_back role place xs)

-- ---- the first and the last start

last_of_all : (t : ℤ) (es : List (ℤ × Bucket)) (v : Bucket) (b : ℤ) (w : Bucket) → slice_get ((t, v) ∷ es) (length es) ≡ Some (b, w) → last_or t (keys_of es) ≡ b
last_of_all t [] v b w is = (some_pair_parts t b v w is).0
last_of_all t (e ∷ es) v b w is = last_of_all e.0 es e.1 b w is

pub ends_of : (n : ℕ) (es : List (ℤ × Bucket)) (a : ℤ) (v : Bucket) (b : ℤ) (w : Bucket) → slice_get es 0 ≡ Some (a, v) → slice_get es (length es - 1) ≡ Some (b, w) →
    starts_between n (keys_of es) ≡ starts_from a n (suc (unsigned_abs (b -ℤ a) / n))
ends_of n [] a v b w first last = cc
ends_of n (e ∷ es) a v b w first last =
    let one : ℤ × Bucket = (a, v) in
    let begins : e.0 ≡ a = ap (λ (p : ℤ × Bucket). p.0) (same_Some e one first) in
    let ends : last_or e.0 (keys_of es) ≡ b = last_of_all e.0 es e.1 b w (subst (λ k. slice_get (e ∷ es) k ≡ Some (b, w)) (one_less (length es)) last) in
    rw (ends, begins) refl
  where
    one_less : (k : ℕ) → suc k - 1 ≡ k
    one_less k = omega arith
