-- What a query of whole buckets takes.
use Rattle.std.specs.Prelude.{◌≡◌, ◌<◌, ℕ, ℤ, pos, ◌*ℤ◌, ◌<ℤ◌, ◌≤ℤ◌, int_le, int_lt, nat_le, Bool, true, false, ◌&&◌, ◌||◌, not, List, [], ◌∷◌, map, Option, Some, None}
use Rattle.std.specs.Cmp.{int_ranks, signed_Decides}
use Rattle.std.specs.List.{list_all, list_any}
use Rattle.std.specs.Ordering.{int_cmp, int_eq}
use Rattle.std.proofs.Common.{refl, ap, sym, subst, ◌∙◌, arith}
use Rattle.std.proofs.lemmas.Bool.{and_parts}
use Rattle.std.proofs.lemmas.Int.{ints}
use Rattle.time_text.specs.Bucket.{bucket_start}
use Rattle.time_text.specs.BucketLaws.{greatest}
use Rattle.row_cells.specs.EachLaws.{Each-weaker}
use Rattle.row_cells.specs.HeadLaws.{head_row_fits}
use Rattle.row_cells.specs.Heads.{head_row_of}
use Rattle.row_cells.specs.Mapped.{IsMapped}
use Rattle.row_cells.specs.declared.rows.Row.{Row}
use Rattle.row_cells.specs.declared.scalars.Scalar.{Scalar}
use Rattle.row_cells.specs.declared.scalars.Scalar.TheVariants.{Whole, Flag, Word}
use Rattle.row_cells.specs.declared.schemas.Schema.{Schema}
use Rattle.search_filter.specs.Aligned.{AlignedAlike, AlignedByBucket, AlignedByTest, align_step, begins_bucket, ends_bucket, is_aligned, is_aligned_by, is_keyed_at, is_start, row_at, takes_bucket}
use Rattle.search_filter.specs.Forms.{FitsFields, in_form}
use Rattle.search_filter.specs.Matching.{count_true, has_value, is_above, is_below, is_one_of, is_over, is_some_value, is_true, is_under, is_within, match_step, matches_row}
use Rattle.search_filter.specs.Splitting.{teller_at}
use Rattle.search_filter.specs.Values.{value_cmp, values_at}
use Rattle.search_filter.specs.declared.query.Bound.{Bound}
use Rattle.search_filter.specs.declared.query.Query.{Query, Has, OneOf, Between, Bool as BoolQuery}
use Rattle.search_filter.specs.declared.tellers.Teller.{Teller}
use Rattle.search_filter.specs.declared.tellers.Teller.TheVariants.{Time, Key, Cell}
use Rattle.search_filter.proofs.SameHeads.{HaveSameHeads, form_mapped, keyed_alike, values_told}
use Rattle.search_filter.proofs.SplitFolds.{AllOf, by_kinds, fold_all, fold_between, fold_bool, fold_has, fold_nothing, fold_one_of}
use Rattle.search_filter.proofs.SplitMatches.{time_alone}
use Rattle.search_filter.proofs.SplitTimes.{le_true, over_by, under_by, wholes}

-- ---- ends that begin a bucket

told_le : (x y : ℤ) → int_le x y ≡ true → x ≤ℤ y
told_le x y test = grind (arith, ints)

told_gt : (x y : ℤ) → int_le x y ≡ false → y <ℤ x
told_gt x y test = grind (arith, ints)

never : (x y : ℤ) → y <ℤ x → x ≤ℤ y → ⊥
never x y gt le = omega (arith, ints, gt, le)

le_by : (a b c d : ℤ) (v : Bool) → int_le a b ≡ v → (a ≤ℤ b → c ≤ℤ d) → (c ≤ℤ d → a ≤ℤ b) → int_le c d ≡ v
le_by a b c d true is there back = le_true c d (there (told_le a b is))
le_by a b c d false is there back = by_test (int_le c d) refl
  where
    by_test : (w : Bool) → int_le c d ≡ w → int_le c d ≡ false
    by_test false test = test
    by_test true test = absurd (never a b (told_gt a b is) (back (told_le c d test)))

-- what begins a bucket is no later than a moment exactly where it is no later than the start of the moment's bucket
not_later : (n : ℕ) (t e : ℤ) → 0 < n → bucket_start n e ≡ e → e ≤ℤ t → e ≤ℤ bucket_start n t
not_later n t e some starts le =
    let of_e = greatest n e some in
    let whole : e ≡ pos n *ℤ of_e.0.0 = sym starts ∙ of_e.0.1 in
    subst (λ x. x ≤ℤ bucket_start n t) (sym whole) ((greatest n t some).2 of_e.0.0 (subst (λ x. x ≤ℤ t) whole le))

chain : (a b c : ℤ) → a ≤ℤ b → b ≤ℤ c → a ≤ℤ c
chain a b c p q = omega (arith, ints, p, q)

same_le : (n : ℕ) (t e : ℤ) → 0 < n → bucket_start n e ≡ e → int_le e (bucket_start n t) ≡ int_le e t
same_le n t e some starts = le_by e t e (bucket_start n t) (int_le e t) refl (not_later n t e some starts) (λ le. chain e (bucket_start n t) t le ((greatest n t some).1))

lt_as_le : (a b : ℤ) → int_lt a b ≡ not (int_le b a)
lt_as_le a b = grind (arith, ints)

same_lt : (n : ℕ) (t e : ℤ) → 0 < n → bucket_start n e ≡ e → int_lt (bucket_start n t) e ≡ int_lt t e
same_lt n t e some starts = lt_as_le (bucket_start n t) e ∙ (ap not (same_le n t e some starts) ∙ sym (lt_as_le t e))

-- ---- times within ends

starts_told : (n : ℕ) (t : ℤ) → int_eq (bucket_start n t) t ≡ true → bucket_start n t ≡ t
starts_told n t is = (signed_Decides (bucket_start n t) t).0 is

over_start : (n : ℕ) (t : ℤ) (inclusive : Bool) (v : Scalar) → 0 < n → (inclusive && is_start n v) ≡ true → is_over (value_cmp (Whole (bucket_start n t)) v) inclusive ≡ is_over (value_cmp (Whole t) v) inclusive
over_start n t false v some is = cc
over_start n t true (Whole u) some is =
    ap (λ o. is_over o true) (wholes (bucket_start n t) u)
    ∙ (over_by (bucket_start n t) u true (int_cmp (bucket_start n t) u) (int_ranks (bucket_start n t) u)
    ∙ (same_le n t u some (starts_told n u is)
    ∙ (sym (over_by t u true (int_cmp t u) (int_ranks t u)) ∙ sym (ap (λ o. is_over o true) (wholes t u)))))
over_start n t true (Flag b) some is = cc
over_start n t true (Word w) some is = cc

under_start : (n : ℕ) (t : ℤ) (inclusive : Bool) (v : Scalar) → 0 < n → (not inclusive && is_start n v) ≡ true → is_under (value_cmp (Whole (bucket_start n t)) v) inclusive ≡ is_under (value_cmp (Whole t) v) inclusive
under_start n t true v some is = cc
under_start n t false (Whole u) some is =
    ap (λ o. is_under o false) (wholes (bucket_start n t) u)
    ∙ (under_by (bucket_start n t) u false (int_cmp (bucket_start n t) u) (int_ranks (bucket_start n t) u)
    ∙ (same_lt n t u some (starts_told n u is)
    ∙ (sym (under_by t u false (int_cmp t u) (int_ranks t u)) ∙ sym (ap (λ o. is_under o false) (wholes t u)))))
under_start n t false (Flag b) some is = cc
under_start n t false (Word w) some is = cc

above_start : (n : ℕ) (t : ℤ) (low : Option Bound) → 0 < n → begins_bucket n low ≡ true → is_above low (Whole (bucket_start n t)) ≡ is_above low (Whole t)
above_start n t None some is = refl
above_start n t (Some b) some is = over_start n t b.inclusive b.value some is

below_start : (n : ℕ) (t : ℤ) (high : Option Bound) → 0 < n → ends_bucket n high ≡ true → is_below high (Whole (bucket_start n t)) ≡ is_below high (Whole t)
below_start n t None some is = refl
below_start n t (Some b) some is = under_start n t b.inclusive b.value some is

within_start : (n : ℕ) (t : ℤ) (low high : Option Bound) → 0 < n → (begins_bucket n low && ends_bucket n high) ≡ true → is_within low high (Whole t) ≡ is_within low high (Whole (bucket_start n t))
within_start n t low high some is =
    let parts = and_parts (begins_bucket n low) (ends_bucket n high) is in
    ap (λ b. b && is_below high (Whole t)) (sym (above_start n t low some parts.0))
    ∙ ap (λ b. is_above low (Whole (bucket_start n t)) && b) (sym (below_start n t high some parts.1))

-- ---- a row, and another one of its series that has the start of its bucket as its time

keyed_told : (teller : Teller) → is_aligned_by teller false ≡ true → teller ≡ Key
keyed_told Time is = cc
keyed_told Key is = refl
keyed_told Cell is = cc

record IsAtStart (n : ℕ) (schema : Schema) (row other : Row) : Type 0 where
  same : HaveSameHeads schema.fields row other
  time : other.time ≡ bucket_start n row.time

-- both rows have one answer of an aligned query
abbrev Answers : ℕ → Schema → Row → Row → Query → Type 0
Answers n schema row other q = is_aligned n schema q ≡ true → matches_row q schema row ≡ matches_row q schema other

-- of a query that gives these answers
answered : (n : ℕ) (schema : Schema) (row other : Row) (q : Query) {told : Bool} {a b : Bool} → is_aligned n schema q ≡ told → matches_row q schema row ≡ a → matches_row q schema other ≡ b →
    (told ≡ true → a ≡ b) → Answers n schema row other q
answered n schema row other q told here there same = λ is. here ∙ (same (sym told ∙ is) ∙ sym there)

keyed_values : (n : ℕ) (schema : Schema) (row other : Row) (place : ℕ) → IsAtStart n schema row other → is_keyed_at schema.fields place ≡ true → values_at schema.fields place row ≡ values_at schema.fields place other
keyed_values n schema row other place at is = values_told schema.fields row other place at.same (keyed_told (teller_at schema.fields place) is)

has_answers : (n : ℕ) (schema : Schema) (row other : Row) (places : List ℕ) → IsAtStart n schema row other → list_all (is_keyed_at schema.fields) places ≡ true → list_any (has_value schema.fields row) places ≡ list_any (has_value schema.fields other) places
has_answers n schema row other [] at is = refl
has_answers n schema row other (place ∷ places) at is =
    let parts = and_parts (is_keyed_at schema.fields place) (list_all (is_keyed_at schema.fields) places) is in
    ap (λ vs. is_some_value vs || list_any (has_value schema.fields row) places) (keyed_values n schema row other place at parts.0)
    ∙ ap (λ b. has_value schema.fields other place || b) (has_answers n schema row other places at parts.1)

between_answers : (n : ℕ) (schema : Schema) (row other : Row) (place : ℕ) (low high : Option Bound) → 0 < n → IsAtStart n schema row other →
    is_aligned_by (teller_at schema.fields place) (begins_bucket n low && ends_bucket n high) ≡ true →
    list_any (is_within low high) (values_at schema.fields place row) ≡ list_any (is_within low high) (values_at schema.fields place other)
between_answers n schema row other place low high some at = by_teller (teller_at schema.fields place) refl
  where
    by_teller : (teller : Teller) → teller_at schema.fields place ≡ teller → is_aligned_by teller (begins_bucket n low && ends_bucket n high) ≡ true →
        list_any (is_within low high) (values_at schema.fields place row) ≡ list_any (is_within low high) (values_at schema.fields place other)
    by_teller Time by is =
        ap (list_any (is_within low high)) (time_alone schema.fields row place by)
        ∙ (ap (λ b. b || false) (within_start n row.time low high some is)
        ∙ (ap (λ t. is_within low high (Whole t) || false) (sym at.time)
        ∙ sym (ap (list_any (is_within low high)) (time_alone schema.fields other place by))))
    by_teller Key by is = ap (list_any (is_within low high)) (values_told schema.fields row other place at.same by)
    by_teller Cell by is = cc

cons_eq : {x y : Bool} {xs ys : List Bool} → x ≡ y → xs ≡ ys → x ∷ xs ≡ y ∷ ys
cons_eq p q = cc

all_answer : (n : ℕ) (schema : Schema) (row other : Row) (qs : List Query) → AllOf (Answers n schema row other) qs → list_all is_true (map (is_aligned n schema) qs) ≡ true → map (λ q. matches_row q schema row) qs ≡ map (λ q. matches_row q schema other) qs
all_answer n schema row other [] each is = refl
all_answer n schema row other (q ∷ qs) each is =
    let parts = and_parts (is_aligned n schema q) (list_all is_true (map (is_aligned n schema) qs)) is in
    cons_eq (each.0 parts.0) (all_answer n schema row other qs each.1 parts.1)

bool_answers : (n : ℕ) (schema : Schema) (row other : Row) (must should must_not : List Query) (least : ℕ) → AllOf (Answers n schema row other) must → AllOf (Answers n schema row other) should → AllOf (Answers n schema row other) must_not →
    Answers n schema row other (BoolQuery must should must_not least)
bool_answers n schema row other must should must_not least all some none =
    answered n schema row other (BoolQuery must should must_not least) (fold_bool Bool (align_step n schema.fields) must should must_not least)
    (fold_bool Bool (match_step schema.fields row) must should must_not least) (fold_bool Bool (match_step schema.fields other) must should must_not least) same
  where
    m : Query → Bool
    m q = matches_row q schema row

    o : Query → Bool
    o q = matches_row q schema other

    step : List Bool → List Bool → List Bool → Bool
    step ms ss ns = list_all is_true ms && (not (list_any is_true ns) && nat_le least (count_true ss))

    same : (list_all is_true (map (is_aligned n schema) must) && (list_all is_true (map (is_aligned n schema) should) && list_all is_true (map (is_aligned n schema) must_not))) ≡ true →
        step (map m must) (map m should) (map m must_not) ≡ step (map o must) (map o should) (map o must_not)
    same is =
        let first = and_parts (list_all is_true (map (is_aligned n schema) must)) (list_all is_true (map (is_aligned n schema) should) && list_all is_true (map (is_aligned n schema) must_not)) is in
        let others = and_parts (list_all is_true (map (is_aligned n schema) should)) (list_all is_true (map (is_aligned n schema) must_not)) first.1 in
        ap (λ ms. step ms (map m should) (map m must_not)) (all_answer n schema row other must all first.0)
        ∙ (ap (λ ss. step (map o must) ss (map m must_not)) (all_answer n schema row other should some others.0)
        ∙ ap (step (map o must) (map o should)) (all_answer n schema row other must_not none others.1))

answers : (n : ℕ) (schema : Schema) (row other : Row) → 0 < n → IsAtStart n schema row other → (q : Query) → Answers n schema row other q
answers n schema row other some at = by_kinds (Answers n schema row other) (record {
  at_all = λ is. fold_all Bool (match_step schema.fields row) ∙ sym (fold_all Bool (match_step schema.fields other));
  at_nothing = λ is. fold_nothing Bool (match_step schema.fields row) ∙ sym (fold_nothing Bool (match_step schema.fields other));
  at_has = λ places.
      answered n schema row other (Has places) (fold_has Bool (align_step n schema.fields) places) (fold_has Bool (match_step schema.fields row) places) (fold_has Bool (match_step schema.fields other) places)
      (has_answers n schema row other places at);
  at_one_of = λ place values.
      answered n schema row other (OneOf place values) (fold_one_of Bool (align_step n schema.fields) place values) (fold_one_of Bool (match_step schema.fields row) place values) (fold_one_of Bool (match_step schema.fields other) place values)
      (λ is. ap (list_any (is_one_of values)) (keyed_values n schema row other place at is));
  at_between = λ place low high.
      answered n schema row other (Between place low high) (fold_between Bool (align_step n schema.fields) place low high) (fold_between Bool (match_step schema.fields row) place low high) (fold_between Bool (match_step schema.fields other) place low high)
      (between_answers n schema row other place low high some at);
  at_bool = λ must should must_not least all some none. bool_answers n schema row other must should must_not least all some none;
})

-- ---- laws

head_fits : (schema : Schema) (row : Row) → IsMapped schema → FitsFields schema row → FitsFields schema (head_row_of schema row.key)
head_fits schema row mapped fits = record {
  is_folded = false;
  is_risen = fits.is_risen;
  fits = head_row_fits (in_form fits.is_folded fits.is_risen schema) row (form_mapped fits.is_folded fits.is_risen schema mapped) fits.fits;
}

at_bucket : (n : ℕ) (schema : Schema) (row : Row) → IsMapped schema → FitsFields schema row → IsAtStart n schema row (row_at schema row.key (bucket_start n row.time))
at_bucket n schema row mapped fits =
    let head = keyed_alike schema row (head_row_of schema row.key) mapped fits (head_fits schema row mapped fits) refl in
    record { same = record { heads = head.heads; long = head.long; other_long = head.other_long }; time = refl }

pub aligned_by_bucket : AlignedByBucket
aligned_by_bucket n schema query row aligned some mapped fits = answers n schema row (row_at schema row.key (bucket_start n row.time)) some (at_bucket n schema row mapped fits) query aligned

pub aligned_alike : AlignedAlike
aligned_alike n schema query row other aligned some mapped fits other_fits key bucket =
    aligned_by_bucket n schema query row aligned some mapped fits
    ∙ (ap (λ k. takes_bucket query schema k (bucket_start n row.time)) key
    ∙ (ap (takes_bucket query schema other.key) bucket ∙ sym (aligned_by_bucket n schema query other aligned some mapped other_fits)))

pub aligned_by_test : AlignedByTest
aligned_by_test n schema query rows aligned some mapped fit =
    Each-weaker (FitsFields schema) (λ row. matches_row query schema row ≡ takes_bucket query schema row.key (bucket_start n row.time))
    (λ row fits. aligned_by_bucket n schema query row aligned some mapped fits) rows fit
