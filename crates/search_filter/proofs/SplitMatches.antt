-- A query that splits takes the rows in its range that its rest takes.
use Rattle.std.specs.Prelude.{◌≡◌, ℕ, ℤ, pos, nat_le, int_le, int_lt, Bool, true, false, ◌&&◌, ◌||◌, not, List, [], ◌∷◌, map, if◌then◌else◌, Option, Some, None}
use Rattle.std.specs.Int.{int_max, int_min}
use Rattle.std.specs.List.{list_all, list_any, slice_get}
use Rattle.std.proofs.Common.{refl, ap, sym, ◌∙◌, subst, arith}
use Rattle.std.proofs.lemmas.Int.{ints, clamps}
use Rattle.row_cells.specs.declared.rows.Row.{Row}
use Rattle.row_cells.specs.declared.scalars.Scalar.{Scalar}
use Rattle.row_cells.specs.declared.scalars.Scalar.TheVariants.{Whole}
use Rattle.row_cells.specs.declared.schemas.Field.{Field}
use Rattle.row_cells.specs.declared.schemas.Role.{Role}
use Rattle.row_cells.specs.declared.schemas.Role.TheVariants.{Time as TimeRole, Dimension, Gauge, Counter, Label}
use Rattle.row_cells.specs.declared.schemas.Schema.{Schema}
use Rattle.time_text.specs.Instant.{IsInstant}
use Rattle.search_filter.specs.Matching.{count_true, is_one_of, is_true, is_within, match_step, matches_row}
use Rattle.search_filter.specs.SplitLaws.{SplitsMatch}
use Rattle.search_filter.specs.Splitting.{begin_of, end_at, end_of, end_of_time, is_between, is_presence_told, join_all, joined_if, rests_if, split_bool, split_by, split_of, split_step, teller_at, teller_by, teller_of, timed, timed_one, timeless}
use Rattle.search_filter.specs.Values.{values_at, values_by, values_under}
use Rattle.search_filter.specs.declared.query.Bound.{Bound}
use Rattle.search_filter.specs.declared.query.Query.{Query, Query-F, All, Nothing, Has, OneOf, Between, Bool as BoolQuery}
use Rattle.search_filter.specs.declared.splits.Joined.{Joined}
use Rattle.search_filter.specs.declared.splits.Split.{Split}
use Rattle.search_filter.specs.declared.tellers.Teller.{Teller}
use Rattle.search_filter.specs.declared.tellers.Teller.TheVariants.{Time, Key, Cell}
use Rattle.search_filter.proofs.SplitFolds.{AllOf, by_kinds, fold_all, fold_between, fold_bool, fold_has, fold_nothing, fold_one_of}
use Rattle.search_filter.proofs.SplitTimes.{above_told, below_told, between_both, in_time, same_told}

-- an answer is that of the split, where there is one
abbrev Agrees : Schema → Row → Option Split → Bool → Type 0
Agrees schema row None b = Unit {0}
Agrees schema row (Some split) b = b ≡ (is_between split.from split.to row.time && matches_row split.rest schema row)

-- all answers together are those of queries that were joined
abbrev AllAgree : Schema → Row → Option Joined → List Bool → Type 0
AllAgree schema row None bs = Unit {0}
AllAgree schema row (Some j) bs = list_all is_true bs ≡ (is_between j.from j.to row.time && list_all is_true (map (λ q. matches_row q schema row) j.rests))

-- each answer is that of a rest, where the range is the whole one
abbrev EachAgrees : Schema → Row → Option Joined → List Bool → Type 0
EachAgrees schema row None bs = Unit {0}
EachAgrees schema row (Some j) bs = int_le j.from (pos 0) ≡ true → int_le end_of_time j.to ≡ true → bs ≡ map (λ q. matches_row q schema row) j.rests

abbrev RestsAgree : Schema → Row → Option (List Query) → List Bool → Type 0
RestsAgree schema row None bs = Unit {0}
RestsAgree schema row (Some qs) bs = bs ≡ map (λ q. matches_row q schema row) qs

matches_all : (schema : Schema) (row : Row) → matches_row All schema row ≡ true
matches_all schema row = fold_all Bool (match_step schema.fields row)

-- ---- single queries

timeless_agrees : (schema : Schema) (row : Row) (q : Query) → IsInstant row.time → Agrees schema row (Some (timeless q)) (matches_row q schema row)
timeless_agrees schema row q is = sym (ap (λ b. b && matches_row q schema row) (in_time row.time is))

and_true : (b : Bool) → (b && true) ≡ b
and_true true = refl
and_true false = refl

-- a range of times alone
range_agrees : (schema : Schema) (row : Row) (from to : ℤ) (b : Bool) → b ≡ is_between from to row.time → b ≡ (is_between from to row.time && matches_row All schema row)
range_agrees schema row from to b is =
    is ∙ (sym (and_true (is_between from to row.time)) ∙ ap (λ m. is_between from to row.time && m) (sym (matches_all schema row)))

-- the values at a field of which the time tells are the time
pub time_alone : (fields : List Field) (row : Row) (place : ℕ) → teller_at fields place ≡ Time → values_at fields place row ≡ Whole row.time ∷ []
time_alone fields row place = by_field (slice_get fields place)
  where
    by_role : (role : Role) → teller_by role ≡ Time → values_by role row.time (slice_get row.cells place) ≡ Whole row.time ∷ []
    by_role TimeRole is = refl
    by_role Dimension is = cc
    by_role Gauge is = cc
    by_role Counter is = cc
    by_role Label is = cc

    by_field : (f : Option Field) → teller_of f ≡ Time → values_under f row.time (slice_get row.cells place) ≡ Whole row.time ∷ []
    by_field None is = cc
    by_field (Some f) is = by_role f.role is

one_agrees : (schema : Schema) (row : Row) (values : List Scalar) → IsInstant row.time → Agrees schema row (timed_one values) (list_any (is_one_of values) (Whole row.time ∷ []))
one_agrees schema row [] is = tt
one_agrees schema row (v ∷ []) is = by_ends (end_at false v) (end_at true v) refl refl
  where
    by_ends : (from to : Option ℤ) → end_at false v ≡ from → end_at true v ≡ to → Agrees schema row (timed from to) (list_any (is_one_of (v ∷ [])) (Whole row.time ∷ []))
    by_ends None to begins ends = tt
    by_ends (Some from) None begins ends = tt
    by_ends (Some from) (Some to) begins ends = range_agrees schema row from to (list_any (is_one_of (v ∷ [])) (Whole row.time ∷ [])) (same_told row.time v from to is begins ends)
one_agrees schema row (v ∷ (w ∷ vs)) is = tt

or_nothing : (b : Bool) → (b || false) ≡ b
or_nothing true = refl
or_nothing false = refl

within_agrees : (schema : Schema) (row : Row) (low high : Option Bound) → IsInstant row.time → Agrees schema row (timed (begin_of low) (end_of high)) (list_any (is_within low high) (Whole row.time ∷ []))
within_agrees schema row low high is = by_ends (begin_of low) (end_of high) refl refl
  where
    by_ends : (from to : Option ℤ) → begin_of low ≡ from → end_of high ≡ to → Agrees schema row (timed from to) (list_any (is_within low high) (Whole row.time ∷ []))
    by_ends None to begins ends = tt
    by_ends (Some from) None begins ends = tt
    by_ends (Some from) (Some to) begins ends =
        let above = above_told row.time low from is begins in
        let below = below_told row.time high to is ends in
        range_agrees schema row from to (list_any (is_within low high) (Whole row.time ∷ [])) (or_nothing (is_within low high (Whole row.time)) ∙ cc)

-- a query on the values at one field
field_agrees : (schema : Schema) (row : Row) (place : ℕ) (q : Query) (times : Option Split) (test : List Scalar → Bool) → IsInstant row.time → matches_row q schema row ≡ test (values_at schema.fields place row) →
    Agrees schema row times (test (Whole row.time ∷ [])) → Agrees schema row (split_by (teller_at schema.fields place) times q) (matches_row q schema row)
field_agrees schema row place q times test is told agrees = by_teller (teller_at schema.fields place) refl
  where
    by_teller : (t : Teller) → teller_at schema.fields place ≡ t → Agrees schema row (split_by t times q) (matches_row q schema row)
    by_teller Time by = subst (Agrees schema row times) (sym (told ∙ ap test (time_alone schema.fields row place by))) agrees
    by_teller Key by = timeless_agrees schema row q is
    by_teller Cell by = tt

-- ---- queries of queries

crossed : (x r y s : Bool) → ((x && r) && (y && s)) ≡ ((x && y) && (r && s))
crossed true true y s = refl
crossed true false true s = refl
crossed true false false s = refl
crossed false r y s = refl

join_agrees : (schema : Schema) (row : Row) (s : Option Split) (j : Option Joined) (b : Bool) (bs : List Bool) → Agrees schema row s b → AllAgree schema row j bs → AllAgree schema row (joined_if s j) (b ∷ bs)
join_agrees schema row None j b bs first rest = tt
join_agrees schema row (Some s) None b bs first rest = tt
join_agrees schema row (Some s) (Some j) b bs first rest =
    let m = matches_row s.rest schema row in
    let ms = list_all is_true (map (λ q. matches_row q schema row) j.rests) in
    ap (λ x. x && list_all is_true bs) first
    ∙ (ap (λ y. (is_between s.from s.to row.time && m) && y) rest
    ∙ (crossed (is_between s.from s.to row.time) m (is_between j.from j.to row.time) ms
    ∙ ap (λ z. z && (m && ms)) (sym (between_both s.from j.from s.to j.to row.time))))

all_agree : (schema : Schema) (row : Row) (qs : List Query) → IsInstant row.time → AllOf (λ q. Agrees schema row (split_of schema q) (matches_row q schema row)) qs →
    AllAgree schema row (join_all (map (split_of schema) qs)) (map (λ q. matches_row q schema row) qs)
all_agree schema row [] is each = sym (ap (λ b. b && true) (in_time row.time is))
all_agree schema row (q ∷ qs) is each =
    join_agrees schema row (split_of schema q) (join_all (map (split_of schema) qs)) (matches_row q schema row) (map (λ q. matches_row q schema row) qs) each.0 (all_agree schema row qs is each.1)

cons_eq : {x y : Bool} {xs ys : List Bool} → x ≡ y → xs ≡ ys → x ∷ xs ≡ y ∷ ys
cons_eq p q = cc

-- ranges of which the whole one is made are whole
from_parts : (a b : ℤ) → int_le (int_max a b) (pos 0) ≡ true → (int_le a (pos 0) ≡ true) × (int_le b (pos 0) ≡ true)
from_parts a b is = (grind (arith, ints, clamps, is), grind (arith, ints, clamps, is))

to_parts : (e a b : ℤ) → int_le e (int_min a b) ≡ true → (int_le e a ≡ true) × (int_le e b ≡ true)
to_parts e a b is = (grind (arith, ints, clamps, is), grind (arith, ints, clamps, is))

whole_between : (from to t : ℤ) → int_le from (pos 0) ≡ true → int_le end_of_time to ≡ true → IsInstant t → is_between from to t ≡ true
whole_between from to t begins ends is =
    let low : int_le from t ≡ true = grind (arith, ints, is.0) in
    let high : int_lt t to ≡ true = grind (arith, ints, is.1) in
    cc

join_each : (schema : Schema) (row : Row) (s : Option Split) (j : Option Joined) (b : Bool) (bs : List Bool) → IsInstant row.time → Agrees schema row s b → EachAgrees schema row j bs → EachAgrees schema row (joined_if s j) (b ∷ bs)
join_each schema row None j b bs is first rest = tt
join_each schema row (Some s) None b bs is first rest = tt
join_each schema row (Some s) (Some j) b bs is first rest = λ begins ends.
    let froms = from_parts s.from j.from begins in
    let tos = to_parts end_of_time s.to j.to ends in
    cons_eq (first ∙ ap (λ w. w && matches_row s.rest schema row) (whole_between s.from s.to row.time froms.0 tos.0 is)) (rest froms.1 tos.1)

each_agrees : (schema : Schema) (row : Row) (qs : List Query) → IsInstant row.time → AllOf (λ q. Agrees schema row (split_of schema q) (matches_row q schema row)) qs →
    EachAgrees schema row (join_all (map (split_of schema) qs)) (map (λ q. matches_row q schema row) qs)
each_agrees schema row [] is each = λ begins ends. refl
each_agrees schema row (q ∷ qs) is each =
    join_each schema row (split_of schema q) (join_all (map (split_of schema) qs)) (matches_row q schema row) (map (λ q. matches_row q schema row) qs) is each.0 (each_agrees schema row qs is each.1)

rests_agree : (schema : Schema) (row : Row) (j : Option Joined) (bs : List Bool) → EachAgrees schema row j bs → RestsAgree schema row (rests_if j) bs
rests_agree schema row None bs each = tt
rests_agree schema row (Some j) bs each = by_tests (int_le j.from (pos 0)) (int_le end_of_time j.to) refl refl
  where
    by_tests : (x y : Bool) → int_le j.from (pos 0) ≡ x → int_le end_of_time j.to ≡ y → RestsAgree schema row (if x && y then Some j.rests else None) bs
    by_tests true true begins ends = each begins ends
    by_tests true false begins ends = tt
    by_tests false y begins ends = tt

and_grouped : (x y z : Bool) → ((x && y) && z) ≡ (x && (y && z))
and_grouped true y z = refl
and_grouped false y z = refl

bool_agrees : (schema : Schema) (row : Row) (least : ℕ) (must : Option Joined) (should must_not : Option (List Query)) (ms ss ns : List Bool) → AllAgree schema row must ms → RestsAgree schema row should ss → RestsAgree schema row must_not ns →
    Agrees schema row (split_bool least must should must_not) (match_step schema.fields row (Query-F.Bool ms ss ns least))
bool_agrees schema row least None should must_not ms ss ns all some none = tt
bool_agrees schema row least (Some j) None must_not ms ss ns all some none = tt
bool_agrees schema row least (Some j) (Some qs) None ms ss ns all some none = tt
bool_agrees schema row least (Some j) (Some qs) (Some os) ms ss ns all some none =
    let m : Query → Bool = λ q. matches_row q schema row in
    let others : List Bool → List Bool → Bool = λ ns ss. not (list_any is_true ns) && nat_le least (count_true ss) in
    ap (λ x. x && others ns ss) all
    ∙ (ap (λ n. (is_between j.from j.to row.time && list_all is_true (map m j.rests)) && others n ss) none
    ∙ (ap (λ s. (is_between j.from j.to row.time && list_all is_true (map m j.rests)) && others (map m os) s) some
    ∙ (and_grouped (is_between j.from j.to row.time) (list_all is_true (map m j.rests)) (others (map m os) (map m qs))
    ∙ ap (λ x. is_between j.from j.to row.time && x) (sym (fold_bool Bool (match_step schema.fields row) j.rests qs os least)))))

-- ---- all queries

told_along : (schema : Schema) (row : Row) (q : Query) (s : Option Split) (b : Bool) → split_of schema q ≡ s → matches_row q schema row ≡ b → Agrees schema row s b → Agrees schema row (split_of schema q) (matches_row q schema row)
told_along schema row q s b split is agrees = subst (λ s. Agrees schema row s (matches_row q schema row)) (sym split) (subst (Agrees schema row s) (sym is) agrees)

presence_agrees : (schema : Schema) (row : Row) (places : List ℕ) → IsInstant row.time → (told : Bool) → Agrees schema row (if told then Some (timeless (Has places)) else None) (matches_row (Has places) schema row)
presence_agrees schema row places is true = timeless_agrees schema row (Has places) is
presence_agrees schema row places is false = tt

pub agrees : (schema : Schema) (row : Row) → IsInstant row.time → (q : Query) → Agrees schema row (split_of schema q) (matches_row q schema row)
agrees schema row is = by_kinds (λ q. Agrees schema row (split_of schema q) (matches_row q schema row)) (record {
  at_all = subst (λ s. Agrees schema row s (matches_row All schema row)) (sym (fold_all (Option Split) (split_step schema.fields))) (timeless_agrees schema row All is);
  at_nothing = subst (λ s. Agrees schema row s (matches_row Nothing schema row)) (sym (fold_nothing (Option Split) (split_step schema.fields))) (timeless_agrees schema row Nothing is);
  at_has = λ places.
      subst (λ s. Agrees schema row s (matches_row (Has places) schema row)) (sym (fold_has (Option Split) (split_step schema.fields) places))
      (presence_agrees schema row places is (list_all (λ place. is_presence_told (teller_at schema.fields place)) places));
  at_one_of = λ place values.
      subst (λ s. Agrees schema row s (matches_row (OneOf place values) schema row)) (sym (fold_one_of (Option Split) (split_step schema.fields) place values))
      (field_agrees schema row place (OneOf place values) (timed_one values) (list_any (is_one_of values)) is (fold_one_of Bool (match_step schema.fields row) place values) (one_agrees schema row values is));
  at_between = λ place low high.
      subst (λ s. Agrees schema row s (matches_row (Between place low high) schema row)) (sym (fold_between (Option Split) (split_step schema.fields) place low high))
      (field_agrees schema row place (Between place low high) (timed (begin_of low) (end_of high)) (list_any (is_within low high)) is (fold_between Bool (match_step schema.fields row) place low high) (within_agrees schema row low high is));
  at_bool = λ must should must_not least all some none.
      told_along schema row (BoolQuery must should must_not least) _ _ (fold_bool (Option Split) (split_step schema.fields) must should must_not least) (fold_bool Bool (match_step schema.fields row) must should must_not least)
      (bool_agrees schema row least (join_all (map (split_of schema) must)) (rests_if (join_all (map (split_of schema) should))) (rests_if (join_all (map (split_of schema) must_not))) (map (λ q. matches_row q schema row) must) (map (λ q. matches_row q schema row) should) (map (λ q. matches_row q schema row) must_not)
      (all_agree schema row must is all)
      (rests_agree schema row (join_all (map (split_of schema) should)) (map (λ q. matches_row q schema row) should) (each_agrees schema row should is some))
      (rests_agree schema row (join_all (map (split_of schema) must_not)) (map (λ q. matches_row q schema row) must_not) (each_agrees schema row must_not is none)));
})

pub split_matches : SplitsMatch
split_matches schema query split row is instant = subst (λ s. Agrees schema row s (matches_row query schema row)) is (agrees schema row instant query)
