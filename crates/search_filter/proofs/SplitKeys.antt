-- What a key tells of its rows, the rest of a query that splits is told by it.
use Rattle.std.specs.Prelude.{◌≡◌, ℕ, ℤ, pos, int_le, nat_le, Bool, true, false, ◌&&◌, ◌||◌, not, List, [], ◌∷◌, map, if◌then◌else◌, Option, Some, None}
use Rattle.std.specs.List.{list_all, list_any}
use Rattle.std.proofs.Common.{refl, ap, sym, ◌∙◌, subst}
use Rattle.std.proofs.lemmas.Bool.{and_parts}
use Rattle.row_cells.specs.declared.rows.Row.{Row}
use Rattle.row_cells.specs.declared.scalars.Scalar.{Scalar}
use Rattle.row_cells.specs.declared.schemas.Field.{Field}
use Rattle.row_cells.specs.declared.schemas.Schema.{Schema}
use Rattle.row_cells.specs.Dimensions.{key_bytes}
use Rattle.search_filter.specs.Forms.{FitsFields}
use Rattle.search_filter.specs.Matching.{count_true, has_value, is_one_of, is_true, is_within, match_step, matches_row}
use Rattle.search_filter.specs.SplitLaws.{RestByHead, RestByKey}
use Rattle.search_filter.specs.Splitting.{begin_of, end_at, end_of, end_of_time, is_presence_told, join_all, joined_if, rests_if, split_bool, split_by, split_of, split_step, teller_at, timed, timed_one, timeless}
use Rattle.search_filter.specs.Values.{values_at}
use Rattle.search_filter.specs.declared.query.Query.{Query, All, Nothing, Has, OneOf, Between}
use Rattle.search_filter.specs.declared.splits.Joined.{Joined}
use Rattle.search_filter.specs.declared.splits.Split.{Split}
use Rattle.search_filter.specs.declared.tellers.Teller.{Teller}
use Rattle.search_filter.specs.declared.tellers.Teller.TheVariants.{Time, Key, Cell as CellTeller}
use Rattle.search_filter.proofs.SameHeads.{HaveSameHeads, keyed_alike, presence_told, values_told}
use Rattle.search_filter.proofs.SplitFolds.{AllOf, by_kinds, fold_all, fold_between, fold_bool, fold_has, fold_nothing, fold_one_of}

-- ---- what the rest answers

-- both rows have one answer of the rest, where there is one
abbrev Tells : Schema → Row → Row → Option Split → Type 0
Tells schema row other None = Unit {0}
Tells schema row other (Some split) = matches_row split.rest schema row ≡ matches_row split.rest schema other

abbrev AllTell : Schema → Row → Row → List Query → Type 0
AllTell schema row other qs = map (λ q. matches_row q schema row) qs ≡ map (λ q. matches_row q schema other) qs

abbrev JoinedTells : Schema → Row → Row → Option Joined → Type 0
JoinedTells schema row other None = Unit {0}
JoinedTells schema row other (Some j) = AllTell schema row other j.rests

abbrev RestsTell : Schema → Row → Row → Option (List Query) → Type 0
RestsTell schema row other None = Unit {0}
RestsTell schema row other (Some qs) = AllTell schema row other qs

all_tells : (schema : Schema) (row other : Row) → matches_row All schema row ≡ matches_row All schema other
all_tells schema row other = fold_all Bool (match_step schema.fields row) ∙ sym (fold_all Bool (match_step schema.fields other))

nothing_tells : (schema : Schema) (row other : Row) → matches_row Nothing schema row ≡ matches_row Nothing schema other
nothing_tells schema row other = fold_nothing Bool (match_step schema.fields row) ∙ sym (fold_nothing Bool (match_step schema.fields other))

timed_tells : (schema : Schema) (row other : Row) (from to : Option ℤ) → Tells schema row other (timed from to)
timed_tells schema row other None to = tt
timed_tells schema row other (Some from) None = tt
timed_tells schema row other (Some from) (Some to) = all_tells schema row other

one_tells : (schema : Schema) (row other : Row) (values : List Scalar) → Tells schema row other (timed_one values)
one_tells schema row other [] = tt
one_tells schema row other (v ∷ []) = timed_tells schema row other (end_at false v) (end_at true v)
one_tells schema row other (v ∷ (w ∷ vs)) = tt

-- a query on the values at one field
field_tells : (schema : Schema) (row other : Row) (place : ℕ) (q : Query) (times : Option Split) (test : List Scalar → Bool) → HaveSameHeads schema.fields row other → matches_row q schema row ≡ test (values_at schema.fields place row) → matches_row q schema other ≡ test (values_at schema.fields place other) →
    Tells schema row other times → Tells schema row other (split_by (teller_at schema.fields place) times q)
field_tells schema row other place q times test same told other_told tells = by_teller (teller_at schema.fields place) refl
  where
    by_teller : (t : Teller) → teller_at schema.fields place ≡ t → Tells schema row other (split_by t times q)
    by_teller Time by = tells
    by_teller Key by = told ∙ (ap test (values_told schema.fields row other place same by) ∙ sym other_told)
    by_teller CellTeller by = tt

has_same : (fields : List Field) (row other : Row) (places : List ℕ) → HaveSameHeads fields row other → list_all (λ place. is_presence_told (teller_at fields place)) places ≡ true → list_any (has_value fields row) places ≡ list_any (has_value fields other) places
has_same fields row other [] same told = refl
has_same fields row other (place ∷ places) same told =
    let parts = and_parts (is_presence_told (teller_at fields place)) (list_all (λ place. is_presence_told (teller_at fields place)) places) told in
    ap (λ b. b || list_any (has_value fields row) places) (presence_told fields row other place same parts.0)
    ∙ ap (λ b. has_value fields other place || b) (has_same fields row other places same parts.1)

has_tells : (schema : Schema) (row other : Row) (places : List ℕ) → HaveSameHeads schema.fields row other → (told : Bool) → list_all (λ place. is_presence_told (teller_at schema.fields place)) places ≡ told → Tells schema row other (if told then Some (timeless (Has places)) else None)
has_tells schema row other places same true told =
    fold_has Bool (match_step schema.fields row) places ∙ (has_same schema.fields row other places same told ∙ sym (fold_has Bool (match_step schema.fields other) places))
has_tells schema row other places same false told = tt

cons_eq : {x y : Bool} {xs ys : List Bool} → x ≡ y → xs ≡ ys → x ∷ xs ≡ y ∷ ys
cons_eq p q = cc

join_tells : (schema : Schema) (row other : Row) (s : Option Split) (j : Option Joined) → Tells schema row other s → JoinedTells schema row other j → JoinedTells schema row other (joined_if s j)
join_tells schema row other None j first rest = tt
join_tells schema row other (Some s) None first rest = tt
join_tells schema row other (Some s) (Some j) first rest = cons_eq first rest

joined_tells : (schema : Schema) (row other : Row) (qs : List Query) → AllOf (λ q. Tells schema row other (split_of schema q)) qs → JoinedTells schema row other (join_all (map (split_of schema) qs))
joined_tells schema row other [] each = refl
joined_tells schema row other (q ∷ qs) each = join_tells schema row other (split_of schema q) (join_all (map (split_of schema) qs)) each.0 (joined_tells schema row other qs each.1)

rests_tell : (schema : Schema) (row other : Row) (j : Option Joined) → JoinedTells schema row other j → RestsTell schema row other (rests_if j)
rests_tell schema row other None tells = tt
rests_tell schema row other (Some j) tells = by_test (int_le j.from (pos 0) && int_le end_of_time j.to)
  where
    by_test : (b : Bool) → RestsTell schema row other (if b then Some j.rests else None)
    by_test true = tells
    by_test false = tt

bool_tells : (schema : Schema) (row other : Row) (least : ℕ) (must : Option Joined) (should must_not : Option (List Query)) → JoinedTells schema row other must → RestsTell schema row other should → RestsTell schema row other must_not → Tells schema row other (split_bool least must should must_not)
bool_tells schema row other least None should must_not all some none = tt
bool_tells schema row other least (Some j) None must_not all some none = tt
bool_tells schema row other least (Some j) (Some qs) None all some none = tt
bool_tells schema row other least (Some j) (Some qs) (Some os) all some none =
    let m : Query → Bool = λ q. matches_row q schema row in
    let n : Query → Bool = λ q. matches_row q schema other in
    let step : List Bool → List Bool → List Bool → Bool = λ ms ss ns. list_all is_true ms && (not (list_any is_true ns) && nat_le least (count_true ss)) in
    fold_bool Bool (match_step schema.fields row) j.rests qs os least
    ∙ (ap (λ ms. step ms (map m qs) (map m os)) all
    ∙ (ap (λ ss. step (map n j.rests) ss (map m os)) some
    ∙ (ap (step (map n j.rests) (map n qs)) none ∙ sym (fold_bool Bool (match_step schema.fields other) j.rests qs os least))))

tells : (schema : Schema) (row other : Row) → HaveSameHeads schema.fields row other → (q : Query) → Tells schema row other (split_of schema q)
tells schema row other same = by_kinds (λ q. Tells schema row other (split_of schema q)) (record {
  at_all = subst (Tells schema row other) (sym (fold_all (Option Split) (split_step schema.fields))) (all_tells schema row other);
  at_nothing = subst (Tells schema row other) (sym (fold_nothing (Option Split) (split_step schema.fields))) (nothing_tells schema row other);
  at_has = λ places.
      subst (Tells schema row other) (sym (fold_has (Option Split) (split_step schema.fields) places))
      (has_tells schema row other places same (list_all (λ place. is_presence_told (teller_at schema.fields place)) places) refl);
  at_one_of = λ place values.
      subst (Tells schema row other) (sym (fold_one_of (Option Split) (split_step schema.fields) place values))
      (field_tells schema row other place (OneOf place values) (timed_one values) (list_any (is_one_of values)) same (fold_one_of Bool (match_step schema.fields row) place values) (fold_one_of Bool (match_step schema.fields other) place values) (one_tells schema row other values));
  at_between = λ place low high.
      subst (Tells schema row other) (sym (fold_between (Option Split) (split_step schema.fields) place low high))
      (field_tells schema row other place (Between place low high) (timed (begin_of low) (end_of high)) (list_any (is_within low high)) same (fold_between Bool (match_step schema.fields row) place low high) (fold_between Bool (match_step schema.fields other) place low high) (timed_tells schema row other (begin_of low) (end_of high)));
  at_bool = λ must should must_not least all some none.
      subst (Tells schema row other) (sym (fold_bool (Option Split) (split_step schema.fields) must should must_not least))
      (bool_tells schema row other least (join_all (map (split_of schema) must)) (rests_if (join_all (map (split_of schema) should))) (rests_if (join_all (map (split_of schema) must_not)))
      (joined_tells schema row other must all)
      (rests_tell schema row other (join_all (map (split_of schema) should)) (joined_tells schema row other should some))
      (rests_tell schema row other (join_all (map (split_of schema) must_not)) (joined_tells schema row other must_not none)));
})

told_rest : (schema : Schema) (query : Query) (split : Split) (row other : Row) → split_of schema query ≡ Some split → HaveSameHeads schema.fields row other → matches_row split.rest schema row ≡ matches_row split.rest schema other
told_rest schema query split row other is same = subst (Tells schema row other) is (tells schema row other same query)

pub rest_by_key : RestByKey
rest_by_key schema query split row other is mapped fits other_fits key = told_rest schema query split row other is (keyed_alike schema row other mapped fits other_fits key)

pub rest_by_head : RestByHead
rest_by_head schema query split row head is mapped fits headed =
    let head_fits : FitsFields schema head = record { is_folded = false; is_risen = schema.rises; fits = headed.fits } in
    let key : row.key ≡ head.key = fits.fits.key_is ∙ (ap key_bytes (sym headed.dimensions) ∙ sym headed.fits.key_is) in
    told_rest schema query split row head is (keyed_alike schema row head mapped fits head_fits key)
