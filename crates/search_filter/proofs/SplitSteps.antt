-- Queries split one after the other.
use Rattle.std.specs.Prelude.{◌≡◌, ℕ, ◌<◌, ◌≤◌, ◌+◌, ℤ, pos, Bool, true, if◌then◌else◌, List, [], ◌∷◌, length, drop, map, Option, Some, None}
use Rattle.std.specs.Int.{int_max, int_min}
use Rattle.std.specs.List.{list_all}
use Rattle.std.proofs.Common.{refl, ap, sym, ◌∙◌, arith, get_or}
use Rattle.std.proofs.lemmas.Int.{ints, clamps}
use Rattle.std.proofs.lemmas.List.{append-nil, append_assoc, drop_all, drop_more}
use Rattle.row_cells.specs.declared.schemas.Schema.{Schema}
use Rattle.search_filter.specs.Splitting.{end_of_time, is_presence_told, join_all, joined_behind, joined_both, joined_if, rests_if, split_bool, split_of, split_step, teller_at, timeless}
use Rattle.search_filter.specs.declared.query.Query.{Query, Has, Bool as BoolQuery}
use Rattle.search_filter.specs.declared.splits.Joined.{Joined}
use Rattle.search_filter.specs.declared.splits.Split.{Split}
use Rattle.search_filter.proofs.SplitFolds.{fold_bool, fold_has}

abbrev joined_of : ℤ → ℤ → List Query → Option Joined
joined_of from to rests = Some (record { from = from; to = to; rests = rests })

joined_eq : {f g t u : ℤ} {xs ys : List Query} → f ≡ g → t ≡ u → xs ≡ ys → joined_of f t xs ≡ joined_of g u ys
joined_eq p q r = cc

max_grouped : (a b c : ℤ) → int_max a (int_max b c) ≡ int_max (int_max a b) c
max_grouped a b c = omega (arith, ints, clamps)

min_grouped : (a b c : ℤ) → int_min a (int_min b c) ≡ int_min (int_min a b) c
min_grouped a b c = omega (arith, ints, clamps)

-- one query more is joined
pub join_step : (j : Joined) (s : Split) (rest : Option Joined) → joined_both j (joined_if (Some s) rest) ≡ joined_both (joined_behind j s) rest
join_step j s None = refl
join_step j s (Some k) = joined_eq (max_grouped j.from s.from k.from) (min_grouped j.to s.to k.to) (sym (append_assoc j.rests (s.rest ∷ []) k.rests))

-- no range that was joined is wider than the whole one
pub record IsWithin (j : Joined) : Type 0 where
  pub begins : int_max j.from (pos 0) ≡ j.from
  pub ends : int_min j.to end_of_time ≡ j.to

pub within_whole : (j : Joined) → Some j ≡ join_all [] → IsWithin j
within_whole j is =
    let whole : j ≡ record { from = pos 0; to = end_of_time; rests = [] } = cc in
    record { begins = rw whole refl; ends = rw whole refl }

max_kept : (a b : ℤ) → int_max a (pos 0) ≡ a → int_max (int_max a b) (pos 0) ≡ int_max a b
max_kept a b is = omega (arith, ints, clamps, is)

min_kept : (e a b : ℤ) → int_min a e ≡ a → int_min (int_min a b) e ≡ int_min a b
min_kept e a b is = omega (arith, ints, clamps, is)

pub within_more : (j new : Joined) (s : Split) → new ≡ joined_behind j s → IsWithin j → IsWithin new
within_more j new s is within =
    let from : new.from ≡ int_max j.from s.from = ap (λ k. k.from) is in
    let to : new.to ≡ int_min j.to s.to = ap (λ k. k.to) is in
    record { begins = rw from (max_kept j.from s.from within.begins); ends = rw to (min_kept end_of_time j.to s.to within.ends) }

max_first : (a b : ℤ) → int_max (pos 0) b ≡ b → int_max (pos 0) (int_max a b) ≡ int_max a b
max_first a b is = omega (arith, ints, clamps, is)

min_first : (e a b : ℤ) → int_min e b ≡ b → int_min e (int_min a b) ≡ int_min a b
min_first e a b is = omega (arith, ints, clamps, is)

abbrev whole : Joined
whole = record { from = pos 0; to = end_of_time; rests = [] }

first_kept : (s : Split) (j : Option Joined) → joined_both whole j ≡ j → joined_both whole (joined_if (Some s) j) ≡ joined_if (Some s) j
first_kept s None is = refl
first_kept s (Some k) is =
    let same : ◌≡◌ {A = Joined} (record { from = int_max (pos 0) k.from; to = int_min end_of_time k.to; rests = k.rests }) k = cc in
    joined_eq (max_first s.from k.from (ap (λ j. j.from) same)) (min_first end_of_time s.to k.to (ap (λ j. j.to) same)) refl

from_whole : (ss : List (Option Split)) → joined_both whole (join_all ss) ≡ join_all ss
from_whole [] = refl
from_whole (None ∷ ss) = refl
from_whole (Some s ∷ ss) = first_kept s (join_all ss) (from_whole ss)

-- before the first one
pub joined_first : (j : Joined) (ss : List (Option Split)) → Some j ≡ join_all [] → joined_both j (join_all ss) ≡ join_all ss
joined_first j ss is =
    let same : j ≡ whole = cc in
    ap (λ k. joined_both k (join_all ss)) same ∙ from_whole ss

drop_here : {S : Type 0} (xs : List S) (i : ℕ) (x : S) → i < length xs → x ≡ get_or xs i x → drop i xs ≡ x ∷ drop (i + 1) xs
drop_here xs i x here is = drop_more xs i x here ∙ ap (λ z. z ∷ drop (i + 1) xs) (sym is)

-- the first of what is left is joined
pub joined_more : (schema : Schema) (queries : List Query) (i : ℕ) (q : Query) (old new : Joined) (split : Split) (got : Option Split) (all : Option Joined) → i < length queries → q ≡ get_or queries i q →
    got ≡ split_of schema q → got ≡ Some split → new ≡ joined_behind old split → joined_both old (join_all (map (split_of schema) (drop i queries))) ≡ all →
    joined_both new (join_all (map (split_of schema) (drop (i + 1) queries))) ≡ all
joined_more schema queries i q old new split got all here is told some joined kept =
    let rest = join_all (map (split_of schema) (drop (i + 1) queries)) in
    ap (λ j. joined_both j rest) joined
    ∙ (sym (join_step old split rest)
    ∙ (ap (λ s. joined_both old (joined_if s rest)) (sym some ∙ told)
    ∙ (ap (λ qs. joined_both old (join_all (map (split_of schema) qs))) (sym (drop_here queries i q here is)) ∙ kept)))

-- nothing is left
pub joined_whole : (schema : Schema) (queries : List Query) (i : ℕ) (j : Joined) (all : Option Joined) → length queries ≤ i → IsWithin j →
    joined_both j (join_all (map (split_of schema) (drop i queries))) ≡ all → Some j ≡ all
joined_whole schema queries i j all past within kept =
    joined_eq (sym within.begins) (sym within.ends) (sym (append-nil j.rests))
    ∙ (ap (λ qs. joined_both j (join_all (map (split_of schema) qs))) (sym (drop_all i queries past)) ∙ kept)

-- one of them doesn't split
pub joined_none : (schema : Schema) (queries : List Query) (i : ℕ) (q : Query) (old : Joined) (got : Option Split) (all : Option Joined) → i < length queries → q ≡ get_or queries i q →
    got ≡ split_of schema q → got ≡ None → joined_both old (join_all (map (split_of schema) (drop i queries))) ≡ all → None ≡ all
joined_none schema queries i q old got all here is told none kept =
    let rest = join_all (map (split_of schema) (drop (i + 1) queries)) in
    ap (λ s. joined_both old (joined_if s rest)) (sym none ∙ told)
    ∙ (ap (λ qs. joined_both old (join_all (map (split_of schema) qs))) (sym (drop_here queries i q here is)) ∙ kept)

-- `exists` of which keys tell
pub has_told : (schema : Schema) (places : List ℕ) (told : Bool) (split : Split) → told ≡ list_all (λ place. is_presence_told (teller_at schema.fields place)) places → told ≡ true → split ≡ timeless (Has places) →
    Some split ≡ split_of schema (Has places)
has_told schema places told split is holds split_is =
    let all : list_all (λ place. is_presence_told (teller_at schema.fields place)) places ≡ true = sym is ∙ holds in
    ap Some split_is
    ∙ (ap (λ b. if b then Some (timeless (Has places)) else None) (sym all) ∙ sym (fold_has (Option Split) (split_step schema.fields) places))

-- a query of queries, of which each list was split
pub bool_told : (schema : Schema) (query : Query) (must should must_not must_seen should_seen must_not_seen : List Query) (least : ℕ) (m s n : Option Joined) (should_rests must_not_rests : Option (List Query)) (split : Option Split) →
    query ≡ BoolQuery must should must_not least → must_seen ≡ must → should_seen ≡ should → must_not_seen ≡ must_not →
    m ≡ join_all (map (split_of schema) must_seen) → s ≡ join_all (map (split_of schema) should_seen) → n ≡ join_all (map (split_of schema) must_not_seen) →
    should_rests ≡ rests_if s → must_not_rests ≡ rests_if n → split ≡ split_bool least m should_rests must_not_rests → split ≡ split_of schema query
bool_told schema query must should must_not must_seen should_seen must_not_seen least m s n should_rests must_not_rests split query_is must_is should_is must_not_is m_is s_is n_is should_told must_not_told split_is =
    let a : m ≡ join_all (map (split_of schema) must) = m_is ∙ ap (λ qs. join_all (map (split_of schema) qs)) must_is in
    let b : should_rests ≡ rests_if (join_all (map (split_of schema) should)) = should_told ∙ ap rests_if (s_is ∙ ap (λ qs. join_all (map (split_of schema) qs)) should_is) in
    let d : must_not_rests ≡ rests_if (join_all (map (split_of schema) must_not)) = must_not_told ∙ ap rests_if (n_is ∙ ap (λ qs. join_all (map (split_of schema) qs)) must_not_is) in
    let told = sym (fold_bool (Option Split) (split_step schema.fields) must should must_not least) ∙ ap (split_of schema) (sym query_is) in
    split_is
    ∙ (ap (λ j. split_bool least j should_rests must_not_rests) a
    ∙ (ap (λ qs. split_bool least (join_all (map (split_of schema) must)) qs must_not_rests) b
    ∙ (ap (split_bool least (join_all (map (split_of schema) must)) (rests_if (join_all (map (split_of schema) should)))) d ∙ told)))
