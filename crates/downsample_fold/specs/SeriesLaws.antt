-- The fold series by series.
use Rattle.std.specs.Prelude.{◌≡◌, ◌⊎◌, ℕ, zero, suc, ◌+◌, ◌<◌, ◌||◌, not, Bool, true, false, cond, List, [], ◌∷◌, ◌++◌, map, filter, flat_map, take, slice_get, Some, None, if◌then◌else◌}
use Rattle.std.specs.Str.{bytes_eq}
use Rattle.std.proofs.Common.{inl, inr, refl, ap, ◌∙◌, sym, subst, append-nil, add-one}
use Rattle.std.proofs.lemmas.Bool.{both_ways, not-false, false_from_ne_true, cond-true, cond-false}
use Rattle.std.proofs.lemmas.List.Elements.{filter-append}
use Rattle.std.proofs.lemmas.List.Concat.{flat_map-append}
use Rattle.std.proofs.lemmas.Slice.Eq.{bytes_eq-Decides}
use Rattle.row_cells.specs.declared.schemas.Schema.{Schema}
use Rattle.row_cells.specs.declared.rows.Row.{Row}
use Rattle.row_cells.specs.Dimensions.{IsBefore}
use Rattle.row_cells.specs.Merging.{merge_of_rows}
use Rattle.row_cells.specs.RowLists.{in_row_order}
use Rattle.downsample_fold.specs.Places.{Place, own_place, place_of, same_place, places, rows_at, rows_of, keys_of, has_key}
use Rattle.downsample_fold.specs.Conditions.{HaveCells}
use Rattle.downsample_fold.specs.Direct.{down, fold_at, fold_in_order}
use Rattle.row_cells.specs.Each.{Each}
use Rattle.row_cells.specs.EachLaws.{Each-both, Each-weaker, Each-filter, Each-all, filter_all, filter_none}
use Rattle.downsample_fold.specs.Laws.{KeysAscend, SeriesAscend, FoldsSomePlaces, FoldsSomeSeries, FoldsTested, FoldsJoinSeries, FoldsJoinFirst, FoldsJoinNext, series_of}
use Rattle.row_cells.specs.OrderLaws.{upto_cases, IsUpTo, Ascend, in_order-ascends, in_row_order-ascends, in_row_order-filter}
use Rattle.downsample_fold.specs.Joined.{placed, put, joined, are_at_one}
use Rattle.downsample_fold.specs.JoinedLaws.{at_one_parts}
use Rattle.downsample_fold.specs.DirectLaws.{same_place-is, between, rows_eq}
use Rattle.downsample_fold.specs.FoldLaws.{down-joined, folds_in_order}

-- ---- filters

module _ {X : Type 0} (p q : X → Bool) where
  -- what one filter takes away another would take away too
  pub filter_absorbs : ((x : X) → q x ≡ false → p x ≡ false) → (xs : List X) → filter p (filter q xs) ≡ filter p xs
  filter_absorbs within [] = refl
  filter_absorbs within (x ∷ xs) = by_test (q x) refl (filter_absorbs within xs)
    where
      by_test : (b : Bool) → q x ≡ b → filter p (filter q xs) ≡ filter p xs → filter p (cond b (x ∷ filter q xs) (filter q xs)) ≡ cond (p x) (x ∷ filter p xs) (filter p xs)
      by_test true is later = ap (λ ys. cond (p x) (x ∷ ys) ys) later
      by_test false is later = later ∙ sym (cond-false (p x) (x ∷ filter p xs) (filter p xs) (within x is))

  pub filter_swap : (xs : List X) → filter p (filter q xs) ≡ filter q (filter p xs)
  filter_swap [] = refl
  filter_swap (x ∷ xs) = by_tests (p x) (q x) refl refl (filter_swap xs)
    where
      by_tests : (a b : Bool) → p x ≡ a → q x ≡ b → filter p (filter q xs) ≡ filter q (filter p xs) → filter p (cond b (x ∷ filter q xs) (filter q xs)) ≡ filter q (cond a (x ∷ filter p xs) (filter p xs))
      by_tests true true p_is q_is later = rw (p_is, q_is) (ap (λ ys. x ∷ ys) later)
      by_tests true false p_is q_is later = rw q_is later
      by_tests false true p_is q_is later = rw p_is later
      by_tests false false p_is q_is later = later

-- ---- the fold of the rows of some places, and of some series

module _ (chosen : Place → Bool) (n : ℕ) where
  abbrev row_chosen : Row → Bool
  row_chosen row = chosen (place_of n row)

  abbrev fold_chosen : Row → Bool
  fold_chosen row = chosen (own_place row)

  same_choice : (p q : Place) → same_place p q ≡ true → chosen p ≡ chosen q
  same_choice p q is = ap chosen (same_place-is p q is)

  other_choice : (p q : Place) → chosen p ≡ true → chosen q ≡ false → same_place q p ≡ false
  other_choice p q taken passed = false_from_ne_true (same_place q p) (λ is. both_ways (chosen q) passed (same_choice q p is ∙ taken))

  places-filter : (rows : List Row) → places n (filter row_chosen rows) ≡ filter chosen (places n rows)
  places-filter [] = refl
  places-filter (row ∷ rows) = by_test (chosen (place_of n row)) refl (places-filter rows)
    where
      by_test : (b : Bool) → chosen (place_of n row) ≡ b → places n (filter row_chosen rows) ≡ filter chosen (places n rows)
          → places n (cond b (row ∷ filter row_chosen rows) (filter row_chosen rows)) ≡ cond b (place_of n row ∷ filter chosen (filter (λ p. not (same_place (place_of n row) p)) (places n rows))) (filter chosen (filter (λ p. not (same_place (place_of n row) p)) (places n rows)))
      by_test true is later =
          ap (λ ps. place_of n row ∷ filter (λ p. not (same_place (place_of n row) p)) ps) later
          ∙ ap (λ ps. place_of n row ∷ ps) (filter_swap (λ p. not (same_place (place_of n row) p)) chosen (places n rows))
      by_test false is later =
          later ∙ sym (filter_absorbs chosen (λ p. not (same_place (place_of n row) p)) (λ p gone. sym (same_choice (place_of n row) p (not-false (same_place (place_of n row) p) gone)) ∙ is) (places n rows))

  rows_at-filter : (p : Place) (rows : List Row) → chosen p ≡ true → rows_at n p (filter row_chosen rows) ≡ rows_at n p rows
  rows_at-filter p rows taken = filter_absorbs (λ row. same_place (place_of n row) p) row_chosen (λ row passed. other_choice p (place_of n row) taken passed) rows

  map_chosen : (schema : Schema) (rows : List Row) (ps : List Place) →
      map (λ p. fold_at schema p (rows_at n p (filter row_chosen rows))) (filter chosen ps) ≡ filter fold_chosen (map (λ p. fold_at schema p (rows_at n p rows)) ps)
  map_chosen schema rows [] = refl
  map_chosen schema rows (p ∷ ps) = by_test (chosen p) refl (map_chosen schema rows ps)
    where
      by_test : (b : Bool) → chosen p ≡ b
          → map (λ q. fold_at schema q (rows_at n q (filter row_chosen rows))) (filter chosen ps) ≡ filter fold_chosen (map (λ q. fold_at schema q (rows_at n q rows)) ps)
          → map (λ q. fold_at schema q (rows_at n q (filter row_chosen rows))) (cond b (p ∷ filter chosen ps) (filter chosen ps)) ≡ cond b (fold_at schema p (rows_at n p rows) ∷ filter fold_chosen (map (λ q. fold_at schema q (rows_at n q rows)) ps)) (filter fold_chosen (map (λ q. fold_at schema q (rows_at n q rows)) ps))
      by_test true is later = rows_eq (ap (fold_at schema p) (rows_at-filter p rows is)) later
      by_test false is later = later

pub folds_some_places : FoldsSomePlaces
unfolding down
folds_some_places schema rows n chosen =
    let sorted = in_row_order rows in
    ap (λ rs. fold_in_order schema rs n) (in_row_order-filter (λ row. chosen (place_of n row)) rows)
    ∙ (ap (map (λ p. fold_at schema p (rows_at n p (filter (λ row. chosen (place_of n row)) sorted)))) (places-filter chosen n sorted)
    ∙ map_chosen chosen n schema sorted (places n sorted))

pub filter_agree : (p q : Row → Bool) (rows : List Row) → Each (λ row. p row ≡ q row) rows → filter p rows ≡ filter q rows
filter_agree p q [] each = refl
filter_agree p q (row ∷ rows) each = both each.0 (filter_agree p q rows each.1)
  where
    both : {a b : Bool} {xs ys : List Row} → a ≡ b → xs ≡ ys → cond a (row ∷ xs) xs ≡ cond b (row ∷ ys) ys
    both same later = cc

pub folds_tested : FoldsTested
folds_tested schema rows n test chosen over_rows over_folds =
    ap (λ rs. down schema rs n) (filter_agree test (λ row. chosen (place_of n row)) rows over_rows)
    ∙ (folds_some_places schema rows n chosen
    ∙ sym (filter_agree test (λ row. chosen (own_place row)) (down schema rows n) over_folds))

pub folds_some_series : FoldsSomeSeries
folds_some_series schema rows n chosen = folds_some_places schema rows n (λ p. chosen p.key)

-- ---- keys

same_key : (k l : List ℕ) → bytes_eq k l ≡ true → k ≡ l
same_key k l is = (bytes_eq-Decides k l).0 is

bytes_eq-refl : (k : List ℕ) → bytes_eq k k ≡ true
bytes_eq-refl k = (bytes_eq-Decides k k).1 refl

other_key-sym : (k l : List ℕ) → bytes_eq k l ≡ false → bytes_eq l k ≡ false
other_key-sym k l other = false_from_ne_true (bytes_eq l k) (λ is. both_ways (bytes_eq k l) other (ap (λ m. bytes_eq k m) (same_key l k is) ∙ bytes_eq-refl k))

filtered_keys : (k : List ℕ) (ks : List (List ℕ)) → Each (λ l. bytes_eq k l ≡ false) (filter (λ l. not (bytes_eq k l)) ks)
filtered_keys k [] = tt
filtered_keys k (l ∷ ls) = by_test (bytes_eq k l) refl (filtered_keys k ls)
  where
    by_test : (b : Bool) → bytes_eq k l ≡ b → Each (λ m. bytes_eq k m ≡ false) (filter (λ m. not (bytes_eq k m)) ls) → Each (λ m. bytes_eq k m ≡ false) (cond (not b) (l ∷ filter (λ m. not (bytes_eq k m)) ls) (filter (λ m. not (bytes_eq k m)) ls))
    by_test true is later = later
    by_test false is later = (is, later)

other_keys : (k : List ℕ) (ks : List (List ℕ)) → Each (λ l. bytes_eq k l ≡ false) ks → filter (λ l. not (bytes_eq k l)) ks ≡ ks
other_keys k ks others = filter_all (λ l. not (bytes_eq k l)) ks (Each-weaker (λ l. bytes_eq k l ≡ false) (λ l. not (bytes_eq k l) ≡ true) (λ l other. ap not other) ks others)

keys_of-each : (P : List ℕ → Type 0) (rows : List Row) → Each (λ row. P row.key) rows → Each P (keys_of rows)
keys_of-each P [] each = tt
keys_of-each P (row ∷ rows) each = (each.0, Each-filter P (λ l. not (bytes_eq row.key l)) (keys_of rows) (keys_of-each P rows each.1))

-- a key that two rows in front have stands once
keys_of-twice : (a b : Row) (rows : List Row) → a.key ≡ b.key → keys_of (a ∷ b ∷ rows) ≡ keys_of (b ∷ rows)
keys_of-twice a b rows same =
    let others = filter (λ l. not (bytes_eq b.key l)) (keys_of rows) in
    ap (λ k. k ∷ filter (λ l. not (bytes_eq k l)) (b.key ∷ others)) same
    ∙ (ap (λ t. b.key ∷ cond (not t) (b.key ∷ filter (λ l. not (bytes_eq b.key l)) others) (filter (λ l. not (bytes_eq b.key l)) others)) (bytes_eq-refl b.key)
    ∙ ap (λ ks. b.key ∷ ks) (other_keys b.key others (filtered_keys b.key (keys_of rows))))

keys_of-put : (schema : Schema) (row : Row) (rows : List Row) → keys_of (put schema row rows) ≡ keys_of (row ∷ rows)
keys_of-put schema row [] = refl
keys_of-put schema row (next ∷ rest) = by_test (are_at_one row next) refl
  where
    by_test : (at : Bool) → are_at_one row next ≡ at → keys_of (if at then merge_of_rows schema next row ∷ rest else row ∷ next ∷ rest) ≡ keys_of (row ∷ next ∷ rest)
    by_test true is = sym (keys_of-twice row next rest (at_one_parts row next is).0)
    by_test false is = refl

-- a fold has the series of its rows
keys_of-joined : (schema : Schema) (n : ℕ) (rows : List Row) → keys_of (joined schema n rows) ≡ keys_of rows
keys_of-joined schema n [] = refl
keys_of-joined schema n (row ∷ rows) =
    keys_of-put schema (placed schema n row) (joined schema n rows) ∙ ap (λ ks. row.key ∷ filter (λ l. not (bytes_eq row.key l)) ks) (keys_of-joined schema n rows)

-- ---- rows in order are the join of their series

flat_map-agree : (f g : List ℕ → List Row) (ks : List (List ℕ)) → Each (λ k. f k ≡ g k) ks → flat_map f ks ≡ flat_map g ks
flat_map-agree f g [] each = refl
flat_map-agree f g (k ∷ ks) each = joined_eq each.0 (flat_map-agree f g ks each.1)
  where
    joined_eq : {xs ys us vs : List Row} → xs ≡ ys → us ≡ vs → xs ++ us ≡ ys ++ vs
    joined_eq a b = cc

-- a row has no part in other series
rows_of-other : (row : Row) (rows : List Row) (k : List ℕ) → bytes_eq row.key k ≡ false → rows_of k (row ∷ rows) ≡ rows_of k rows
rows_of-other row rows k other = cond-false (bytes_eq row.key k) (row ∷ rows_of k rows) (rows_of k rows) other

rows_of-own : (row : Row) (rows : List Row) → rows_of row.key (row ∷ rows) ≡ row ∷ rows_of row.key rows
rows_of-own row rows = cond-true (bytes_eq row.key row.key) (row ∷ rows_of row.key rows) (rows_of row.key rows) (bytes_eq-refl row.key)

other_series : (row : Row) (rows : List Row) (ks : List (List ℕ)) → Each (λ k. bytes_eq row.key k ≡ false) ks → flat_map (λ k. rows_of k (row ∷ rows)) ks ≡ flat_map (λ k. rows_of k rows) ks
other_series row rows ks others =
    flat_map-agree (λ k. rows_of k (row ∷ rows)) (λ k. rows_of k rows) ks (Each-weaker (λ k. bytes_eq row.key k ≡ false) (λ k. rows_of k (row ∷ rows) ≡ rows_of k rows) (λ k other. rows_of-other row rows k other) ks others)

-- behind a row of another series there is none of the first one's
series_apart : (a b c : Row) → IsUpTo a b → IsUpTo b c → bytes_eq a.key b.key ≡ false → bytes_eq a.key c.key ≡ false
series_apart a b c first second apart =
    false_from_ne_true (bytes_eq a.key c.key) (λ is. both_ways (bytes_eq a.key b.key) apart ((bytes_eq-Decides a.key b.key).1 (between a b c first second (same_key a.key c.key is)).0))

pub split_series : (rows : List Row) → Ascend rows → flat_map (λ k. rows_of k rows) (keys_of rows) ≡ rows
split_series [] ascend = refl
split_series (row ∷ []) ascend = append-nil (rows_of row.key (row ∷ [])) ∙ rows_of-own row []
split_series (row ∷ next ∷ rest) ascend = by_test (bytes_eq row.key next.key) refl (split_series (next ∷ rest) ascend.1)
  where
    by_test : (b : Bool) → bytes_eq row.key next.key ≡ b → flat_map (λ k. rows_of k (next ∷ rest)) (keys_of (next ∷ rest)) ≡ next ∷ rest → flat_map (λ k. rows_of k (row ∷ next ∷ rest)) (keys_of (row ∷ next ∷ rest)) ≡ row ∷ next ∷ rest
    by_test true is later =
        let same = same_key row.key next.key is in
        let others = filter (λ l. not (bytes_eq next.key l)) (keys_of rest) in
        let apart : Each (λ k. bytes_eq row.key k ≡ false) others = subst (λ k. Each (λ l. bytes_eq k l ≡ false) others) (sym same) (filtered_keys next.key (keys_of rest)) in
        let here : rows_of next.key (row ∷ next ∷ rest) ≡ row ∷ rows_of next.key (next ∷ rest) = ap (λ k. rows_of k (row ∷ next ∷ rest)) (sym same) ∙ (rows_of-own row (next ∷ rest) ∙ ap (λ k. row ∷ rows_of k (next ∷ rest)) same) in
        ap (flat_map (λ k. rows_of k (row ∷ next ∷ rest))) (keys_of-twice row next rest same)
        ∙ (ap (λ rs. rs ++ flat_map (λ k. rows_of k (row ∷ next ∷ rest)) others) here
        ∙ (ap (λ rs. row ∷ (rows_of next.key (next ∷ rest) ++ rs)) (other_series row (next ∷ rest) others apart)
        ∙ ap (λ rs. row ∷ rs) later))
    by_test false is later =
        let apart : Each (λ r. bytes_eq row.key r.key ≡ false) (next ∷ rest) = (is, Each-weaker (IsUpTo next) (λ r. bytes_eq row.key r.key ≡ false) (λ r up. series_apart row next r ascend.0.0 up is) rest ascend.1.0) in
        let others = keys_of-each (λ k. bytes_eq row.key k ≡ false) (next ∷ rest) apart in
        let alone : rows_of row.key (next ∷ rest) ≡ [] = filter_none (λ r. bytes_eq r.key row.key) (next ∷ rest) (Each-weaker (λ r. bytes_eq row.key r.key ≡ false) (λ r. bytes_eq r.key row.key ≡ false) (λ r other. other_key-sym row.key r.key other) (next ∷ rest) apart) in
        ap (λ ks. rows_of row.key (row ∷ next ∷ rest) ++ flat_map (λ k. rows_of k (row ∷ next ∷ rest)) ks) (other_keys row.key (keys_of (next ∷ rest)) others)
        ∙ (ap (λ rs. rs ++ flat_map (λ k. rows_of k (row ∷ next ∷ rest)) (keys_of (next ∷ rest))) (rows_of-own row (next ∷ rest) ∙ ap (λ rs. row ∷ rs) alone)
        ∙ ap (λ rs. row ∷ rs) (other_series row (next ∷ rest) (keys_of (next ∷ rest)) others ∙ later))

-- the fold has the series of the rows
pub keys_of-down : (schema : Schema) (rows : List Row) (n : ℕ) → HaveCells schema rows → 0 < n → keys_of (down schema rows n) ≡ series_of rows
keys_of-down schema rows n cells some = ap keys_of (down-joined schema rows n cells some) ∙ keys_of-joined schema n (in_row_order rows)

-- the fold of a series is the fold's rows of it
pub down-rows_of : (schema : Schema) (rows : List Row) (n : ℕ) (key : List ℕ) → down schema (rows_of key rows) n ≡ rows_of key (down schema rows n)
down-rows_of schema rows n key = folds_some_series schema rows n (λ k. bytes_eq k key)

pub folds_join_series : FoldsJoinSeries
folds_join_series schema rows n cells some =
    let once = down schema rows n in
    sym (flat_map-agree (λ k. down schema (rows_of k rows) n) (λ k. rows_of k once) (series_of rows) (Each-all (λ k. down schema (rows_of k rows) n ≡ rows_of k once) (λ k. down-rows_of schema rows n k) (series_of rows))
    ∙ (ap (flat_map (λ k. rows_of k once)) (sym (keys_of-down schema rows n cells some))
    ∙ split_series once (in_order-ascends once (folds_in_order schema rows n cells some))))

-- ---- the first series

abbrev Distinct : List (List ℕ) → Type 0
Distinct [] = Unit {0}
Distinct (k ∷ ks) = Each (λ l. bytes_eq k l ≡ false) ks × Distinct ks

distinct_filter : (test : List ℕ → Bool) (ks : List (List ℕ)) → Distinct ks → Distinct (filter test ks)
distinct_filter test [] distinct = tt
distinct_filter test (k ∷ ks) distinct = by_test (test k) (distinct_filter test ks distinct.1)
  where
    by_test : (b : Bool) → Distinct (filter test ks) → Distinct (cond b (k ∷ filter test ks) (filter test ks))
    by_test true later = (Each-filter (λ l. bytes_eq k l ≡ false) test ks distinct.0, later)
    by_test false later = later

keys_of-distinct : (rows : List Row) → Distinct (keys_of rows)
keys_of-distinct [] = tt
keys_of-distinct (row ∷ rows) = (filtered_keys row.key (keys_of rows), distinct_filter (λ l. not (bytes_eq row.key l)) (keys_of rows) (keys_of-distinct rows))

filter-flat_map : (test : Row → Bool) (f : List ℕ → List Row) (ks : List (List ℕ)) → filter test (flat_map f ks) ≡ flat_map (λ k. filter test (f k)) ks
filter-flat_map test f [] = refl
filter-flat_map test f (k ∷ ks) = filter-append test (f k) (flat_map f ks) ∙ ap (λ rs. filter test (f k) ++ rs) (filter-flat_map test f ks)

-- of a series a test of keys takes all or nothing
rows_of-chosen : (chosen : List ℕ → Bool) (key : List ℕ) (rows : List Row) → filter (λ row. chosen row.key) (rows_of key rows) ≡ cond (chosen key) (rows_of key rows) []
rows_of-chosen chosen key rows = by_test (chosen key) refl
  where
    all_of : (b : Bool) → chosen key ≡ b → (rs : List Row) → Each (λ row. chosen row.key ≡ b) (rows_of key rs)
    all_of b is [] = tt
    all_of b is (row ∷ rs) = by_key (bytes_eq row.key key) refl (all_of b is rs)
      where
        by_key : (t : Bool) → bytes_eq row.key key ≡ t → Each (λ r. chosen r.key ≡ b) (rows_of key rs) → Each (λ r. chosen r.key ≡ b) (cond t (row ∷ rows_of key rs) (rows_of key rs))
        by_key true same later = (ap chosen (same_key row.key key same) ∙ is, later)
        by_key false same later = later

    by_test : (b : Bool) → chosen key ≡ b → filter (λ row. chosen row.key) (rows_of key rows) ≡ cond b (rows_of key rows) []
    by_test true is = filter_all (λ row. chosen row.key) (rows_of key rows) (all_of true is rows)
    by_test false is = filter_none (λ row. chosen row.key) (rows_of key rows) (all_of false is rows)

-- no key has a part where none is chosen
none_chosen : (f : List ℕ → List Row) (ks : List (List ℕ)) → flat_map (λ key. cond (has_key [] key) (f key) []) ks ≡ []
none_chosen f [] = refl
none_chosen f (k ∷ ks) = none_chosen f ks

first_chosen : (f : List ℕ → List Row) (k : ℕ) (ks : List (List ℕ)) → Distinct ks → flat_map (λ key. cond (has_key (take k ks) key) (f key) []) ks ≡ flat_map f (take k ks)
first_chosen f zero ks distinct = none_chosen f ks
first_chosen f (suc k) [] distinct = refl
first_chosen f (suc k) (key ∷ ks) distinct =
    let others = Each-weaker (λ l. bytes_eq key l ≡ false) (λ l. cond (has_key (key ∷ take k ks) l) (f l) [] ≡ cond (has_key (take k ks) l) (f l) []) (λ l other. ap (λ t. cond (t || has_key (take k ks) l) (f l) []) other) ks distinct.0 in
    ap (λ t. cond (t || has_key (take k ks) key) (f key) [] ++ flat_map (λ l. cond (has_key (key ∷ take k ks) l) (f l) []) ks) (bytes_eq-refl key)
    ∙ ap (λ rs. f key ++ rs) (flat_map-agree (λ l. cond (has_key (key ∷ take k ks) l) (f l) []) (λ l. cond (has_key (take k ks) l) (f l) []) ks others ∙ first_chosen f k ks distinct.1)

pub folds_join_first : FoldsJoinFirst
folds_join_first schema rows n k cells some =
    let series = series_of rows in
    let once = down schema rows n in
    let split : once ≡ flat_map (λ key. rows_of key once) series = sym (ap (flat_map (λ key. rows_of key once)) (sym (keys_of-down schema rows n cells some)) ∙ split_series once (in_order-ascends once (folds_in_order schema rows n cells some))) in
    folds_some_series schema rows n (has_key (take k series))
    ∙ (ap (filter (λ row. has_key (take k series) row.key)) split
    ∙ (filter-flat_map (λ row. has_key (take k series) row.key) (λ key. rows_of key once) series
    ∙ (flat_map-agree (λ key. filter (λ row. has_key (take k series) row.key) (rows_of key once)) (λ key. cond (has_key (take k series) key) (down schema (rows_of key rows) n) []) series
    (Each-all (λ key. filter (λ row. has_key (take k series) row.key) (rows_of key once) ≡ cond (has_key (take k series) key) (down schema (rows_of key rows) n) [])
    (λ key. rows_of-chosen (has_key (take k series)) key once ∙ ap (λ rs. cond (has_key (take k series) key) rs []) (sym (down-rows_of schema rows n key))) series)
    ∙ first_chosen (λ key. down schema (rows_of key rows) n) k series (keys_of-distinct (in_row_order rows)))))

take_next : (ks : List (List ℕ)) (k : ℕ) (key : List ℕ) → slice_get ks k ≡ Some key → take (suc k) ks ≡ take k ks ++ key ∷ []
take_next [] k key at = absurd (none_not_some at)
  where
    none_not_some : None ≡ Some key → ⊥
    none_not_some e = cc
take_next (l ∷ ks) zero key at = ap (λ m. m ∷ []) (some_is at)
  where
    some_is : Some l ≡ Some key → l ≡ key
    some_is e = cc
take_next (l ∷ ks) (suc k) key at = ap (λ ms. l ∷ ms) (take_next ks k key at)

pub folds_join_next : FoldsJoinNext
folds_join_next schema rows n k key cells some at =
    let series = series_of rows in
    let f : List ℕ → List Row = λ l. down schema (rows_of l rows) n in
    folds_join_first schema rows n (k + 1) cells some
    ∙ (ap (λ m. flat_map f (take m series)) (add-one k)
    ∙ (ap (flat_map f) (take_next series k key at)
    ∙ (flat_map-append f (take k series) (key ∷ [])
    ∙ (ap (λ rs. flat_map f (take k series) ++ rs) (append-nil (f key))
    ∙ ap (λ rs. rs ++ f key) (sym (folds_join_first schema rows n k cells some))))))

-- ---- the series ascend

ascend_filter : (test : List ℕ → Bool) (ks : List (List ℕ)) → KeysAscend ks → KeysAscend (filter test ks)
ascend_filter test [] ascend = tt
ascend_filter test (k ∷ ks) ascend = by_test (test k) (ascend_filter test ks ascend.1)
  where
    by_test : (b : Bool) → KeysAscend (filter test ks) → KeysAscend (cond b (k ∷ filter test ks) (filter test ks))
    by_test true later = (Each-filter (IsBefore k) test ks ascend.0, later)
    by_test false later = later

-- a key of rows behind a row stands behind that row's key, or is it
abbrev IsKeyUpTo : List ℕ → List ℕ → Type 0
IsKeyUpTo k l = IsBefore k l ⊎ (k ≡ l)

key_upto : (a b : Row) → IsUpTo a b → IsKeyUpTo a.key b.key
key_upto a b up = elim (upto_cases a b up) [ inl before ↦ inl before | inr tied ↦ inr tied.0 ]

before_other : (k l : List ℕ) → IsKeyUpTo k l → bytes_eq k l ≡ false → IsBefore k l
before_other k l up other =
    elim up [ inl before ↦ before | inr same ↦ absurd (both_ways (bytes_eq k l) other ((bytes_eq-Decides k l).1 same)) ]

keys_of-ascend : (rows : List Row) → Ascend rows → KeysAscend (keys_of rows)
keys_of-ascend [] ascend = tt
keys_of-ascend (row ∷ rows) ascend =
    let others = λ (l : List ℕ). not (bytes_eq row.key l) in
    let up = keys_of-each (IsKeyUpTo row.key) rows (Each-weaker (IsUpTo row) (λ r. IsKeyUpTo row.key r.key) (λ r next. key_upto row r next) rows ascend.0) in (
      Each-both (IsKeyUpTo row.key) (λ l. bytes_eq row.key l ≡ false) (IsBefore row.key) (λ l later other. before_other row.key l later other) (filter others (keys_of rows))
          (Each-filter (IsKeyUpTo row.key) others (keys_of rows) up) (filtered_keys row.key (keys_of rows)),
      ascend_filter others (keys_of rows) (keys_of-ascend rows ascend.1),
    )

pub series_ascend : SeriesAscend
series_ascend rows = keys_of-ascend (in_row_order rows) (in_row_order-ascends rows)
