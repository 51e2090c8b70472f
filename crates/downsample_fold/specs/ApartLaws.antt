-- Folds of rows that lie apart: of other series, or of other buckets.
use Rattle.std.specs.Prelude.{length, ◌≡◌, ◌||◌, ℕ, ◌++◌, not, Bool, true, false, cond, List, [], ◌∷◌, map, filter, if◌then◌else◌}
use Rattle.std.specs.List.{list_any}
use Rattle.std.specs.Ordering.{is_le}
use Rattle.row_cells.specs.Order.{row_cmp}
use Rattle.std.proofs.Common.{refl, ap, ◌∙◌, sym, subst, inl, append-nil}
use Rattle.std.proofs.lemmas.Bool.{false_from_ne_true}
use Rattle.std.proofs.lemmas.List.Elements.{filter-append}
use Rattle.row_cells.specs.declared.schemas.Schema.{Schema}
use Rattle.row_cells.specs.declared.rows.Row.{Row}
use Rattle.row_cells.specs.Dimensions.{IsBefore}
use Rattle.row_cells.specs.Each.{Each}
use Rattle.row_cells.specs.EachLaws.{Each-all, Each-both, Each-weaker, filter_all, filter_none}
use Rattle.row_cells.specs.Merging.{merge_of_rows}
use Rattle.row_cells.specs.MergeLaws.{merge_of_rows-fold_of_row_left, merge_of_rows-fold_of_row_right}
use Rattle.row_cells.specs.OrderLaws.{IsUpTo, insert_first, upto_from, in_row_order-each}
use Rattle.row_cells.specs.PlaceLaws.{each_append, split_stays}
use Rattle.row_cells.specs.RowLists.{insert_row, in_row_order}
use Rattle.row_cells.specs.WidenLaws.{apart}
use Rattle.time_text.specs.Bucket.{bucket_start}
use Rattle.downsample_fold.specs.Places.{Place, own_place, place_of, same_place, places, rows_at}
use Rattle.downsample_fold.specs.Direct.{down, fold_at}
use Rattle.downsample_fold.specs.DirectLaws.{same_place-refl, rows_eq, others_stay, other_places, other_place-sym, places-each}
use Rattle.downsample_fold.specs.FoldLaws.{down-joined, folds_in_order}
use Rattle.downsample_fold.specs.Joined.{placed, put, joined, are_at_one}
use Rattle.downsample_fold.specs.JoinedLaws.{put_passes, joined-places, at_one_parts}
use Rattle.downsample_fold.specs.Laws.{BucketInFront, FoldsJoinApart, FoldsJoinPlaces, MergesAreFolds, PlacesApart, SeriesApart}
use Rattle.downsample_fold.specs.RowLaws.{fold_at-one, fold_at-more}
use Rattle.downsample_fold.specs.SeriesLaws.{folds_some_places}

-- ---- series apart

insert_apart : (row : Row) (xs ys : List Row) → Each (IsUpTo row) ys → insert_row row (xs ++ ys) ≡ insert_row row xs ++ ys
insert_apart row [] ys up = insert_first row ys up
insert_apart row (first ∷ rest) ys up = by_test (is_le (row_cmp row first)) (insert_apart row rest ys up)
  where
    by_test : (b : Bool) → insert_row row (rest ++ ys) ≡ insert_row row rest ++ ys → (if b then row ∷ first ∷ (rest ++ ys) else first ∷ insert_row row (rest ++ ys)) ≡ (if b then row ∷ first ∷ rest else first ∷ insert_row row rest) ++ ys
    by_test true later = refl
    by_test false later = ap (λ rows. first ∷ rows) later

before_upto : (a b : Row) → IsBefore a.key b.key → IsUpTo a b
before_upto a b before = upto_from a b (inl before)

-- rows whose series stand before those of others are put in order in front of them
pub sorted_apart : (xs ys : List Row) → SeriesApart xs ys → in_row_order (xs ++ ys) ≡ in_row_order xs ++ in_row_order ys
sorted_apart [] ys before = refl
sorted_apart (x ∷ xs) ys before =
    ap (insert_row x) (sorted_apart xs ys before.1)
    ∙ insert_apart x (in_row_order xs) (in_row_order ys) (in_row_order-each (IsUpTo x) ys (Each-weaker (λ other. IsBefore x.key other.key) (IsUpTo x) (λ other is. before_upto x other is) ys before.0))

keys_apart : (a b : Row) → IsBefore a.key b.key → are_at_one a b ≡ false
keys_apart a b before = false_from_ne_true (are_at_one a b) (λ is. apart a.key b.key before (at_one_parts a b is).0)

put_apart : (schema : Schema) (row : Row) (xs ys : List Row) → Each (λ other. IsBefore row.key other.key) ys → put schema row (xs ++ ys) ≡ put schema row xs ++ ys
put_apart schema row [] [] before = refl
put_apart schema row [] (y ∷ ys) before = put_passes schema row y ys (keys_apart row y before.0)
put_apart schema row (next ∷ rest) ys before = by_test (are_at_one row next)
  where
    by_test : (b : Bool) → (if b then merge_of_rows schema next row ∷ (rest ++ ys) else row ∷ next ∷ (rest ++ ys)) ≡ (if b then merge_of_rows schema next row ∷ rest else row ∷ next ∷ rest) ++ ys
    by_test true = refl
    by_test false = refl

joined_apart : (schema : Schema) (n : ℕ) (xs ys : List Row) → SeriesApart xs ys → joined schema n (xs ++ ys) ≡ joined schema n xs ++ joined schema n ys
joined_apart schema n [] ys before = refl
joined_apart schema n (x ∷ xs) ys before =
    ap (put schema (placed schema n x)) (joined_apart schema n xs ys before.1)
    ∙ put_apart schema (placed schema n x) (joined schema n xs) (joined schema n ys) (joined-places (λ key time. IsBefore x.key key) schema n ys before.0)

apart_sorted : (xs ys : List Row) → SeriesApart xs ys → SeriesApart (in_row_order xs) (in_row_order ys)
apart_sorted xs ys before =
    in_row_order-each (λ row. Each (λ other. IsBefore row.key other.key) (in_row_order ys)) xs
    (Each-weaker (λ row. Each (λ other. IsBefore row.key other.key) ys) (λ row. Each (λ other. IsBefore row.key other.key) (in_row_order ys)) (λ row all. in_row_order-each (λ other. IsBefore row.key other.key) ys all) xs before)

pub folds_join_apart : FoldsJoinApart
folds_join_apart schema rows others n cells_r cells_o before some =
    down-joined schema (rows ++ others) n (each_append (λ row. length row.cells ≡ length schema.fields) rows others cells_r cells_o) some
    ∙ (ap (joined schema n) (sorted_apart rows others before)
    ∙ (joined_apart schema n (in_row_order rows) (in_row_order others) (apart_sorted rows others before)
    ∙ sym (both (down-joined schema rows n cells_r some) (down-joined schema others n cells_o some))))
  where
    both : {us vs ws zs : List Row} → us ≡ vs → ws ≡ zs → us ++ ws ≡ vs ++ zs
    both p q = cc

-- ---- places apart

module _ (n : ℕ) where
  -- whether a place is that of one of these rows
  abbrev has_row_at : List Row → Place → Bool
  has_row_at rows place = list_any (λ row. same_place (place_of n row) place) rows

  own_rows : (rows : List Row) → Each (λ row. has_row_at rows (place_of n row) ≡ true) rows
  own_rows [] = tt
  own_rows (first ∷ rest) = (
    ap (λ b. b || has_row_at rest (place_of n first)) (same_place-refl (place_of n first)),
    Each-weaker (λ row. has_row_at rest (place_of n row) ≡ true) (λ row. has_row_at (first ∷ rest) (place_of n row) ≡ true)
        (λ row is. ap (λ b. same_place (place_of n first) (place_of n row) || b) is ∙ or_true (same_place (place_of n first) (place_of n row))) rest (own_rows rest),
  )
    where
      or_true : (b : Bool) → (b || true) ≡ true
      or_true true = refl
      or_true false = refl

  rows_elsewhere : (rows others : List Row) → PlacesApart n rows others → Each (λ other. has_row_at rows (place_of n other) ≡ false) others
  rows_elsewhere [] others apart_from = Each-all (λ other. has_row_at [] (place_of n other) ≡ false) (λ other. refl) others
  rows_elsewhere (first ∷ rest) others apart_from =
      Each-both (λ other. same_place (place_of n first) (place_of n other) ≡ false) (λ other. has_row_at rest (place_of n other) ≡ false) (λ other. has_row_at (first ∷ rest) (place_of n other) ≡ false)
      (λ other here later. ap (λ b. b || has_row_at rest (place_of n other)) here ∙ later) others apart_from.0 (rows_elsewhere rest others apart_from.1)

  rows_joined : {us vs ws zs : List Row} → us ≡ vs → ws ≡ zs → us ++ ws ≡ vs ++ zs
  rows_joined p q = cc

  -- of both lists, the rows at places of the first are the first
  first_rows : (rows others : List Row) → PlacesApart n rows others → filter (λ row. has_row_at rows (place_of n row)) (rows ++ others) ≡ rows
  first_rows rows others apart_from =
      let test : Row → Bool = λ row. has_row_at rows (place_of n row) in
      filter-append test rows others
      ∙ (rows_joined (filter_all test rows (own_rows rows)) (filter_none test others (rows_elsewhere rows others apart_from))
      ∙ append-nil rows)

  -- and those at other places the second
  second_rows : (rows others : List Row) → PlacesApart n rows others → filter (λ row. not (has_row_at rows (place_of n row))) (rows ++ others) ≡ others
  second_rows rows others apart_from =
      let test : Row → Bool = λ row. has_row_at rows (place_of n row) in
      let passed : Row → Bool = λ row. not (test row) in
      filter-append passed rows others
      ∙ rows_joined
      (filter_none passed rows (Each-weaker (λ row. test row ≡ true) (λ row. passed row ≡ false) (λ row is. ap not is) rows (own_rows rows)))
      (filter_all passed others (Each-weaker (λ row. test row ≡ false) (λ row. passed row ≡ true) (λ row is. ap not is) others (rows_elsewhere rows others apart_from)))

pub folds_join_places : FoldsJoinPlaces
folds_join_places schema rows others n cells_r cells_o apart_from some =
    let all = down schema (rows ++ others) n in
    let chosen : Place → Bool = has_row_at n rows in
    let first : down schema rows n ≡ filter (λ row. chosen (own_place row)) all = sym (ap (λ rs. down schema rs n) (first_rows n rows others apart_from)) ∙ folds_some_places schema (rows ++ others) n chosen in
    let second : down schema others n ≡ filter (λ row. not (chosen (own_place row))) all = sym (ap (λ rs. down schema rs n) (second_rows n rows others apart_from)) ∙ folds_some_places schema (rows ++ others) n (λ p. not (chosen p)) in
    sym (ap in_row_order (rows_joined n first second)
    ∙ split_stays (λ row. chosen (own_place row)) all
    (folds_in_order schema (rows ++ others) n (each_append (λ row. length row.cells ≡ length schema.fields) rows others cells_r cells_o) some))

-- ---- one bucket and the rest

no_twice : (p : Place) (ps : List Place) → filter (λ q. not (same_place p q)) (p ∷ filter (λ q. not (same_place p q)) ps) ≡ filter (λ q. not (same_place p q)) ps
no_twice p ps = ap (λ b. cond (not b) (p ∷ twice) twice) (same_place-refl p) ∙ absorbed ps
  where
    twice : List Place
    twice = filter (λ q. not (same_place p q)) (filter (λ q. not (same_place p q)) ps)

    absorbed : (qs : List Place) → filter (λ q. not (same_place p q)) (filter (λ q. not (same_place p q)) qs) ≡ filter (λ q. not (same_place p q)) qs
    absorbed [] = refl
    absorbed (q ∷ qs) = by_test (same_place p q) refl (absorbed qs)
      where
        by_test : (b : Bool) → same_place p q ≡ b → filter (λ r. not (same_place p r)) (filter (λ r. not (same_place p r)) qs) ≡ filter (λ r. not (same_place p r)) qs
            → filter (λ r. not (same_place p r)) (cond (not b) (q ∷ filter (λ r. not (same_place p r)) qs) (filter (λ r. not (same_place p r)) qs)) ≡ cond (not b) (q ∷ filter (λ r. not (same_place p r)) qs) (filter (λ r. not (same_place p r)) qs)
        by_test true is later = later
        by_test false is later = ap (λ b. cond (not b) (q ∷ filter (λ r. not (same_place p r)) (filter (λ r. not (same_place p r)) qs)) (filter (λ r. not (same_place p r)) (filter (λ r. not (same_place p r)) qs))) is ∙ ap (λ rs. q ∷ rs) later

module _ (schema : Schema) (n : ℕ) (place : Place) (others : List Row) (away : Each (λ row. same_place place (place_of n row) ≡ false) others) where
  other_rows : Each (λ q. same_place place q ≡ false) (places n others)
  other_rows = places-each (λ q. same_place place q ≡ false) n others away

  -- the places of the others are those left when the bucket's is taken out
  places_behind : (bucket : List Row) → Each (λ row. place_of n row ≡ place) bucket → filter (λ q. not (same_place place q)) (places n (bucket ++ others)) ≡ places n others
  places_behind [] here = other_places place (places n others) other_rows
  places_behind (row ∷ bucket) here =
      ap (λ p. filter (λ q. not (same_place place q)) (p ∷ filter (λ q. not (same_place p q)) (places n (bucket ++ others)))) here.0
      ∙ (no_twice place (places n (bucket ++ others)) ∙ places_behind bucket here.1)

  -- the rows of the bucket are those in front
  rows_in_front : (bucket : List Row) → Each (λ row. place_of n row ≡ place) bucket → rows_at n place (bucket ++ others) ≡ bucket
  rows_in_front [] here = filter_none (λ row. same_place (place_of n row) place) others (Each-weaker (λ row. same_place place (place_of n row) ≡ false) (λ row. same_place (place_of n row) place ≡ false) (λ row other. other_place-sym place (place_of n row) other) others away)
  rows_in_front (row ∷ bucket) here =
      ap (λ b. cond b (row ∷ rows_at n place (bucket ++ others)) (rows_at n place (bucket ++ others))) (ap (λ p. same_place p place) here.0 ∙ same_place-refl place)
      ∙ ap (λ rows. row ∷ rows) (rows_in_front bucket here.1)

  -- the bucket has no part in the folds of other places
  bucket_stays : (bucket : List Row) (ps : List Place) → Each (λ row. place_of n row ≡ place) bucket → Each (λ q. same_place place q ≡ false) ps →
      map (λ q. fold_at schema q (rows_at n q (bucket ++ others))) ps ≡ map (λ q. fold_at schema q (rows_at n q others)) ps
  bucket_stays [] ps here apart_from = refl
  bucket_stays (row ∷ bucket) ps here apart_from =
      others_stay schema n row (bucket ++ others) ps (subst (λ p. Each (λ q. same_place p q ≡ false) ps) (sym here.0) apart_from) ∙ bucket_stays bucket ps here.1 apart_from

pub bucket_in_front : BucketInFront
bucket_in_front schema n place first bucket others is here away =
    let all : Each (λ row. place_of n row ≡ place) (first ∷ bucket) = (is, here) in
    let left : filter (λ q. not (same_place (place_of n first) q)) (places n (bucket ++ others)) ≡ places n others = ap (λ p. filter (λ q. not (same_place p q)) (places n (bucket ++ others))) is ∙ places_behind schema n place others away bucket here in
    rows_eq
    (ap (λ p. fold_at schema p (rows_at n p ((first ∷ bucket) ++ others))) is ∙ ap (fold_at schema place) (rows_in_front schema n place others away (first ∷ bucket) all))
    (ap (map (λ q. fold_at schema q (rows_at n q ((first ∷ bucket) ++ others)))) left
    ∙ bucket_stays schema n place others away (first ∷ bucket) (places n others) all (other_rows schema n place others away))

-- ---- two rows

pub merges_are_folds : MergesAreFolds
merges_are_folds schema n earlier later cells same =
    fold_at-more schema n (place_of n earlier) later earlier [] cells.0
    ∙ (ap (λ row. merge_of_rows schema row (placed schema n later)) (fold_at-one schema n earlier cells.1.0)
    ∙ (merge_of_rows-fold_of_row_left schema (record earlier { time = bucket_start n earlier.time }) (placed schema n later)
    ∙ merge_of_rows-fold_of_row_right schema (record earlier { time = bucket_start n earlier.time }) (record later { time = bucket_start n later.time })))
