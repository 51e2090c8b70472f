-- The direct fold of rows in row order is the fold as joined neighbours.
use Rattle.std.specs.Prelude.{◌≡◌, ℕ, ℤ, ◌≤ℤ◌, ◌<◌, not, List, [], ◌∷◌, map, filter, length, Bool, true, false, cond}
use Rattle.std.specs.Str.{bytes_eq}
use Rattle.std.specs.Cmp.{tied_itself}
use Rattle.std.specs.Cmp.Lexicographic.{slice_cmp, nat_list_cmp_total}
use Rattle.std.specs.Ordering.{int_eq, nat_cmp}
use Rattle.std.specs.declared.cmp.Ordering.TheVariants.{Less, Equal}
use Rattle.std.proofs.Common.{refl, ap, ◌∙◌, sym, subst, inl, inr, arith}
use Rattle.std.proofs.lemmas.Bool.{and_parts, and_from, both_ways, false_from_ne_true}
use Rattle.std.proofs.lemmas.Bool.Decides.{Decides-int_eq}
use Rattle.std.proofs.lemmas.Int.{ints}
use Rattle.std.proofs.lemmas.Slice.Eq.{bytes_eq-Decides}
use Rattle.time_text.specs.Bucket.{bucket_start}
use Rattle.row_cells.specs.declared.schemas.Schema.{Schema}
use Rattle.row_cells.specs.declared.rows.Row.{Row}
use Rattle.row_cells.specs.Merging.{merge_of_rows}
use Rattle.row_cells.specs.Each.{Each}
use Rattle.row_cells.specs.EachLaws.{Each-weaker, Each-filter, filter_all, filter_none}
use Rattle.downsample_fold.specs.Conditions.{HaveCells}
use Rattle.downsample_fold.specs.Places.{Place, place_of, same_place, places, rows_at}
use Rattle.downsample_fold.specs.Direct.{fold_at, fold_in_order}
use Rattle.row_cells.specs.OrderLaws.{IsUpTo, Ascend, upto_cases}
use Rattle.downsample_fold.specs.Joined.{placed, put, joined}
use Rattle.downsample_fold.specs.JoinedLaws.{put_joins, put_passes}
use Rattle.downsample_fold.specs.JoinedOrderLaws.{bucket_start-mono}
use Rattle.downsample_fold.specs.RowLaws.{fold_at-one, fold_at-more}

-- ---- places

place_by : List ℕ → ℤ → Place
place_by key start = record { key = key; start = start }

place_eq : {k l : List ℕ} {s t : ℤ} → k ≡ l → s ≡ t → place_by k s ≡ place_by l t
place_eq same_key same_start = cc

pub same_place-is : (p q : Place) → same_place p q ≡ true → p ≡ q
unfolding place_by
same_place-is p q is =
    let parts = and_parts (bytes_eq p.key q.key) (int_eq p.start q.start) is in
    place_eq ((bytes_eq-Decides p.key q.key).0 parts.0) ((Decides-int_eq p.start q.start).0 parts.1)

pub same_place-from : (p q : Place) → p.key ≡ q.key → p.start ≡ q.start → same_place p q ≡ true
same_place-from p q same_key same_start =
    and_from (bytes_eq p.key q.key) (int_eq p.start q.start) ((bytes_eq-Decides p.key q.key).1 same_key) ((Decides-int_eq p.start q.start).1 same_start)

pub same_place-refl : (p : Place) → same_place p p ≡ true
same_place-refl p = same_place-from p p refl refl

pub other_place-sym : (p q : Place) → same_place p q ≡ false → same_place q p ≡ false
other_place-sym p q other = false_from_ne_true (same_place q p) (λ is. both_ways (same_place p q) other (ap (λ r. same_place p r) (same_place-is q p is) ∙ same_place-refl p))

pub places-each : (P : Place → Type 0) (n : ℕ) (rows : List Row) → Each (λ row. P (place_of n row)) rows → Each P (places n rows)
places-each P n [] each = tt
places-each P n (row ∷ rows) each =
    (each.0, Each-filter P (λ place. not (same_place (place_of n row) place)) (places n rows) (places-each P n rows each.1))

not_before_itself : (k : List ℕ) → slice_cmp nat_cmp k k ≡ Less → ⊥
not_before_itself k before = less_not_equal (sym before ∙ tied_itself nat_list_cmp_total k)
  where
    less_not_equal : Less ≡ Equal → ⊥
    less_not_equal e = cc

-- a key between two equal ones is that key
key_between : (k l : List ℕ) → slice_cmp nat_cmp k l ≡ Less → slice_cmp nat_cmp l k ≡ Less → ⊥
key_between k l before after = not_before_itself k (nat_list_cmp_total.trans k l k before after)

pub between : (a b c : Row) → IsUpTo a b → IsUpTo b c → a.key ≡ c.key → (a.key ≡ b.key) × (b.time ≤ℤ a.time) × (c.time ≤ℤ b.time)
between a b c first second same =
    elim (upto_cases a b first) [
      | inl before ↦
          elim (upto_cases b c second) [
            | inl after ↦ absurd (key_between a.key b.key before (subst (λ k. slice_cmp nat_cmp b.key k ≡ Less) (sym same) after))
            | inr tied ↦ absurd (not_before_itself a.key (subst (λ k. slice_cmp nat_cmp a.key k ≡ Less) (tied.0 ∙ sym same) before))
          ]
      | inr tied ↦
          elim (upto_cases b c second) [
            | inl after ↦ absurd (not_before_itself a.key (subst (λ k. slice_cmp nat_cmp a.key k ≡ Less) (sym same) (subst (λ k. slice_cmp nat_cmp k c.key ≡ Less) (sym tied.0) after)))
            | inr tied_after ↦ (tied.0, tied.1, tied_after.1)
          ]
    ]

-- in row order the rows of a place are neighbours: what is behind a row of another place is at another place too
pub apart_later : (n : ℕ) (a b c : Row) → 0 < n → IsUpTo a b → IsUpTo b c → same_place (place_of n a) (place_of n b) ≡ false → same_place (place_of n a) (place_of n c) ≡ false
apart_later n a b c some first second apart =
    false_from_ne_true (same_place (place_of n a) (place_of n c)) (λ is.
    let same = same_place-is (place_of n a) (place_of n c) is in
    let ends = between a b c first second (ap (λ p. p.key) same) in
    let same_start : bucket_start n a.time ≡ bucket_start n c.time = ap (λ p. p.start) same in
    let low = bucket_start-mono n c.time b.time some ends.2 in
    let high = bucket_start-mono n b.time a.time some ends.1 in
    both_ways (same_place (place_of n a) (place_of n b)) apart
    (same_place-from (place_of n a) (place_of n b) ends.0 (squeezed (bucket_start n a.time) (bucket_start n b.time) (bucket_start n c.time) same_start low high)))
  where
    squeezed : (x y z : ℤ) → x ≡ z → z ≤ℤ y → y ≤ℤ x → x ≡ y
    squeezed x y z same low high = omega (arith, ints, same, low, high)

-- ---- the direct fold, one row more

-- a row has no part in the folds of other places
pub others_stay : (schema : Schema) (n : ℕ) (row : Row) (rows : List Row) (ps : List Place) → Each (λ p. same_place (place_of n row) p ≡ false) ps →
    map (λ p. fold_at schema p (rows_at n p (row ∷ rows))) ps ≡ map (λ p. fold_at schema p (rows_at n p rows)) ps
others_stay schema n row rows [] others = refl
others_stay schema n row rows (p ∷ ps) others =
    cons_eq
    (ap (λ b. fold_at schema p (cond b (row ∷ rows_at n p rows) (rows_at n p rows))) others.0)
    (others_stay schema n row rows ps others.1)
  where
    cons_eq : {x y : Row} {xs ys : List Row} → x ≡ y → xs ≡ ys → x ∷ xs ≡ y ∷ ys
    cons_eq a b = cc

pub rows_eq : {x y : Row} {xs ys : List Row} → x ≡ y → xs ≡ ys → x ∷ xs ≡ y ∷ ys
rows_eq a b = cc

-- the row of its own place is among the rows there
rows_here : (n : ℕ) (row : Row) (rows : List Row) → rows_at n (place_of n row) (row ∷ rows) ≡ row ∷ rows_at n (place_of n row) rows
rows_here n row rows = ap (λ b. cond b (row ∷ rows_at n (place_of n row) rows) (rows_at n (place_of n row) rows)) (same_place-refl (place_of n row))

pub other_places : (p : Place) (ps : List Place) → Each (λ q. same_place p q ≡ false) ps → filter (λ q. not (same_place p q)) ps ≡ ps
other_places p ps others =
    filter_all (λ q. not (same_place p q)) ps (Each-weaker (λ q. same_place p q ≡ false) (λ q. not (same_place p q) ≡ true) (λ q other. ap not other) ps others)

filtered_others : (p : Place) (ps : List Place) → Each (λ q. same_place p q ≡ false) (filter (λ q. not (same_place p q)) ps)
filtered_others p [] = tt
filtered_others p (q ∷ qs) = by_test (same_place p q) refl (filtered_others p qs)
  where
    by_test : (b : Bool) → same_place p q ≡ b → Each (λ r. same_place p r ≡ false) (filter (λ r. not (same_place p r)) qs) → Each (λ r. same_place p r ≡ false) (cond (not b) (q ∷ filter (λ r. not (same_place p r)) qs) (filter (λ r. not (same_place p r)) qs))
    by_test true is later = later
    by_test false is later = (is, later)

-- a row at a place of its own goes in front
passes : (schema : Schema) (n : ℕ) (row : Row) (rows : List Row) → length row.cells ≡ length schema.fields → Each (λ r. same_place (place_of n row) (place_of n r) ≡ false) rows →
    fold_in_order schema (row ∷ rows) n ≡ placed schema n row ∷ fold_in_order schema rows n
passes schema n row rows cells apart =
    let others = places-each (λ q. same_place (place_of n row) q ≡ false) n rows apart in
    let none : rows_at n (place_of n row) rows ≡ [] = filter_none (λ r. same_place (place_of n r) (place_of n row)) rows (Each-weaker (λ r. same_place (place_of n row) (place_of n r) ≡ false) (λ r. same_place (place_of n r) (place_of n row) ≡ false) (λ r other. other_place-sym (place_of n row) (place_of n r) other) rows apart) in
    rows_eq
    (ap (fold_at schema (place_of n row)) (rows_here n row rows ∙ ap (λ rs. row ∷ rs) none) ∙ fold_at-one schema n row cells)
    (ap (map (λ p. fold_at schema p (rows_at n p (row ∷ rows)))) (other_places (place_of n row) (places n rows) others)
    ∙ others_stay schema n row rows (places n rows) others)

-- a row at the place of the first joins it
joins : (schema : Schema) (n : ℕ) (row next : Row) (rest : List Row) → length row.cells ≡ length schema.fields → same_place (place_of n row) (place_of n next) ≡ true →
    fold_in_order schema (row ∷ next ∷ rest) n ≡ put schema (placed schema n row) (fold_in_order schema (next ∷ rest) n)
joins schema n row next rest cells is =
    let here = place_of n next in
    let same = same_place-is (place_of n row) here is in
    let behind = rows_at n here rest in
    let others = filter (λ q. not (same_place here q)) (places n rest) in
    let apart : Each (λ q. same_place (place_of n row) q ≡ false) others = subst (λ p. Each (λ q. same_place p q ≡ false) others) (sym same) (filtered_others here (places n rest)) in
    let in_front : rows_at n (place_of n row) (row ∷ next ∷ rest) ≡ row ∷ next ∷ behind = rows_here n row (next ∷ rest) ∙ (ap (λ p. row ∷ rows_at n p (next ∷ rest)) same ∙ ap (λ rs. row ∷ rs) (rows_here n next rest)) in
    let first = fold_at schema here (rows_at n here (next ∷ rest)) in
    let later = map (λ p. fold_at schema p (rows_at n p (next ∷ rest))) others in
    rows_eq
    (ap (fold_at schema (place_of n row)) in_front
    ∙ (ap (λ p. fold_at schema p (row ∷ next ∷ behind)) same
    ∙ (fold_at-more schema n here row next behind cells
    ∙ ap (λ rs. merge_of_rows schema (fold_at schema here rs) (placed schema n row)) (sym (rows_here n next rest)))))
    (ap (map (λ p. fold_at schema p (rows_at n p (row ∷ next ∷ rest)))) (ap (λ b. cond (not b) (here ∷ filter (λ q. not (same_place (place_of n row) q)) others) (filter (λ q. not (same_place (place_of n row) q)) others)) is ∙ other_places (place_of n row) others apart)
    ∙ others_stay schema n row (next ∷ rest) others apart)
    ∙ sym (put_joins schema (placed schema n row) first later is)

-- the two forms agree on rows in row order
pub fold_in_order-joined : (schema : Schema) (n : ℕ) (rows : List Row) → 0 < n → HaveCells schema rows → Ascend rows → fold_in_order schema rows n ≡ joined schema n rows
fold_in_order-joined schema n [] some cells ascend = refl
fold_in_order-joined schema n (row ∷ []) some cells ascend = passes schema n row [] cells.0 tt
fold_in_order-joined schema n (row ∷ next ∷ rest) some cells ascend =
    by_test (same_place (place_of n row) (place_of n next)) refl (fold_in_order-joined schema n (next ∷ rest) some cells.1 ascend.1)
  where
    by_test : (b : Bool) → same_place (place_of n row) (place_of n next) ≡ b → fold_in_order schema (next ∷ rest) n ≡ joined schema n (next ∷ rest) → fold_in_order schema (row ∷ next ∷ rest) n ≡ joined schema n (row ∷ next ∷ rest)
    by_test true is same = joins schema n row next rest cells.0 is ∙ ap (put schema (placed schema n row)) same
    by_test false is same =
        let apart : Each (λ r. same_place (place_of n row) (place_of n r) ≡ false) (next ∷ rest) = (is, Each-weaker (IsUpTo next) (λ r. same_place (place_of n row) (place_of n r) ≡ false) (λ r up. apart_later n row next r some ascend.0.0 up is) rest ascend.1.0) in
        passes schema n row (next ∷ rest) cells.0 apart
        ∙ (sym (put_passes schema (placed schema n row) (fold_at schema (place_of n next) (rows_at n (place_of n next) (next ∷ rest))) (map (λ p. fold_at schema p (rows_at n p (next ∷ rest))) (filter (λ q. not (same_place (place_of n next) q)) (places n rest))) is)
        ∙ ap (put schema (placed schema n row)) same)
