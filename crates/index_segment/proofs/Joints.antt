-- The steps of making two lists of series one.
use Rattle.std.specs.Prelude.{◌≡◌, ℕ, ℤ, pos, zero, suc, unsigned_abs, ◌+◌, ◌<◌, ◌≤◌, List, [], ◌∷◌, ◌++◌, length, drop}
use Rattle.std.specs.Ordering.{nat_cmp}
use Rattle.std.specs.Cmp.Lexicographic.{slice_cmp}
use Rattle.std.specs.declared.cmp.Ordering.{Ordering}
use Rattle.std.specs.declared.cmp.Ordering.TheVariants.{Less, Equal, Greater}
use Rattle.std.proofs.Common.{refl, ap, sym, subst, ◌∙◌, arith, get_or}
use Rattle.std.proofs.lemmas.List.{get_or_default}
use Rattle.index_segment.specs.declared.shares.Counts.{Counts}
use Rattle.index_segment.specs.declared.shares.Joined.{Joined}
use Rattle.index_segment.specs.Directory.{Run, run_of}
use Rattle.index_segment.specs.Joining.{Goes, keys_of_joints, rows_of_joints, series_left}
use Rattle.index_segment.specs.Merging.{Joint, by_order, counts_of, joint, joined_series, listed}
use Rattle.index_segment.proofs.Runs.{moved}

-- ---- series at a place

abbrev pub run_at : List (List ℕ) → List ℤ → ℕ → Run
run_at keys sizes i = run_of (get_or keys i []) (unsigned_abs (get_or sizes i (pos 0)))

listed_at : (keys : List (List ℕ)) (sizes : List ℤ) (i : ℕ) → i < length keys → length sizes ≡ length keys → drop i (listed keys sizes) ≡ run_of (get_or keys i []) (unsigned_abs (get_or sizes i (pos 0))) ∷ drop (suc i) (listed keys sizes)
listed_at [] sizes i there same = absurd (omega (arith, there))
listed_at (key ∷ keys) [] i there same = absurd (omega (arith, same))
listed_at (key ∷ keys) (size ∷ sizes) zero there same = refl
listed_at (key ∷ keys) (size ∷ sizes) (suc i) there same = listed_at keys sizes i (omega (arith, there)) (omega (arith, same))

pub listed_past : (keys : List (List ℕ)) (sizes : List ℤ) (i : ℕ) → length keys ≤ i → drop i (listed keys sizes) ≡ []
listed_past [] sizes i past = nothing i
  where
    nothing : (i : ℕ) → drop i (listed [] sizes) ≡ []
    nothing zero = refl
    nothing (suc i) = refl
listed_past (key ∷ keys) [] i past = nothing i
  where
    nothing : (i : ℕ) → drop i (listed (key ∷ keys) []) ≡ []
    nothing zero = refl
    nothing (suc i) = refl
listed_past (key ∷ keys) (size ∷ sizes) zero past = absurd (omega (arith, past))
listed_past (key ∷ keys) (size ∷ sizes) (suc i) past = listed_past keys sizes i (omega (arith, past))

-- ---- one series

first_alone : (xs rest ys : List Run) (x : Run) → xs ≡ x ∷ rest → ys ≡ [] → joined_series xs ys ≡ joint x.key x.size 0 ∷ joined_series rest ys
first_alone xs rest ys x xs_is ys_is = rw (xs_is, ys_is) refl

second_alone : (xs ys rest : List Run) (y : Run) → xs ≡ [] → ys ≡ y ∷ rest → joined_series xs ys ≡ joint y.key 0 y.size ∷ joined_series xs rest
second_alone xs ys rest y xs_is ys_is = rw (xs_is, ys_is) refl

first_before : (xs xs' ys ys' : List Run) (x y : Run) → xs ≡ x ∷ xs' → ys ≡ y ∷ ys' → slice_cmp nat_cmp x.key y.key ≡ Less → joined_series xs ys ≡ joint x.key x.size 0 ∷ joined_series xs' ys
first_before xs xs' ys ys' x y xs_is ys_is less = rw (xs_is, ys_is) (ap (λ o. by_order o (joint x.key x.size 0 ∷ joined_series xs' (y ∷ ys')) (joint x.key x.size y.size ∷ joined_series xs' ys') (joint y.key 0 y.size ∷ joined_series (x ∷ xs') ys')) less)

second_before : (xs xs' ys ys' : List Run) (x y : Run) → xs ≡ x ∷ xs' → ys ≡ y ∷ ys' → slice_cmp nat_cmp x.key y.key ≡ Greater → joined_series xs ys ≡ joint y.key 0 y.size ∷ joined_series xs ys'
second_before xs xs' ys ys' x y xs_is ys_is greater = rw (xs_is, ys_is) (ap (λ o. by_order o (joint x.key x.size 0 ∷ joined_series xs' (y ∷ ys')) (joint x.key x.size y.size ∷ joined_series xs' ys') (joint y.key 0 y.size ∷ joined_series (x ∷ xs') ys')) greater)

both_at_once : (xs xs' ys ys' : List Run) (x y : Run) → xs ≡ x ∷ xs' → ys ≡ y ∷ ys' → slice_cmp nat_cmp x.key y.key ≡ Equal → joined_series xs ys ≡ joint x.key x.size y.size ∷ joined_series xs' ys'
both_at_once xs xs' ys ys' x y xs_is ys_is equal = rw (xs_is, ys_is) (ap (λ o. by_order o (joint x.key x.size 0 ∷ joined_series xs' (y ∷ ys')) (joint x.key x.size y.size ∷ joined_series xs' ys') (joint y.key 0 y.size ∷ joined_series (x ∷ xs') ys')) equal)

goes : (old new : Joined) (before after : List Joint) (j : Joint) → new.keys ≡ old.keys ++ j.key ∷ [] → new.rows ≡ old.rows ++ j.rows ∷ [] → before ≡ j ∷ after → Goes old new before after
goes old new before after j keys rows is = record {
  keys = moved new.keys old.keys (keys_of_joints before) (keys_of_joints after) (old.keys ++ keys_of_joints before) j.key keys (ap keys_of_joints is) refl;
  rows = moved new.rows old.rows (rows_of_joints before) (rows_of_joints after) (old.rows ++ rows_of_joints before) j.rows rows (ap rows_of_joints is) refl;
}

-- ---- the steps of the code

opened : (keys : List (List ℕ)) (sizes : List ℤ) (i : ℕ) → i < length keys → length sizes ≡ length keys → drop i (listed keys sizes) ≡ run_at keys sizes i ∷ drop (i + 1) (listed keys sizes)
opened keys sizes i there same =
    let next : suc i ≡ i + 1 = omega arith in
    listed_at keys sizes i there same ∙ ap (λ n. run_at keys sizes i ∷ drop n (listed keys sizes)) next

module _ (keys others : List (List ℕ)) (sizes counts : List ℤ) (from to : Counts) (old new : Joined) (same : length sizes ≡ length keys) (same_too : length counts ≡ length others) where
  abbrev pub first : List Run
  first = listed keys sizes

  abbrev pub second : List Run
  second = listed others counts

  abbrev pub here : Run
  here = run_at keys sizes from.first

  abbrev pub there : Run
  there = run_at others counts from.second

  -- a series of the first list alone
  pub only_first : from.first < length keys → length others ≤ from.second → new.keys ≡ old.keys ++ here.key ∷ [] → new.rows ≡ old.rows ++ counts_of here.size 0 ∷ [] → to ≡ counts_of (from.first + 1) from.second → Goes old new (series_left first second from) (series_left first second to)
  only_first within past keys_are rows_are to_is =
      subst (λ at. Goes old new (series_left first second from) (series_left first second at)) (sym to_is)
      (goes old new (series_left first second from) (series_left first second (counts_of (from.first + 1) from.second)) (joint here.key here.size 0) keys_are rows_are
      (first_alone (drop from.first first) (drop (from.first + 1) first) (drop from.second second) here (opened keys sizes from.first within same) (listed_past others counts from.second past)))

  pub only_second : length keys ≤ from.first → from.second < length others → new.keys ≡ old.keys ++ there.key ∷ [] → new.rows ≡ old.rows ++ counts_of 0 there.size ∷ [] → to ≡ counts_of from.first (from.second + 1) → Goes old new (series_left first second from) (series_left first second to)
  only_second past within keys_are rows_are to_is =
      subst (λ at. Goes old new (series_left first second from) (series_left first second at)) (sym to_is)
      (goes old new (series_left first second from) (series_left first second (counts_of from.first (from.second + 1))) (joint there.key 0 there.size) keys_are rows_are
      (second_alone (drop from.first first) (drop from.second second) (drop (from.second + 1) second) there (listed_past keys sizes from.first past) (opened others counts from.second within same_too)))

  pub less : from.first < length keys → from.second < length others → slice_cmp nat_cmp here.key there.key ≡ Less → new.keys ≡ old.keys ++ here.key ∷ [] → new.rows ≡ old.rows ++ counts_of here.size 0 ∷ [] → to ≡ counts_of (from.first + 1) from.second → Goes old new (series_left first second from) (series_left first second to)
  less within within_too order keys_are rows_are to_is =
      subst (λ at. Goes old new (series_left first second from) (series_left first second at)) (sym to_is)
      (goes old new (series_left first second from) (series_left first second (counts_of (from.first + 1) from.second)) (joint here.key here.size 0) keys_are rows_are
      (first_before (drop from.first first) (drop (from.first + 1) first) (drop from.second second) (drop (from.second + 1) second) here there (opened keys sizes from.first within same) (opened others counts from.second within_too same_too) order))

  pub greater : from.first < length keys → from.second < length others → slice_cmp nat_cmp here.key there.key ≡ Greater → new.keys ≡ old.keys ++ there.key ∷ [] → new.rows ≡ old.rows ++ counts_of 0 there.size ∷ [] → to ≡ counts_of from.first (from.second + 1) → Goes old new (series_left first second from) (series_left first second to)
  greater within within_too order keys_are rows_are to_is =
      subst (λ at. Goes old new (series_left first second from) (series_left first second at)) (sym to_is)
      (goes old new (series_left first second from) (series_left first second (counts_of from.first (from.second + 1))) (joint there.key 0 there.size) keys_are rows_are
      (second_before (drop from.first first) (drop (from.first + 1) first) (drop from.second second) (drop (from.second + 1) second) here there (opened keys sizes from.first within same) (opened others counts from.second within_too same_too) order))

  pub equal : from.first < length keys → from.second < length others → slice_cmp nat_cmp here.key there.key ≡ Equal → new.keys ≡ old.keys ++ here.key ∷ [] → new.rows ≡ old.rows ++ counts_of here.size there.size ∷ [] → to ≡ counts_of (from.first + 1) (from.second + 1) → Goes old new (series_left first second from) (series_left first second to)
  equal within within_too order keys_are rows_are to_is =
      subst (λ at. Goes old new (series_left first second from) (series_left first second at)) (sym to_is)
      (goes old new (series_left first second from) (series_left first second (counts_of (from.first + 1) (from.second + 1))) (joint here.key here.size there.size) keys_are rows_are
      (both_at_once (drop from.first first) (drop (from.first + 1) first) (drop from.second second) (drop (from.second + 1) second) here there (opened keys sizes from.first within same) (opened others counts from.second within_too same_too) order))

  -- no series is left
  pub none_left : length keys + length others ≤ from.first + from.second → from.first ≤ length keys → from.second ≤ length others → series_left first second from ≡ []
  none_left past first_within second_within = rw (listed_past keys sizes from.first (omega (arith, past, first_within, second_within)), listed_past others counts from.second (omega (arith, past, first_within, second_within))) refl

-- the keys of two items, whatever stands where there is none
pub items_order : (keys others : List (List ℕ)) (i j : ℕ) (key other : List ℕ) (o o' : Ordering) → i < length keys → j < length others → o ≡ slice_cmp nat_cmp (get_or keys i key) (get_or others j other) → o ≡ o' → slice_cmp nat_cmp (get_or keys i []) (get_or others j []) ≡ o'
items_order keys others i j key other o o' at_i at_j is same =
    ap (λ k. slice_cmp nat_cmp k (get_or others j [])) (sym (get_or_default keys i key [] at_i))
    ∙ (ap (slice_cmp nat_cmp (get_or keys i key)) (sym (get_or_default others j other [] at_j)) ∙ (sym is ∙ same))
