-- The rows of one place in front of others.
use Rattle.std.proofs.Common.{◌≡◌, ℕ, append_assoc, Some, None, take-append-drop, suc, ◌+◌, ◌<◌, ◌≤◌, List, [], ◌∷◌, ◌++◌, length, take, drop, map, Bool, true, false, cond, refl, sym, ap, subst, ◌∙◌, arith, inl, inr}
use Rattle.std.specs.List.{prefix_len, slice_get}
use Rattle.row_cells.specs.Limits.{most_documents}
use Rattle.row_cells.specs.declared.schemas.Schema.{Schema}
use Rattle.row_cells.specs.declared.rows.Row.{Row}
use Rattle.row_cells.specs.Each.{Each}
use Rattle.row_cells.specs.Fitting.{Fits, folded_form}
use Rattle.row_cells.specs.FitLaws.{merge_of_rows_fits, rows_have_room}
use Rattle.row_cells.specs.Merging.{merge_of_rows}
use Rattle.row_cells.specs.RangeLaws.{each_take, documents_parts}
use Rattle.row_cells.specs.RowLists.{AllFit, documents}
use Rattle.downsample_fold.specs.Conditions.{HaveCells}
use Rattle.downsample_fold.specs.Direct.{fold_at}
use Rattle.downsample_fold.specs.DirectLaws.{same_place-is, same_place-refl, other_place-sym}
use Rattle.downsample_fold.specs.Joined.{placed, put, joined, are_at_one}
use Rattle.downsample_fold.specs.JoinedLaws.{at_one_parts, at_one_from, put_joins, put_passes}
use Rattle.downsample_fold.specs.JoinedFitLaws.{placed_fits, AllFit-cells}
use Rattle.downsample_fold.specs.Places.{Place, place_of, same_place}
use Rattle.downsample_fold.specs.Room.{RowsHaveRoom}
use Rattle.downsample_fold.specs.RowLaws.{fold_at-one, fold_at-more}

-- ---- a list and what passes a test at its front

one_more : (m : ℕ) → 1 + m ≡ suc m
one_more m = omega arith

module _ {X : Type 0} (test : X → Bool) where
  pub front_passes : (xs : List X) → Each (λ x. test x ≡ true) (take (prefix_len test xs) xs)
  front_passes [] = tt
  front_passes (x ∷ xs) = by_test (test x) refl (front_passes xs)
    where
      by_test : (b : Bool) → test x ≡ b → Each (λ y. test y ≡ true) (take (prefix_len test xs) xs) → Each (λ y. test y ≡ true) (take (cond b (1 + prefix_len test xs) 0) (x ∷ xs))
      by_test true is later = subst (λ m. Each (λ y. test y ≡ true) (take m (x ∷ xs))) (sym (one_more (prefix_len test xs))) (is, later)
      by_test false is later = tt

  -- the list is empty, or its first element fails the test
  abbrev pub BeginsApart : List X → Type 0
  BeginsApart [] = Unit {0}
  BeginsApart (x ∷ xs) = test x ≡ false

  pub rest_apart : (xs : List X) → BeginsApart (drop (prefix_len test xs) xs)
  rest_apart [] = tt
  rest_apart (x ∷ xs) = by_test (test x) refl (rest_apart xs)
    where
      by_test : (b : Bool) → test x ≡ b → BeginsApart (drop (prefix_len test xs) xs) → BeginsApart (drop (cond b (1 + prefix_len test xs) 0) (x ∷ xs))
      by_test true is later = subst (λ m. BeginsApart (drop m (x ∷ xs))) (sym (one_more (prefix_len test xs))) later
      by_test false is later = is

-- ---- joined neighbours

same_test : (row a b : Row) → a.key ≡ b.key → a.time ≡ b.time → are_at_one row a ≡ are_at_one row b
same_test row a b same_key same_time = cc

-- a row in front of folds that begin elsewhere stays
put_apart : (schema : Schema) (n : ℕ) (row next : Row) (rest : List Row) → are_at_one row (placed schema n next) ≡ false → put schema row (joined schema n (next ∷ rest)) ≡ row ∷ joined schema n (next ∷ rest)
put_apart schema n row next rest apart = by_rest (joined schema n rest)
  where
    by_rest : (rows : List Row) → put schema row (put schema (placed schema n next) rows) ≡ row ∷ put schema (placed schema n next) rows
    by_rest [] = put_passes schema row (placed schema n next) [] apart
    by_rest (first ∷ others) = by_test (are_at_one (placed schema n next) first) refl
      where
        by_test : (b : Bool) → are_at_one (placed schema n next) first ≡ b → put schema row (cond b (merge_of_rows schema first (placed schema n next) ∷ others) (placed schema n next ∷ first ∷ others)) ≡ row ∷ cond b (merge_of_rows schema first (placed schema n next) ∷ others) (placed schema n next ∷ first ∷ others)
        by_test true is =
            let parts = at_one_parts (placed schema n next) first is in
            put_passes schema row (merge_of_rows schema first (placed schema n next)) others
            (sym (same_test row (placed schema n next) (merge_of_rows schema first (placed schema n next)) parts.0 parts.1) ∙ apart)
        by_test false is = put_passes schema row (placed schema n next) (first ∷ others) apart

-- the rows of a place, in front of others, fold to one row
pub joined_run : (schema : Schema) (n : ℕ) (place : Place) (row : Row) (run later : List Row) → HaveCells schema (row ∷ run) → Each (λ r. same_place (place_of n r) place ≡ true) (row ∷ run) → BeginsApart (λ r. same_place (place_of n r) place) later →
    joined schema n (row ∷ run ++ later) ≡ fold_at schema place (row ∷ run) ∷ joined schema n later
joined_run schema n place row [] [] cells here apart =
    let same = same_place-is (place_of n row) place here.0 in
    ap (λ r. r ∷ []) (sym (ap (λ p. fold_at schema p (row ∷ [])) (sym same) ∙ fold_at-one schema n row cells.0))
joined_run schema n place row [] (next ∷ rest) cells here apart =
    let same = same_place-is (place_of n row) place here.0 in
    let own : fold_at schema place (row ∷ []) ≡ placed schema n row = ap (λ p. fold_at schema p (row ∷ [])) (sym same) ∙ fold_at-one schema n row cells.0 in
    let other : same_place (place_of n row) (place_of n next) ≡ false = other_place-sym (place_of n next) (place_of n row) (subst (λ p. same_place (place_of n next) p ≡ false) (sym same) apart) in
    put_apart schema n (placed schema n row) next rest other ∙ ap (λ r. r ∷ joined schema n (next ∷ rest)) (sym own)
joined_run schema n place row (next ∷ run) later cells here apart =
    let same = same_place-is (place_of n row) place here.0 in
    let at_one : are_at_one (placed schema n row) (fold_at schema place (next ∷ run)) ≡ true = at_one_from (placed schema n row) (fold_at schema place (next ∷ run)) (ap (λ p. p.key) same) (ap (λ p. p.start) same) in
    ap (put schema (placed schema n row)) (joined_run schema n place next run later cells.1 here.1 apart)
    ∙ (put_joins schema (placed schema n row) (fold_at schema place (next ∷ run)) (joined schema n later) at_one
    ∙ ap (λ r. r ∷ joined schema n later) (sym (fold_at-more schema n place row next run cells.0)))

-- ---- what fits

-- the row of a place fits the folded form
pub fold_at_fits : (schema : Schema) (n : ℕ) (place : Place) (row : Row) (run : List Row) → 0 < n → Each (λ r. same_place (place_of n r) place ≡ true) (row ∷ run) → AllFit schema (row ∷ run) → documents (row ∷ run) ≤ most_documents → Fits (folded_form schema) (fold_at schema place (row ∷ run))
fold_at_fits schema n place row [] some here fits few =
    subst (λ p. Fits (folded_form schema) (fold_at schema p (row ∷ []))) (same_place-is (place_of n row) place here.0)
    (subst (Fits (folded_form schema)) (sym (fold_at-one schema n row (AllFit-cells schema (row ∷ []) fits).0)) (placed_fits schema n row some fits.0))
fold_at_fits schema n place row (next ∷ run) some here fits few =
    subst (Fits (folded_form schema)) (sym (fold_at-more schema n place row next run (AllFit-cells schema (row ∷ next ∷ run) fits).0))
    (merge_of_rows_fits schema (fold_at schema place (next ∷ run)) (placed schema n row)
    (inr (fold_at_fits schema n place next run some here.1 fits.1 (omega (arith, few)))) (inr (placed_fits schema n row some fits.0)) (omega (arith, few)))

-- its numbers leave room at each step
pub run_has_room : (schema : Schema) (n : ℕ) (place : Place) (rows : List Row) → 0 < n → Each (λ r. same_place (place_of n r) place ≡ true) rows → AllFit schema rows → documents rows ≤ most_documents → RowsHaveRoom schema.rises schema.fields (map (λ row. row.cells) rows)
run_has_room schema n place [] some here fits few = tt
run_has_room schema n place (row ∷ []) some here fits few = tt
run_has_room schema n place (row ∷ next ∷ rest) some here fits few = (
  rows_have_room schema (fold_at schema place (next ∷ rest)) row (inr (fold_at_fits schema n place next rest some here.1 fits.1 (omega (arith, few)))) (inl fits.0) (omega (arith, few)),
  run_has_room schema n place (next ∷ rest) some here.1 fits.1 (omega (arith, few)),
)

-- ---- the rows of the first row's place, cut off

-- whether a row is at the place of the first
abbrev pub with_first : ℕ → Row → Row → Bool
with_first n first row = same_place (place_of n row) (place_of n first)

module _ (schema : Schema) (n : ℕ) (first : Row) where
  first_is : (row : Row) (rows : List Row) → Some first ≡ slice_get (row ∷ rows) 0 → row ≡ first
  first_is row rows begins = cc

  none_first : {row : Row} → Some row ≡ None → ⊥
  none_first e = cc

  run_of : (row : Row) (rows : List Row) → row ≡ first → prefix_len (with_first n first) (row ∷ rows) ≡ suc (prefix_len (with_first n first) rows)
  run_of row rows is =
      ap (λ b. cond b (1 + prefix_len (with_first n first) rows) 0) (ap (with_first n first) is ∙ same_place-refl (place_of n first)) ∙ one_more (prefix_len (with_first n first) rows)

  pub run_some : (rows : List Row) → Some first ≡ slice_get rows 0 → 0 < prefix_len (with_first n first) rows
  run_some [] begins = absurd (none_first begins)
  run_some (row ∷ rows) begins = omega (arith, run_of row rows (first_is row rows begins))

  pub joined_first : (rows : List Row) → Some first ≡ slice_get rows 0 → HaveCells schema rows →
      joined schema n rows ≡ fold_at schema (place_of n first) (take (prefix_len (with_first n first) rows) rows) ∷ joined schema n (drop (prefix_len (with_first n first) rows) rows)
  joined_first [] begins cells = absurd (none_first begins)
  joined_first (row ∷ rows) begins cells =
      let m = prefix_len (with_first n first) rows in
      let whole : prefix_len (with_first n first) (row ∷ rows) ≡ suc m = run_of row rows (first_is row rows begins) in
      let here : Each (λ r. with_first n first r ≡ true) (row ∷ take m rows) = subst (λ k. Each (λ r. with_first n first r ≡ true) (take k (row ∷ rows))) whole (front_passes (with_first n first) (row ∷ rows)) in
      let apart : BeginsApart (with_first n first) (drop m rows) = subst (λ k. BeginsApart (with_first n first) (drop k (row ∷ rows))) whole (rest_apart (with_first n first) (row ∷ rows)) in
      ap (λ rs. joined schema n (row ∷ rs)) (sym (take-append-drop m rows))
      ∙ (joined_run schema n (place_of n first) row (take m rows) (drop m rows) (each_take (λ r. length r.cells ≡ length schema.fields) (suc m) (row ∷ rows) cells) here apart
      ∙ ap (λ k. fold_at schema (place_of n first) (take k (row ∷ rows)) ∷ joined schema n (drop k (row ∷ rows))) (sym whole))

  pub first_has_room : (rows : List Row) → 0 < n → AllFit schema rows → documents rows ≤ most_documents →
      RowsHaveRoom schema.rises schema.fields (map (λ row. row.cells) (take (prefix_len (with_first n first) rows) rows))
  first_has_room rows some fits few =
      let k = prefix_len (with_first n first) rows in
      run_has_room schema n (place_of n first) (take k rows) some (front_passes (with_first n first) rows) (each_take (Fits schema) k rows fits) (omega (arith, few, documents_parts k rows))

-- done so far, and one run more
pub one_run_more : (done : List Row) (row : Row) (whole rest later : List Row) → rest ≡ row ∷ later → done ++ rest ≡ whole → (done ++ row ∷ []) ++ later ≡ whole
one_run_more done row whole rest later is so_far = append_assoc done (row ∷ []) later ∙ (ap (λ rs. done ++ rs) (sym is) ∙ so_far)
