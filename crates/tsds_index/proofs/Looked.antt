-- The first row that passes a test, in one list and in lists joined.
use Rattle.std.specs.Prelude.{◌≡◌, ℕ, ℤ, zero, suc, ◌+◌, ◌<◌, ◌||◌, not, Bool, true, false, cond, Option, Some, None, List, [], ◌∷◌, ◌++◌, length, position}
use Rattle.std.specs.List.{find, list_any, position_or_len, slice_get}
use Rattle.std.proofs.Common.{refl, ap, sym, ◌∙◌, arith, get_or, lt-ltb}
use Rattle.std.proofs.lemmas.Bool.{both_ways, or_parts}
use Rattle.std.proofs.lemmas.List.{map-append}
use Rattle.std.proofs.lemmas.List.Quantifiers.{position-Some}
use Rattle.row_cells.specs.declared.rows.Row.{Row}
use Rattle.row_cells.specs.Each.{Each}
use Rattle.row_cells.specs.PlaceLaws.{any-append}
use Rattle.row_cells.specs.RowLists.{has_place}
use Rattle.index_segment.specs.Held.{Held}
use Rattle.index_segment.specs.Looks.{is_at}
use Rattle.tsds_index.specs.Answers.{row_at}
use Rattle.tsds_index.specs.Places.{place_row}
use Rattle.tsds_index.specs.Segments.{lists_in}
use Rattle.tsds_index.specs.Spread.{newest_first}
use Rattle.tsds_index.proofs.Joined.{newest_append}
use Rattle.tsds_index.proofs.Ordered.{find_none}

module _ (test : Row → Bool) where
  -- ---- one list

  first_at : (d : Row) (rows : List Row) (i : ℕ) (r : Row) → slice_get rows i ≡ Some r → test (get_or rows i d) ≡ true → ((k : ℕ) → k < i → test (get_or rows k d) ≡ false) → find test rows ≡ Some r
  first_at d [] i r there is before = cc
  first_at d (x ∷ xs) zero r there is before = ap (λ b. cond b (Some x) (find test xs)) is ∙ there
  first_at d (x ∷ xs) (suc i) r there is before =
      ap (λ b. cond b (Some x) (find test xs)) (before 0 (omega arith)) ∙ first_at d xs i r there is (λ k less. before (suc k) (omega (arith, less)))

  pub found : (rows : List Row) (i : ℕ) (r : Row) → position test rows ≡ Some i → slice_get rows i ≡ Some r → find test rows ≡ Some r
  found rows i r at there = let parts = position-Some test rows i r at in first_at r rows i r there parts.1 parts.2

  none_found : (rows : List Row) → (position_or_len test rows < length rows → ⊥) → Each (λ r. test r ≡ false) rows
  none_found [] none = tt
  none_found (x ∷ xs) none = by_test (test x) refl (none_found xs) none
    where
      by_test : (b : Bool) → test x ≡ b → ((position_or_len test xs < length xs → ⊥) → Each (λ r. test r ≡ false) xs) → (cond (not b) (1 + position_or_len test xs) 0 < suc (length xs) → ⊥) → Each (λ r. test r ≡ false) (x ∷ xs)
      by_test true is later none = absurd (none (omega arith))
      by_test false is later none = (is, later (λ less. none (omega (arith, less))))

  pub none_is : (rows : List Row) → position test rows ≡ None → Each (λ r. test r ≡ false) rows
  none_is rows is = none_found rows (λ less. absurd (no (sym is ∙ ap (λ b. cond {A = Option ℕ} b (Some (position_or_len test rows)) None) (lt-ltb (position_or_len test rows) (length rows) less))))
    where
      no : {n : ℕ} → None ≡ Some n → ⊥
      no e = cc

  pub any_none : (rows : List Row) → Each (λ r. test r ≡ false) rows → list_any test rows ≡ false
  any_none [] each = refl
  any_none (x ∷ xs) each = ap (λ b. b || list_any test xs) each.0 ∙ any_none xs each.1

  pub any_found : (rows : List Row) (r : Row) → find test rows ≡ Some r → list_any test rows ≡ true
  any_found [] r is = cc
  any_found (x ∷ xs) r is = by_test (test x) (any_found xs r) is
    where
      by_test : (b : Bool) → (find test xs ≡ Some r → list_any test xs ≡ true) → cond b (Some x) (find test xs) ≡ Some r → (b || list_any test xs) ≡ true
      by_test true later is = refl
      by_test false later is = later is

  pub any_not_found : (rows : List Row) → find test rows ≡ None → list_any test rows ≡ false
  any_not_found [] is = refl
  any_not_found (x ∷ xs) is = by_test (test x) (any_not_found xs) is
    where
      by_test : (b : Bool) → (find test xs ≡ None → list_any test xs ≡ false) → cond b (Some x) (find test xs) ≡ None → (b || list_any test xs) ≡ false
      by_test true later is = cc
      by_test false later is = later is

  pub any_at : (rows : List Row) (i : ℕ) (d : Row) → position test rows ≡ Some i → list_any test rows ≡ true
  any_at rows i d at = by_any (list_any test rows) refl
    where
      all_false : (xs : List Row) → list_any test xs ≡ false → (k : ℕ) → k < length xs → test (get_or xs k d) ≡ false
      all_false [] is k less = absurd (omega (arith, less))
      all_false (x ∷ xs) is zero less = (or_parts (test x) (list_any test xs) is).0
      all_false (x ∷ xs) is (suc k) less = all_false xs (or_parts (test x) (list_any test xs) is).1 k (omega (arith, less))

      by_any : (b : Bool) → list_any test rows ≡ b → list_any test rows ≡ true
      by_any true is = is
      by_any false is = let parts = position-Some test rows i d at in absurd (both_ways (test (get_or rows i d)) (all_false rows is i parts.0) parts.1)

  -- ---- joined lists

  pub find_behind : (xs ys : List Row) → find test xs ≡ None → find test (xs ++ ys) ≡ find test ys
  find_behind [] ys is = refl
  find_behind (x ∷ xs) ys is = by_test (test x) (find_behind xs ys) is
    where
      by_test : (b : Bool) → (find test xs ≡ None → find test (xs ++ ys) ≡ find test ys) → cond b (Some x) (find test xs) ≡ None → cond b (Some x) (find test (xs ++ ys)) ≡ find test ys
      by_test true later is = cc
      by_test false later is = later is

  pub find_front : (xs ys : List Row) (r : Row) → find test xs ≡ Some r → find test (xs ++ ys) ≡ Some r
  find_front [] ys r is = cc
  find_front (x ∷ xs) ys r is = by_test (test x) (find_front xs ys r) is
    where
      by_test : (b : Bool) → (find test xs ≡ Some r → find test (xs ++ ys) ≡ Some r) → cond b (Some x) (find test xs) ≡ Some r → cond b (Some x) (find test (xs ++ ys)) ≡ Some r
      by_test true later is = is
      by_test false later is = later is

-- ---- segments, the newest first

pub newest_is : (left older : List Held) (s : Held) → left ≡ older ++ s ∷ [] → newest_first (lists_in left) ≡ s.rows ++ newest_first (lists_in older)
newest_is left older s is =
    ap (λ segments. newest_first (lists_in segments)) is
    ∙ (ap newest_first (map-append (λ (h : Held). h.rows) older (s ∷ [])) ∙ newest_append (lists_in older) (s.rows ∷ []))

module _ (key : List ℕ) (time : ℤ) (left older : List Held) (s : Held) (left_is : left ≡ older ++ s ∷ []) where
  pub row_there : (all : Option Row) (i : ℕ) (r : Row) → row_at key time (newest_first (lists_in left)) ≡ all → Some i ≡ position (is_at key time) s.rows → slice_get s.rows i ≡ Some r → Some r ≡ all
  row_there all i r before at there =
      sym (find_front (is_at key time) s.rows (newest_first (lists_in older)) r (found (is_at key time) s.rows i r (sym at) there))
      ∙ (ap (row_at key time) (sym (newest_is left older s left_is)) ∙ before)

  pub row_before : (all : Option Row) → row_at key time (newest_first (lists_in left)) ≡ all → None ≡ position (is_at key time) s.rows → row_at key time (newest_first (lists_in older)) ≡ all
  row_before all before at =
      sym (find_behind (is_at key time) s.rows (newest_first (lists_in older)) (find_none (is_at key time) s.rows (none_is (is_at key time) s.rows (sym at))))
      ∙ (ap (row_at key time) (sym (newest_is left older s left_is)) ∙ before)

  joined_place : has_place key time (newest_first (lists_in left)) ≡ (has_place key time s.rows || has_place key time (newest_first (lists_in older)))
  joined_place = ap (has_place key time) (newest_is left older s left_is) ∙ any-append (is_at key time) s.rows (newest_first (lists_in older))

  pub place_there : (all : Bool) (i : ℕ) → has_place key time (newest_first (lists_in left)) ≡ all → Some i ≡ position (is_at key time) s.rows → true ≡ all
  place_there all i before at = sym (ap (λ b. b || has_place key time (newest_first (lists_in older))) (any_at (is_at key time) s.rows i (place_row key time) (sym at))) ∙ (sym joined_place ∙ before)

  pub place_before : (all : Bool) → has_place key time (newest_first (lists_in left)) ≡ all → None ≡ position (is_at key time) s.rows → has_place key time (newest_first (lists_in older)) ≡ all
  place_before all before at = sym (ap (λ b. b || has_place key time (newest_first (lists_in older))) (any_none (is_at key time) s.rows (none_is (is_at key time) s.rows (sym at)))) ∙ (sym joined_place ∙ before)

-- ---- the buffer in front of the segments

module _ (key : List ℕ) (time t : ℤ) (time_is : t ≡ time) (xs zs ys : List Row) where
  pub has_front : (r : Row) → Some r ≡ row_at key t xs → true ≡ has_place key time (xs ++ ys)
  has_front r at =
      sym (any-append (is_at key time) xs ys ∙ ap (λ b. b || has_place key time ys) (any_found (is_at key time) xs r (sym (at ∙ ap (λ s. row_at key s xs) time_is))))

  pub has_behind : (b : Bool) → None ≡ row_at key t xs → zs ≡ ys → b ≡ has_place key t zs → b ≡ has_place key time (xs ++ ys)
  has_behind b at same is =
      is ∙ (ap (has_place key t) same ∙ (ap (λ s. has_place key s ys) time_is
      ∙ sym (any-append (is_at key time) xs ys ∙ ap (λ b. b || has_place key time ys) (any_not_found (is_at key time) xs (sym (at ∙ ap (λ s. row_at key s xs) time_is))))))

  pub got_front : (r copy : Row) → Some r ≡ row_at key t xs → copy ≡ r → Some copy ≡ row_at key time (xs ++ ys)
  got_front r copy at same =
      ap Some same ∙ sym (find_front (is_at key time) xs ys r (sym (at ∙ ap (λ s. row_at key s xs) time_is)))

  pub got_behind : (o : Option Row) → None ≡ row_at key t xs → zs ≡ ys → o ≡ row_at key t zs → o ≡ row_at key time (xs ++ ys)
  got_behind o at same is =
      is ∙ (ap (row_at key t) same ∙ (ap (λ s. row_at key s ys) time_is
      ∙ sym (find_behind (is_at key time) xs ys (sym (at ∙ ap (λ s. row_at key s xs) time_is)))))
