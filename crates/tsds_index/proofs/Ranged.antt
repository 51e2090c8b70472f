-- The rows of a series and a range of times, among rows in row order and in segments.
use Rattle.std.specs.Prelude.{◌≡◌, ℕ, ℤ, zero, suc, ◌+◌, ◌-◌, ◌^◌, ◌≤◌, ◌<◌, ◌≤ℤ◌, ◌<ℤ◌, ◌&&◌, int_le, int_lt, not, T, Bool, true, false, cond, Some, List, [], ◌∷◌, ◌++◌, length, take, drop}
use Rattle.std.specs.Int.Signed.{lt_z, lt_z_yes, lt_z_no, le_z, le_z_yes}
use Rattle.std.specs.List.{slice_get}
use Rattle.std.specs.Ordering.{ordering_reverse}
use Rattle.std.specs.Str.{bytes_eq}
use Rattle.std.specs.declared.cmp.Ordering.{Ordering}
use Rattle.std.specs.declared.cmp.Ordering.TheVariants.{Less, Equal, Greater}
use Rattle.std.proofs.Common.{inl, inr, refl, ap, append-nil, sym, subst, ◌∙◌, arith}
use Rattle.std.proofs.lemmas.Int.{ints}
use Rattle.std.proofs.lemmas.List.{length-append, take-append-drop}
use Rattle.std.proofs.lemmas.List.Elements.{filter-append}
use Rattle.row_cells.specs.declared.rows.Row.{Row}
use Rattle.row_cells.specs.Each.{Each}
use Rattle.row_cells.specs.EachLaws.{Each-both, Each-weaker, filter_all, filter_none}
use Rattle.row_cells.specs.Order.{row_cmp}
use Rattle.row_cells.specs.OrderLaws.{IsUpTo, row_cmp_total, upto_cases, upto_of_le, upto_of_not_le}
use Rattle.row_cells.specs.RangeLaws.{earlier_behind, each_take}
use Rattle.row_cells.specs.RowLists.{AreInRowOrder}
use Rattle.row_cells.specs.WidenLaws.{apart, other_bytes, same_bytes}
use Rattle.row_cells.specs.Dimensions.{IsBefore}
use Rattle.row_cells.specs.JoinLaws.{before_chain}
use Rattle.edge_face.proofs.WindowLemmas.{length-slice_range}
use Rattle.index_segment.specs.Directory.{keys_of}
use Rattle.index_segment.specs.Held.{Held}
use Rattle.index_segment.specs.Looks.{IsRange, is_within, rows_within}
use Rattle.index_segment.specs.Order.{NoneIs}
use Rattle.tsds_index.specs.Places.{place_row}
use Rattle.tsds_index.specs.Segments.{lists_in}
use Rattle.tsds_index.specs.Spread.{newest_first}
use Rattle.tsds_index.proofs.Keys.{each_of_keys, each_of_places}
use Rattle.tsds_index.proofs.Looked.{newest_is}
use Rattle.tsds_index.specs.Ranges.{AllBehind, NoneBehind}

-- ---- a place, by what stands at it

pub behind_from : (p x : Row) (rows : List Row) (k : ℕ) → AreInRowOrder rows → slice_get rows k ≡ Some x → row_cmp p x ≡ Less → AllBehind p (drop k rows)
behind_from p x [] k order there less = cc
behind_from p x (y ∷ ys) zero order there less =
    let here : row_cmp p y ≡ Less = subst (λ r. row_cmp p r ≡ Less) same less in
    (here, Each-weaker (λ next. row_cmp y next ≡ Less) (λ r. row_cmp p r ≡ Less) (λ r next. row_cmp_total.trans p y r here next) ys order.0)
  where
    same : x ≡ y
    same = cc
behind_from p x (y ∷ ys) (suc k) order there less = behind_from p x ys k order.1 there less

none_more : (p x : Row) (rows : List Row) (k : ℕ) → AreInRowOrder rows → slice_get rows k ≡ Some x → (row_cmp p x ≡ Less → ⊥) → NoneBehind p (take (suc k) rows)
none_more p x [] k order there not = cc
none_more p x (y ∷ ys) zero order there not = (subst (λ r. row_cmp p r ≡ Less → ⊥) same not, tt)
  where
    same : x ≡ y
    same = cc
none_more p x (y ∷ ys) (suc k) order there not = (first y ys k order.0 there, none_more p x ys k order.1 there not)
  where
    first : (z : Row) (zs : List Row) (i : ℕ) → Each (λ next. row_cmp z next ≡ Less) zs → slice_get zs i ≡ Some x → row_cmp p z ≡ Less → ⊥
    first z [] i each at less = cc
    first z (w ∷ zs) zero each at less = not (row_cmp_total.trans p z x less (subst (λ r. row_cmp z r ≡ Less) (some_same w x at) each.0))
      where
        some_same : (a b : Row) → Some a ≡ Some b → a ≡ b
        some_same a b e = cc
    first z (w ∷ zs) (suc i) each at less = first z zs i each.1 at less

pub none_up_to : (p x : Row) (rows : List Row) (k n : ℕ) → n ≡ suc k → AreInRowOrder rows → slice_get rows k ≡ Some x → (row_cmp p x ≡ Less → ⊥) → NoneBehind p (take n rows)
none_up_to p x rows k n is order there not = subst (λ m. NoneBehind p (take m rows)) (sym is) (none_more p x rows k order there not)

-- ---- the test of a range

and_false : (a b : Bool) → a ≡ false → a && b ≡ false
and_false a b is = ap (λ x. x && b) is

and_right : (a b : Bool) → b ≡ false → a && b ≡ false
and_right true b is = is
and_right false b is = refl

not_less : (a b : ℤ) → b ≤ℤ a → int_lt a b ≡ false
not_less a b above = go (lt_z a b) refl
  where
    go : (v : Bool) → lt_z a b ≡ v → v ≡ false
    go true e = absurd (omega (arith, ints, above, lt_z_yes {a = a} {b = b} (subst T (sym e) tt)))
    go false e = refl

is_less : (a b : ℤ) → a <ℤ b → int_lt a b ≡ true
is_less a b below = go (lt_z a b) refl
  where
    go : (v : Bool) → lt_z a b ≡ v → v ≡ true
    go true e = refl
    go false e = absurd (omega (arith, ints, below, lt_z_no {a = a} {b = b} (subst (λ v. T (not v)) (sym e) tt)))

is_up_to : (a b : ℤ) → a ≤ℤ b → int_le a b ≡ true
is_up_to a b below = go (le_z a b) below.le
  where
    go : (v : Bool) → T v → v ≡ true
    go true t = refl
    go false t = absurd t

not_up_to : (a b : ℤ) → b <ℤ a → int_le a b ≡ false
not_up_to a b below = go (le_z a b) refl
  where
    go : (v : Bool) → le_z a b ≡ v → v ≡ false
    go true e = absurd (omega (arith, ints, below, le_z_yes {a = a} {b = b} (subst T (sym e) tt)))
    go false e = refl

not_less_upto : (p r : Row) → (row_cmp p r ≡ Less → ⊥) → IsUpTo r p
not_less_upto p r not = by_order (row_cmp p r) refl
  where
    by_order : (o : Ordering) → row_cmp p r ≡ o → IsUpTo r p
    by_order Less is = absurd (not is)
    by_order Equal is = upto_of_le r p Equal (row_cmp_total.antisymm r p ∙ ap ordering_reverse is) refl
    by_order Greater is = upto_of_not_le p r Greater is refl

module _ (key : List ℕ) (from to : ℤ) where
  other_key : (r : Row) → (r.key ≡ key → ⊥) → is_within key from to r ≡ false
  other_key r other = and_false (bytes_eq r.key key && int_le from r.time) (int_lt r.time to) (and_false (bytes_eq r.key key) (int_le from r.time) (other_bytes r.key key other))

  too_late : (r : Row) → to ≤ℤ r.time → is_within key from to r ≡ false
  too_late r late = and_right (bytes_eq r.key key && int_le from r.time) (int_lt r.time to) (not_less r.time to late)

  too_early : (r : Row) → r.time <ℤ from → is_within key from to r ≡ false
  too_early r early = and_false (bytes_eq r.key key && int_le from r.time) (int_lt r.time to) (and_right (bytes_eq r.key key) (int_le from r.time) (not_up_to from r.time early))

  in_time : (r : Row) → r.key ≡ key → from ≤ℤ r.time → r.time <ℤ to → is_within key from to r ≡ true
  in_time r same early late =
      ap (λ b. (b && int_le from r.time) && int_lt r.time to) (same_bytes r.key key same)
      ∙ (ap (λ b. b && int_lt r.time to) (is_up_to from r.time early) ∙ is_less r.time to late)

  -- a row up to the end of a range is not of it, and one behind its start neither
  before_range : (r : Row) → (row_cmp (place_row key to) r ≡ Less → ⊥) → is_within key from to r ≡ false
  before_range r not =
      elim (upto_cases r (place_row key to) (not_less_upto (place_row key to) r not)) [
        | inl before ↦ other_key r (apart r.key key before)
        | inr tied ↦ too_late r tied.1
      ]

  behind_range : (r : Row) → row_cmp (place_row key from) r ≡ Less → is_within key from to r ≡ false
  behind_range r less =
      elim (upto_cases (place_row key from) r (upto_of_le (place_row key from) r Less less refl)) [
        | inl before ↦ other_key r (λ same. apart key r.key before (sym same))
        | inr tied ↦ too_early r (earlier_behind (place_row key from) r less tied.0)
      ]

  -- one between them is
  inside_range : (r : Row) → row_cmp (place_row key to) r ≡ Less → (row_cmp (place_row key from) r ≡ Less → ⊥) → is_within key from to r ≡ true
  inside_range r less not =
      elim (upto_cases (place_row key to) r (upto_of_le (place_row key to) r Less less refl)) [
        | inl before ↦ elim (upto_cases r (place_row key from) (not_less_upto (place_row key from) r not)) [
          | inl after ↦ absurd (apart key key (row_before key r.key before after) refl)
          | inr tied ↦ absurd (apart key r.key before (sym tied.0))
        ]
        | inr here ↦ elim (upto_cases r (place_row key from) (not_less_upto (place_row key from) r not)) [
          | inl after ↦ absurd (apart r.key key after (sym here.0))
          | inr tied ↦ in_time r tied.0 tied.1 (earlier_behind (place_row key to) r less here.0)
        ]
      ]
    where
      row_before : (a b : List ℕ) → IsBefore a b → IsBefore b a → IsBefore a a
      row_before a b one other = before_chain a b a one other

  cut_off : (rows : List Row) (n : ℕ) → NoneBehind (place_row key to) (take n rows) → rows_within key from to rows ≡ rows_within key from to (drop n rows)
  cut_off rows n none =
      ap (rows_within key from to) (sym (take-append-drop n rows))
      ∙ (filter-append (is_within key from to) (take n rows) (drop n rows)
      ∙ ap (λ rs. rs ++ rows_within key from to (drop n rows)) (filter_none (is_within key from to) (take n rows) (Each-weaker (λ r. row_cmp (place_row key to) r ≡ Less → ⊥) (λ r. is_within key from to r ≡ false) (λ r not. before_range r not) (take n rows) none)))

  kept : (rows : List Row) (m : ℕ) → AllBehind (place_row key to) rows → NoneBehind (place_row key from) (take m rows) → AllBehind (place_row key from) (drop m rows) → rows_within key from to rows ≡ take m rows
  kept rows m all none behind =
      ap (rows_within key from to) (sym (take-append-drop m rows))
      ∙ (filter-append (is_within key from to) (take m rows) (drop m rows)
      ∙ (ap (λ rs. rs ++ rows_within key from to (drop m rows)) (filter_all (is_within key from to) (take m rows) (Each-both (λ r. row_cmp (place_row key to) r ≡ Less) (λ r. row_cmp (place_row key from) r ≡ Less → ⊥) (λ r. is_within key from to r ≡ true) (λ r less not. inside_range r less not) (take m rows) (each_take (λ r. row_cmp (place_row key to) r ≡ Less) m rows all) none))
      ∙ (ap (λ rs. take m rows ++ rs) (filter_none (is_within key from to) (drop m rows) (Each-weaker (λ r. row_cmp (place_row key from) r ≡ Less) (λ r. is_within key from to r ≡ false) (λ r less. behind_range r less) (drop m rows) behind))
      ∙ append-nil (take m rows))))

  -- a segment without the series has no row of the range
  pub none_in : (rows : List Row) → AreInRowOrder rows → NoneIs (keys_of rows) key → length (rows_within key from to rows) ≡ 0
  none_in rows order none =
      let others : Each (λ k. k ≡ key → ⊥) (keys_of rows) = each_of_places (λ k. k ≡ key → ⊥) (keys_of rows) none in
      ap length (filter_none (is_within key from to) rows (Each-weaker (λ r. r.key ≡ key → ⊥) (λ r. is_within key from to r ≡ false) (λ r other. other_key r other) rows (each_of_keys (λ k. k ≡ key → ⊥) rows order others)))

pub range_is : (key : List ℕ) (from to f t : ℤ) (rows rest within : List Row) (n m : ℕ) → f ≡ from → t ≡ to → NoneBehind (place_row key t) (take n rows) → AllBehind (place_row key t) (drop n rows) → rest ≡ drop n rows → NoneBehind (place_row key f) (take m rest) → AllBehind (place_row key f) (drop m rest) → within ≡ take m rest → within ≡ rows_within key from to rows
range_is key from to f t rows rest within n m from_is to_is none all rest_is none_too all_too is =
    let before : NoneBehind (place_row key to) (take n rows) = subst (λ s. NoneBehind (place_row key s) (take n rows)) to_is none in
    let behind : AllBehind (place_row key to) rest = subst (AllBehind (place_row key to)) (sym rest_is) (subst (λ s. AllBehind (place_row key s) (drop n rows)) to_is all) in
    let start : NoneBehind (place_row key from) (take m rest) = subst (λ s. NoneBehind (place_row key s) (take m rest)) from_is none_too in
    let end : AllBehind (place_row key from) (drop m rest) = subst (λ s. AllBehind (place_row key s) (drop m rest)) from_is all_too in
    is ∙ (sym (kept key from to rest m behind start end) ∙ (ap (rows_within key from to) rest_is ∙ sym (cut_off key from to rows n before)))

-- ---- how many there are

pub range_length : (key : List ℕ) (from to f t : ℤ) (k : List ℕ) (rows : List Row) (i j : ℕ) → f ≡ from → t ≡ to → k ≡ key → IsRange k f t rows i j → j - i ≡ length (rows_within key from to rows)
range_length key from to f t k rows i j from_is to_is key_is range =
    sym (length-slice_range rows i j range.ordered range.inside)
    ∙ (ap length (sym range.same)
    ∙ (ap (λ x. length (rows_within x f t rows)) key_is
    ∙ (ap (λ x. length (rows_within key x t rows)) from_is ∙ ap (λ x. length (rows_within key from x rows)) to_is)))

pub fewer : (key : List ℕ) (from to : ℤ) (rows : List Row) → length (rows_within key from to rows) ≤ length rows
fewer key from to [] = omega arith
fewer key from to (r ∷ rows) = by_test (is_within key from to r) (fewer key from to rows)
  where
    by_test : (b : Bool) → length (rows_within key from to rows) ≤ length rows → length (cond b (r ∷ rows_within key from to rows) (rows_within key from to rows)) ≤ suc (length rows)
    by_test true later = omega (arith, later)
    by_test false later = omega (arith, later)

module _ (key : List ℕ) (from to : ℤ) (left older : List Held) (s : Held) (left_is : left ≡ older ++ s ∷ []) where
  all_is : length (newest_first (lists_in left)) ≡ length s.rows + length (newest_first (lists_in older))
  all_is = ap length (newest_is left older s left_is) ∙ length-append s.rows (newest_first (lists_in older))

  within_is : length (rows_within key from to (newest_first (lists_in left))) ≡ length (rows_within key from to s.rows) + length (rows_within key from to (newest_first (lists_in older)))
  within_is =
      ap (λ rs. length (rows_within key from to rs)) (newest_is left older s left_is)
      ∙ (ap length (filter-append (is_within key from to) s.rows (newest_first (lists_in older)))
      ∙ length-append (rows_within key from to s.rows) (rows_within key from to (newest_first (lists_in older))))

  -- one segment more is counted
  pub counted_on : (count here goal : ℕ) → here ≡ length (rows_within key from to s.rows) → count + length (rows_within key from to (newest_first (lists_in left))) ≡ goal → count + here + length (rows_within key from to (newest_first (lists_in older))) ≡ goal
  counted_on count here goal here_is before = omega (arith, here_is, before, within_is)

  pub room_on : (count here : ℕ) → here ≡ length (rows_within key from to s.rows) → count + length (newest_first (lists_in left)) ≤ 2 ^ 32 → count + here < 2 ^ 64
  room_on count here here_is few = omega (arith, here_is, few, all_is, fewer key from to s.rows)

  pub few_on : (count here : ℕ) → here ≡ length (rows_within key from to s.rows) → count + length (newest_first (lists_in left)) ≤ 2 ^ 32 → count + here + length (newest_first (lists_in older)) ≤ 2 ^ 32
  few_on count here here_is few = omega (arith, here_is, few, all_is, fewer key from to s.rows)
