-- Bounds on times as the ends of ranges.
use Rattle.std.specs.Prelude.{◌≡◌, ℤ, pos, ◌+ℤ◌, ◌<ℤ◌, ◌≤ℤ◌, int_le, int_lt, Bool, true, false, ◌&&◌, ◌||◌, not, [], ◌∷◌, Option, Some, None}
use Rattle.std.specs.Int.{int_max, int_min}
use Rattle.std.specs.List.{list_any}
use Rattle.std.specs.Cmp.{int_ranks}
use Rattle.std.specs.Ordering.{MatchOrdering, int_cmp, is_eq, ordering_then}
use Rattle.std.specs.declared.cmp.Ordering.{Ordering}
use Rattle.std.specs.declared.cmp.Ordering.TheVariants.{Less, Equal, Greater}
use Rattle.std.proofs.Common.{refl, ap, sym, ◌∙◌, arith}
use Rattle.std.proofs.lemmas.Int.{ints, clamps}
use Rattle.row_cells.specs.declared.scalars.Scalar.{Scalar}
use Rattle.row_cells.specs.declared.scalars.Scalar.TheVariants.{Whole, Flag, Word}
use Rattle.time_text.specs.Instant.{IsInstant}
use Rattle.search_filter.specs.Matching.{is_above, is_below, is_one_of, is_over, is_under}
use Rattle.search_filter.specs.Splitting.{begin_of, cut_time, end_at, end_of, end_of_time, is_between, time_or_next}
use Rattle.search_filter.specs.Values.{value_cmp}
use Rattle.search_filter.specs.declared.query.Bound.{Bound}

pub le_true : (a b : ℤ) → a ≤ℤ b → int_le a b ≡ true
le_true a b is = grind (arith, ints)

le_false : (a b : ℤ) → b <ℤ a → int_le a b ≡ false
le_false a b is = grind (arith, ints)

lt_true : (a b : ℤ) → a <ℤ b → int_lt a b ≡ true
lt_true a b is = grind (arith, ints)

lt_false : (a b : ℤ) → b ≤ℤ a → int_lt a b ≡ false
lt_false a b is = grind (arith, ints)

-- all instants are in the whole range
pub in_time : (t : ℤ) → IsInstant t → is_between (pos 0) end_of_time t ≡ true
in_time t is =
    let from = le_true (pos 0) t (omega (arith, ints, is.0)) in
    let to = lt_true t end_of_time (omega (arith, ints, is.1)) in
    cc

-- where an instant is by an end that was cut
cut_from : (x t : ℤ) → IsInstant t → int_le (cut_time x) t ≡ int_le x t
cut_from x t is = grind (arith, ints, clamps, is.0, is.1)

cut_to : (x t : ℤ) → IsInstant t → int_lt t (cut_time x) ≡ int_lt t x
cut_to x t is = grind (arith, ints, clamps, is.0, is.1)

-- ---- bounds

pub over_by : (t u : ℤ) (inclusive : Bool) (o : Ordering) → MatchOrdering o (t <ℤ u) (t ≡ u) (u <ℤ t) → is_over o inclusive ≡ int_le (time_or_next (not inclusive) u) t
over_by t u true Less is = sym (le_false u t is)
over_by t u true Equal is = sym (le_true u t (omega (arith, ints, is)))
over_by t u true Greater is = sym (le_true u t (omega (arith, ints, is)))
over_by t u false Less is = sym (le_false (u +ℤ pos 1) t (omega (arith, ints, is)))
over_by t u false Equal is = sym (le_false (u +ℤ pos 1) t (omega (arith, ints, is)))
over_by t u false Greater is = sym (le_true (u +ℤ pos 1) t (omega (arith, ints, is)))

pub under_by : (t u : ℤ) (inclusive : Bool) (o : Ordering) → MatchOrdering o (t <ℤ u) (t ≡ u) (u <ℤ t) → is_under o inclusive ≡ int_lt t (time_or_next inclusive u)
under_by t u true Less is = sym (lt_true t (u +ℤ pos 1) (omega (arith, ints, is)))
under_by t u true Equal is = sym (lt_true t (u +ℤ pos 1) (omega (arith, ints, is)))
under_by t u true Greater is = sym (lt_false t (u +ℤ pos 1) (omega (arith, ints, is)))
under_by t u false Less is = sym (lt_true t u is)
under_by t u false Equal is = sym (lt_false t u (omega (arith, ints, is)))
under_by t u false Greater is = sym (lt_false t u (omega (arith, ints, is)))

same_by : (t u : ℤ) (o : Ordering) → MatchOrdering o (t <ℤ u) (t ≡ u) (u <ℤ t) → is_eq o ≡ (is_over o true && is_under o true)
same_by t u Less is = refl
same_by t u Equal is = refl
same_by t u Greater is = refl

then_equal : (o : Ordering) → ordering_then o Equal ≡ o
then_equal Less = refl
then_equal Equal = refl
then_equal Greater = refl

pub wholes : (t u : ℤ) → value_cmp (Whole t) (Whole u) ≡ int_cmp t u
wholes t u = then_equal (int_cmp t u)

-- a time is over a bound where it is in the range that begins there
over_told : (t : ℤ) (inclusive : Bool) (v : Scalar) (from : ℤ) → IsInstant t → end_at (not inclusive) v ≡ Some from → is_over (value_cmp (Whole t) v) inclusive ≡ int_le from t
over_told t inclusive (Whole u) from is told =
    let cut : cut_time (time_or_next (not inclusive) u) ≡ from = cc in
    ap (λ o. is_over o inclusive) (wholes t u)
    ∙ (over_by t u inclusive (int_cmp t u) (int_ranks t u)
    ∙ (sym (cut_from (time_or_next (not inclusive) u) t is) ∙ ap (λ f. int_le f t) cut))
over_told t inclusive (Flag b) from is told = cc
over_told t inclusive (Word w) from is told = cc

under_told : (t : ℤ) (inclusive : Bool) (v : Scalar) (to : ℤ) → IsInstant t → end_at inclusive v ≡ Some to → is_under (value_cmp (Whole t) v) inclusive ≡ int_lt t to
under_told t inclusive (Whole u) to is told =
    let cut : cut_time (time_or_next inclusive u) ≡ to = cc in
    ap (λ o. is_under o inclusive) (wholes t u)
    ∙ (under_by t u inclusive (int_cmp t u) (int_ranks t u)
    ∙ (sym (cut_to (time_or_next inclusive u) t is) ∙ ap (int_lt t) cut))
under_told t inclusive (Flag b) to is told = cc
under_told t inclusive (Word w) to is told = cc

pub above_told : (t : ℤ) (low : Option Bound) (from : ℤ) → IsInstant t → begin_of low ≡ Some from → is_above low (Whole t) ≡ int_le from t
above_told t None from is told =
    let zero_is : pos 0 ≡ from = cc in
    sym (le_true (pos 0) t (omega (arith, ints, is.0))) ∙ ap (λ f. int_le f t) zero_is
above_told t (Some b) from is told = over_told t b.inclusive b.value from is told

pub below_told : (t : ℤ) (high : Option Bound) (to : ℤ) → IsInstant t → end_of high ≡ Some to → is_below high (Whole t) ≡ int_lt t to
below_told t None to is told =
    let end_is : end_of_time ≡ to = cc in
    sym (lt_true t end_of_time (omega (arith, ints, is.1))) ∙ ap (int_lt t) end_is
below_told t (Some b) to is told = under_told t b.inclusive b.value to is told

or_nothing : (b : Bool) → (b || false) ≡ b
or_nothing true = refl
or_nothing false = refl

-- a time is a value where it is in the range of that millisecond
pub same_told : (t : ℤ) (v : Scalar) (from to : ℤ) → IsInstant t → end_at false v ≡ Some from → end_at true v ≡ Some to →
    list_any (is_one_of (v ∷ [])) (Whole t ∷ []) ≡ is_between from to t
same_told t (Whole u) from to is begins ends =
    or_nothing (is_one_of (Whole u ∷ []) (Whole t))
    ∙ (or_nothing (is_eq (value_cmp (Whole t) (Whole u)))
    ∙ (ap is_eq (wholes t u)
    ∙ (same_by t u (int_cmp t u) (int_ranks t u)
    ∙ (ap (λ o. is_over o true && is_under o true) (sym (wholes t u))
    ∙ (ap (λ b. b && is_under (value_cmp (Whole t) (Whole u)) true) (over_told t true (Whole u) from is begins)
    ∙ ap (λ b. int_le from t && b) (under_told t true (Whole u) to is ends))))))
same_told t (Flag b) from to is begins ends = cc
same_told t (Word w) from to is begins ends = cc

-- ---- ranges that meet

pub between_both : (a b c d t : ℤ) → is_between (int_max a b) (int_min c d) t ≡ (is_between a c t && is_between b d t)
between_both a b c d t = between_by (int_le a t) (int_le b t) (int_lt t c) (int_lt t d) (max_le a b t) (lt_min c d t)
  where
    max_le : (a b t : ℤ) → int_le (int_max a b) t ≡ (int_le a t && int_le b t)
    max_le a b t = grind (arith, ints, clamps)

    lt_min : (c d t : ℤ) → int_lt t (int_min c d) ≡ (int_lt t c && int_lt t d)
    lt_min c d t = grind (arith, ints, clamps)

    crossed : (x y z w : Bool) → ((x && y) && (z && w)) ≡ ((x && z) && (y && w))
    crossed true true z w = refl
    crossed true false true w = refl
    crossed true false false w = refl
    crossed false y z w = refl

    between_by : (x y z w : Bool) → int_le (int_max a b) t ≡ (x && y) → int_lt t (int_min c d) ≡ (z && w) → (int_le (int_max a b) t && int_lt t (int_min c d)) ≡ ((x && z) && (y && w))
    between_by x y z w p q = ap (λ m. m && int_lt t (int_min c d)) p ∙ (ap (λ m. (x && y) && m) q ∙ crossed x y z w)
