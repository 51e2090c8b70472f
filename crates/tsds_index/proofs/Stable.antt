-- What a stable sort of distinct rows leaves is the rows in row order.
use Rattle.std.specs.Prelude.{◌≡◌, suc, ◌+◌, ◌&&◌, not, Bool, true, false, cond, List, [], ◌∷◌, filter}
use Rattle.std.specs.Cmp.{tied_itself}
use Rattle.std.specs.List.Sorted.{IsSorted, IsStable, ties}
use Rattle.std.specs.Ordering.{is_gt, is_lt, ordering_reverse}
use Rattle.std.specs.declared.cmp.Ordering.{Ordering}
use Rattle.std.specs.declared.cmp.Ordering.TheVariants.{Less, Equal, Greater}
use Rattle.std.proofs.Common.{refl, ap, sym, subst, ◌∙◌, arith, get_or}
use Rattle.row_cells.specs.declared.rows.Row.{Row}
use Rattle.row_cells.specs.Each.{Each}
use Rattle.row_cells.specs.EachLaws.{Each-weaker, filter_none}
use Rattle.row_cells.specs.Order.{row_cmp}
use Rattle.row_cells.specs.OrderLaws.{Ascend, IsUpTo, in_row_order-ascends, row_cmp_total, tied_rows, upto_chain}
use Rattle.row_cells.specs.PlaceLaws.{tied_from}
use Rattle.row_cells.specs.RangeLaws.{passing}
use Rattle.row_cells.specs.RowLists.{AreDistinct, in_row_order}
use Rattle.tsds_index.proofs.Alike.{filter-in_row_order}
use Rattle.tsds_index.proofs.Answered.{distinct-filter}

-- ---- rows sorted

upto_of_not_lt : (x y : Row) → is_lt (row_cmp y x) ≡ false → IsUpTo x y
upto_of_not_lt x y is = by_order (row_cmp y x) refl is
  where
    by_order : (o : Ordering) → row_cmp y x ≡ o → is_lt o ≡ false → IsUpTo x y
    by_order Less o_is less = cc
    by_order Equal o_is less = ap is_gt (row_cmp_total.antisymm x y ∙ ap ordering_reverse o_is)
    by_order Greater o_is less = ap is_gt (row_cmp_total.antisymm x y ∙ ap ordering_reverse o_is)

from_sorted : (xs : List Row) → IsSorted row_cmp xs → Ascend xs
from_sorted [] up = tt
from_sorted (x ∷ []) up = (tt, tt)
from_sorted (x ∷ y ∷ ys) up =
    let rest : Ascend (y ∷ ys) = from_sorted (y ∷ ys) (λ k d low high. let on : suc k + 1 ≡ suc (k + 1) = omega arith in subst (λ n. is_lt (row_cmp (get_or (x ∷ y ∷ ys) n d) (get_or (y ∷ ys) k d)) ≡ false) on (up (suc k) d (omega arith) (omega arith))) in
    let first : IsUpTo x y = upto_of_not_lt x y (up 0 x (omega arith) (omega arith)) in
    ((first, Each-weaker (IsUpTo y) (IsUpTo x) (λ z next. upto_chain x y z first next) ys rest.0), rest)

-- ---- rows that the order doesn't tell apart

abbrev tie : Row → Row → Bool
tie x y = ties (λ a b. is_lt (row_cmp a b)) x y

tie_equal : (x y : Row) → row_cmp x y ≡ Equal → tie x y ≡ true
tie_equal x y is =
    let back : row_cmp y x ≡ Equal = row_cmp_total.antisymm y x ∙ ap ordering_reverse is in
    ap (λ o. not (is_lt o) && not (is_lt (row_cmp y x))) is ∙ ap (λ o. not (is_lt o)) back

tie_less : (x y : Row) → row_cmp x y ≡ Less → tie x y ≡ false
tie_less x y is = ap (λ o. not (is_lt o) && not (is_lt (row_cmp y x))) is

tied_of : (x y : Row) → tie x y ≡ true → row_cmp x y ≡ Equal
tied_of x y is = by_order (row_cmp x y) (row_cmp y x) refl refl is
  where
    by_order : (o p : Ordering) → row_cmp x y ≡ o → row_cmp y x ≡ p → (not (is_lt o) && not (is_lt p)) ≡ true → row_cmp x y ≡ Equal
    by_order Less p o_is p_is test = cc
    by_order Equal p o_is p_is test = o_is
    by_order Greater Less o_is p_is test = cc
    by_order Greater Equal o_is p_is test = cc (row_cmp_total.antisymm x y ∙ ap ordering_reverse p_is)
    by_order Greater Greater o_is p_is test = cc (row_cmp_total.antisymm x y ∙ ap ordering_reverse p_is)

-- rows that no order tells from one are one at most, where they are distinct
one_tied : (x : Row) (rows : List Row) → AreDistinct rows → Each (λ r. tie x r ≡ true) rows → in_row_order rows ≡ rows
one_tied x [] distinct each = refl
one_tied x (r ∷ []) distinct each = refl
one_tied x (r ∷ s ∷ rows) distinct each =
    let first = tied_rows x r (tied_of x r each.0) in
    let second = tied_rows x s (tied_of x s each.1.0) in
    absurd (distinct.0.0 (tied_from r s (sym first.0 ∙ second.0) (sym first.1 ∙ second.1)))

-- ---- lists that ascend

less_upto : (x y z : Row) → row_cmp x y ≡ Less → IsUpTo y z → row_cmp x z ≡ Less
less_upto x y z less up = by_order (row_cmp y z) refl up
  where
    by_order : (o : Ordering) → row_cmp y z ≡ o → is_gt o ≡ false → row_cmp x z ≡ Less
    by_order Less is le = row_cmp_total.trans x y z less is
    by_order Equal is le =
        row_cmp_total.antisymm x z ∙ (ap ordering_reverse (sym (row_cmp_total.congr y z x is)) ∙ (sym (row_cmp_total.antisymm x y) ∙ less))
    by_order Greater is le = cc

none_tied : (y z : Row) (zs : List Row) → row_cmp y z ≡ Less → Each (IsUpTo z) zs → filter (tie y) (z ∷ zs) ≡ []
none_tied y z zs less after =
    filter_none (tie y) (z ∷ zs) (tie_less y z less, Each-weaker (IsUpTo z) (λ w. tie y w ≡ false) (λ w up. tie_less y w (less_upto y z w less up)) zs after)

itself : (y : Row) (ys : List Row) → filter (tie y) (y ∷ ys) ≡ y ∷ filter (tie y) ys
itself y ys = ap (λ b. cond b (y ∷ filter (tie y) ys) (filter (tie y) ys)) (tie_equal y y (tied_itself row_cmp_total y))

not_empty : (y : Row) (ys : List Row) → y ∷ ys ≡ [] → ⊥
not_empty y ys e = cc

same_ascending : (ys zs : List Row) → Ascend ys → Ascend zs → ((x : Row) → filter (tie x) ys ≡ filter (tie x) zs) → ys ≡ zs
same_ascending [] [] up_y up_z same = refl
same_ascending [] (z ∷ zs) up_y up_z same = absurd (not_empty z (filter (tie z) zs) (sym (itself z zs) ∙ sym (same z)))
same_ascending (y ∷ ys) [] up_y up_z same = absurd (not_empty y (filter (tie y) ys) (sym (itself y ys) ∙ same y))
same_ascending (y ∷ ys) (z ∷ zs) up_y up_z same = by_order (row_cmp y z) refl (same_ascending ys zs up_y.1 up_z.1)
  where
    heads : row_cmp y z ≡ Equal → y ∷ filter (tie y) ys ≡ z ∷ filter (tie y) zs
    heads is = sym (itself y ys) ∙ (same y ∙ ap (λ b. cond b (z ∷ filter (tie y) zs) (filter (tie y) zs)) (tie_equal y z is))

    first : row_cmp y z ≡ Equal → y ≡ z
    first is = let both = heads is in cc

    tails : (x : Row) → y ≡ z → (b : Bool) → tie x z ≡ b → cond b (y ∷ filter (tie x) ys) (filter (tie x) ys) ≡ cond b (z ∷ filter (tie x) zs) (filter (tie x) zs) → filter (tie x) ys ≡ filter (tie x) zs
    tails x is true test both = cc
    tails x is false test both = both

    by_order : (o : Ordering) → row_cmp y z ≡ o → (((x : Row) → filter (tie x) ys ≡ filter (tie x) zs) → ys ≡ zs) → y ∷ ys ≡ z ∷ zs
    by_order Less is later = absurd (not_empty y (filter (tie y) ys) (sym (itself y ys) ∙ (same y ∙ none_tied y z zs is up_z.0)))
    by_order Greater is later =
        absurd (not_empty z (filter (tie z) zs) (sym (itself z zs) ∙ (sym (same z) ∙ none_tied z y ys (row_cmp_total.antisymm z y ∙ ap ordering_reverse is) up_y.0)))
    by_order Equal is later =
        let one : y ≡ z = first is in
        let rest : ys ≡ zs = later (λ x. tails x one (tie x z) refl (ap (λ r. cond (tie x r) (y ∷ filter (tie x) ys) (filter (tie x) ys)) (sym one) ∙ same x)) in
        cc

pub stable_order : (xs ys : List Row) → IsSorted row_cmp ys → IsStable row_cmp xs ys → AreDistinct xs → ys ≡ in_row_order xs
stable_order xs ys sorted stable distinct =
    same_ascending ys (in_row_order xs) (from_sorted ys sorted) (in_row_order-ascends xs)
    (λ x. stable x ∙ sym (filter-in_row_order (tie x) xs ∙ one_tied x (filter (tie x) xs) (distinct-filter (tie x) xs distinct) (passing (tie x) xs)))
