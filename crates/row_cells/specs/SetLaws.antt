-- Rows put in order depend on which rows there are, and not on how they come.
use Rattle.std.specs.Prelude.{◌≡◌, ◌⊎◌, ◌↔◌, List, [], ◌∷◌, Bool, true, false, if◌then◌else◌}
use Rattle.std.specs.Cmp.{tied_itself}
use Rattle.std.specs.Ordering.{is_le, ordering_reverse}
use Rattle.std.specs.declared.cmp.Ordering.{Ordering}
use Rattle.std.specs.declared.cmp.Ordering.TheVariants.{Less, Equal, Greater}
use Rattle.std.proofs.Common.{refl, ap, ◌∙◌, sym, subst, inl, inr}
use Rattle.row_cells.specs.declared.rows.Row.{Row}
use Rattle.row_cells.specs.Each.{Each}
use Rattle.row_cells.specs.EachLaws.{Each-weaker}
use Rattle.row_cells.specs.Order.{row_cmp}
use Rattle.row_cells.specs.RowLists.{AllAfter, AreInRowOrder, insert_row, in_row_order, IsAmong, AreDistinct}
use Rattle.row_cells.specs.OrderLaws.{row_cmp_total, insert_each, in_row_order-each}

-- ---- the rows that there are

among_insert : (r row : Row) (rows : List Row) → IsAmong r (insert_row row rows) → (row ≡ r) ⊎ IsAmong r rows
among_insert r row [] among = among
among_insert r row (first ∷ rest) among = by_test (is_le (row_cmp row first)) (among_insert r row rest) among
  where
    by_test : (b : Bool) → (IsAmong r (insert_row row rest) → (row ≡ r) ⊎ IsAmong r rest) → IsAmong r (if b then row ∷ first ∷ rest else first ∷ insert_row row rest) → (row ≡ r) ⊎ ((first ≡ r) ⊎ IsAmong r rest)
    by_test true later among = among
    by_test false later among =
        elim among [
          | inl here ↦ inr (inl here)
          | inr there ↦ elim (later there) [
            | inl new ↦ inl new
            | inr old ↦ inr (inr old)
          ]
        ]

insert_among : (r row : Row) (rows : List Row) → (row ≡ r) ⊎ IsAmong r rows → IsAmong r (insert_row row rows)
insert_among r row [] among = among
insert_among r row (first ∷ rest) among = by_test (is_le (row_cmp row first)) (insert_among r row rest) among
  where
    by_test : (b : Bool) → ((row ≡ r) ⊎ IsAmong r rest → IsAmong r (insert_row row rest)) → (row ≡ r) ⊎ ((first ≡ r) ⊎ IsAmong r rest) → IsAmong r (if b then row ∷ first ∷ rest else first ∷ insert_row row rest)
    by_test true later among = among
    by_test false later among =
        elim among [
          | inl new ↦ inr (later (inl new))
          | inr old ↦ elim old [
            | inl here ↦ inl here
            | inr there ↦ inr (later (inr there))
          ]
        ]

pub among_sorted : (r : Row) (rows : List Row) → IsAmong r (in_row_order rows) ↔ IsAmong r rows
among_sorted r [] = (λ among. among, λ among. among)
among_sorted r (row ∷ rows) =
    let later = among_sorted r rows in (
      λ among. elim (among_insert r row (in_row_order rows) among) [ inl new ↦ inl new | inr old ↦ inr (later.0 old) ],
      λ among. insert_among r row (in_row_order rows) (elim among [ inl new ↦ inl new | inr old ↦ inr (later.1 old) ]),
    )

-- ---- distinct rows, sorted

abbrev Apart : Row → Row → Type 0
Apart a b = row_cmp a b ≡ Equal → ⊥

before_of_le : (a b : Row) (o : Ordering) → row_cmp a b ≡ o → is_le o ≡ true → Apart a b → row_cmp a b ≡ Less
before_of_le a b Less is le apart = is
before_of_le a b Equal is le apart = absurd (apart is)
before_of_le a b Greater is le apart = cc

before_of_not_le : (a b : Row) (o : Ordering) → row_cmp a b ≡ o → is_le o ≡ false → row_cmp b a ≡ Less
before_of_not_le a b Less is le = cc
before_of_not_le a b Equal is le = cc
before_of_not_le a b Greater is le = row_cmp_total.antisymm b a ∙ ap ordering_reverse is

insert_distinct : (row : Row) (rows : List Row) → Each (Apart row) rows → AreInRowOrder rows → AreInRowOrder (insert_row row rows)
insert_distinct row [] apart order = (tt, tt)
insert_distinct row (first ∷ rest) apart order = by_test (is_le (row_cmp row first)) refl (insert_distinct row rest apart.1 order.1)
  where
    by_test : (b : Bool) → is_le (row_cmp row first) ≡ b → AreInRowOrder (insert_row row rest) → AreInRowOrder (if b then row ∷ first ∷ rest else first ∷ insert_row row rest)
    by_test true is later =
        let here = before_of_le row first (row_cmp row first) refl is apart.0 in
        ((here, Each-weaker (λ r. row_cmp first r ≡ Less) (λ r. row_cmp row r ≡ Less) (λ r next. row_cmp_total.trans row first r here next) rest order.0), order)
    by_test false is later =
        (insert_each (λ r. row_cmp first r ≡ Less) row rest (before_of_not_le row first (row_cmp row first) refl is) order.0, later)

pub sorted_distinct : (rows : List Row) → AreDistinct rows → AreInRowOrder (in_row_order rows)
sorted_distinct [] distinct = tt
sorted_distinct (row ∷ rows) distinct =
    insert_distinct row (in_row_order rows) (in_row_order-each (Apart row) rows distinct.0) (sorted_distinct rows distinct.1)

-- ---- lists in row order with the same rows are equal

not_before_itself : (row : Row) → row_cmp row row ≡ Less → ⊥
not_before_itself row before = less_not_equal (sym before ∙ tied_itself row_cmp_total row)
  where
    less_not_equal : Less ≡ Equal → ⊥
    less_not_equal e = cc

after_first : (first r : Row) (rows : List Row) → AllAfter first rows → IsAmong r rows → row_cmp first r ≡ Less
after_first first r [] after among = absurd among
after_first first r (row ∷ rows) after among =
    elim among [
      | inl here ↦ subst (λ x. row_cmp first x ≡ Less) here after.0
      | inr there ↦ after_first first r rows after.1 there
    ]

firsts_agree : (x y : Row) (xs ys : List Row) → AllAfter x xs → AllAfter y ys → IsAmong x (y ∷ ys) → IsAmong y (x ∷ xs) → x ≡ y
firsts_agree x y xs ys after_x after_y x_among y_among =
    elim x_among [
      | inl here ↦ sym here
      | inr there ↦ elim y_among [
        | inl same ↦ same
        | inr other ↦ absurd (not_before_itself x (row_cmp_total.trans x y x (after_first x y xs after_x other) (after_first y x ys after_y there)))
      ]
    ]

-- what stands behind the first in one list stands behind it in the other
behind : (x y r : Row) (xs ys : List Row) → AllAfter x xs → x ≡ y → (IsAmong r (x ∷ xs) → IsAmong r (y ∷ ys)) → IsAmong r xs → IsAmong r ys
behind x y r xs ys after same within among =
    elim (within (inr among)) [
      | inl here ↦ absurd (not_before_itself x (subst (λ z. row_cmp x z ≡ Less) (sym (same ∙ here)) (after_first x r xs after among)))
      | inr there ↦ there
    ]

pub same_rows : (xs ys : List Row) → AreInRowOrder xs → AreInRowOrder ys → ((r : Row) → IsAmong r xs ↔ IsAmong r ys) → xs ≡ ys
same_rows [] [] order_x order_y same = refl
same_rows [] (y ∷ ys) order_x order_y same = absurd ((same y).1 (inl refl))
same_rows (x ∷ xs) [] order_x order_y same = absurd ((same x).0 (inl refl))
same_rows (x ∷ xs) (y ∷ ys) order_x order_y same =
    let first : x ≡ y = firsts_agree x y xs ys order_x.0 order_y.0 ((same x).0 (inl refl)) ((same y).1 (inl refl)) in
    cons_eq first (same_rows xs ys order_x.1 order_y.1 (λ r. (behind x y r xs ys order_x.0 first (same r).0, behind y x r ys xs order_y.0 (sym first) (same r).1)))
  where
    cons_eq : {a b : Row} {us vs : List Row} → a ≡ b → us ≡ vs → a ∷ us ≡ b ∷ vs
    cons_eq p q = cc

-- the rows of a list in row order, put in order from any order
pub sorted_is : (rows others : List Row) → AreDistinct rows → AreInRowOrder others → ((r : Row) → IsAmong r rows ↔ IsAmong r others) → in_row_order rows ≡ others
sorted_is rows others distinct order same =
    same_rows (in_row_order rows) others (sorted_distinct rows distinct) order
    (λ r. (λ among. (same r).0 ((among_sorted r rows).0 among), λ among. (among_sorted r rows).1 ((same r).1 among)))
