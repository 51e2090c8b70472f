-- Rows in row order, and rows put in order.
use Rattle.std.specs.Prelude.{cond, filter, ◌≡◌, suc, ◌-◌, ◌++◌, length, slice_get, Some, ◌≤ℤ◌, ◌+◌, ◌⊎◌, List, [], ◌∷◌, Bool, true, false, if◌then◌else◌}
use Rattle.std.specs.Cmp.{IsTotalOrder, int_cmp_total, on_total, then_total, back_total}
use Rattle.std.specs.Cmp.Lexicographic.{slice_cmp, nat_list_cmp_total}
use Rattle.std.specs.Ordering.{is_le, is_gt, is_eq, nat_cmp, int_cmp, ordering_then, ordering_reverse}
use Rattle.std.specs.declared.cmp.Ordering.{Ordering}
use Rattle.std.specs.declared.cmp.Ordering.TheVariants.{Less, Equal, Greater}
use Rattle.std.proofs.Common.{refl, ap, ◌∙◌, sym, subst, inl, inr, arith}
use Rattle.std.proofs.lemmas.Cmp.{upto, tied_itself, int_ranked}
use Rattle.std.proofs.lemmas.Int.{ints}
use Rattle.std.proofs.lemmas.Bool.{cond-true, cond-false}
use Rattle.std.proofs.lemmas.Map.Text.{is_eq-slice_cmp}
use Rattle.std.proofs.lemmas.Slice.Eq.{bytes_eq-Decides}
use Rattle.row_cells.specs.declared.rows.Row.{Row}
use Rattle.row_cells.specs.Order.{row_cmp}
use Rattle.row_cells.specs.Each.{Each}
use Rattle.row_cells.specs.EachLaws.{Each-weaker, Each-filter}
use Rattle.row_cells.specs.Sorted.{put, sorted}
use Rattle.row_cells.specs.SortedLaws.{put_each}
use Rattle.row_cells.specs.RowLists.{AreInRowOrder, insert_row, in_row_order, documents}

pub row_cmp_total : IsTotalOrder row_cmp
row_cmp_total = then_total (on_total (λ row. row.key) nat_list_cmp_total) (back_total (on_total (λ row. row.time) int_cmp_total))

-- the second row doesn't stand before the first
abbrev pub IsUpTo : Row → Row → Type 0
IsUpTo a b = is_gt (row_cmp a b) ≡ false

-- rows in row order, of which some may have one series and time
abbrev pub Ascend : List Row → Type 0
Ascend [] = Unit {0}
Ascend (row ∷ rows) = Each (IsUpTo row) rows × Ascend rows

pub upto_chain : (a b c : Row) → IsUpTo a b → IsUpTo b c → IsUpTo a c
upto_chain = upto row_cmp_total

pub upto_of_le : (a b : Row) (o : Ordering) → row_cmp a b ≡ o → is_le o ≡ true → IsUpTo a b
upto_of_le a b Less is le = ap is_gt is
upto_of_le a b Equal is le = ap is_gt is
upto_of_le a b Greater is le = cc

pub upto_of_not_le : (a b : Row) (o : Ordering) → row_cmp a b ≡ o → is_le o ≡ false → IsUpTo b a
upto_of_not_le a b Less is le = cc
upto_of_not_le a b Equal is le = cc
upto_of_not_le a b Greater is le = ap is_gt (row_cmp_total.antisymm b a ∙ ap ordering_reverse is)

le_of_upto : (o : Ordering) → is_gt o ≡ false → is_le o ≡ true
le_of_upto Less is = refl
le_of_upto Equal is = refl
le_of_upto Greater is = cc

-- what it says of keys and times
pub upto_cases : (a b : Row) → IsUpTo a b → (slice_cmp nat_cmp a.key b.key ≡ Less) ⊎ ((a.key ≡ b.key) × (b.time ≤ℤ a.time))
upto_cases a b is = by_key (slice_cmp nat_cmp a.key b.key) refl is
  where
    by_time : (o : Ordering) → o ≡ int_cmp b.time a.time → is_gt o ≡ false → b.time ≤ℤ a.time
    by_time Less same up = let below = int_ranked b.time a.time Less same in omega (arith, ints)
    by_time Equal same up = let tied = int_ranked b.time a.time Equal same in omega (arith, ints)
    by_time Greater same up = cc

    by_key : (o : Ordering) → slice_cmp nat_cmp a.key b.key ≡ o → is_gt (ordering_then o (int_cmp b.time a.time)) ≡ false → (slice_cmp nat_cmp a.key b.key ≡ Less) ⊎ ((a.key ≡ b.key) × (b.time ≤ℤ a.time))
    by_key Less same up = inl same
    by_key Equal same up = inr ((bytes_eq-Decides a.key b.key).0 (sym (is_eq-slice_cmp a.key b.key) ∙ ap is_eq same), by_time (int_cmp b.time a.time) refl up)
    by_key Greater same up = cc

-- and back
pub upto_from : (a b : Row) → (slice_cmp nat_cmp a.key b.key ≡ Less) ⊎ ((a.key ≡ b.key) × (b.time ≤ℤ a.time)) → IsUpTo a b
upto_from a b cases =
    elim cases [
      | inl before ↦ ap (λ o. is_gt (ordering_then o (int_cmp b.time a.time))) before
      | inr tied ↦
          (let same : slice_cmp nat_cmp a.key b.key ≡ Equal = ap (λ k. slice_cmp nat_cmp a.key k) (sym tied.0) ∙ tied_itself nat_list_cmp_total a.key in
          ap (λ o. is_gt (ordering_then o (int_cmp b.time a.time))) same ∙ by_time (int_cmp b.time a.time) refl tied.1)
    ]
  where
    by_time : (o : Ordering) → o ≡ int_cmp b.time a.time → b.time ≤ℤ a.time → is_gt o ≡ false
    by_time Less same le = refl
    by_time Equal same le = refl
    by_time Greater same le = let above = int_ranked b.time a.time Greater same in absurd (omega (arith, ints))

-- rows that the order doesn't tell apart have one place
pub tied_rows : (a b : Row) → row_cmp a b ≡ Equal → (a.key ≡ b.key) × (a.time ≡ b.time)
tied_rows a b same = by_key (slice_cmp nat_cmp a.key b.key) refl same
  where
    by_key : (o : Ordering) → slice_cmp nat_cmp a.key b.key ≡ o → ordering_then o (int_cmp b.time a.time) ≡ Equal → (a.key ≡ b.key) × (a.time ≡ b.time)
    by_key Less is tied = cc
    by_key Equal is tied =
        ((bytes_eq-Decides a.key b.key).0 (sym (is_eq-slice_cmp a.key b.key) ∙ ap is_eq is), sym (int_ranked b.time a.time Equal (sym tied)))
    by_key Greater is tied = cc

-- rows in row order without two of one series and time
pub in_order-ascends : (rows : List Row) → AreInRowOrder rows → Ascend rows
in_order-ascends [] order = tt
in_order-ascends (row ∷ rows) order =
    (Each-weaker (λ r. row_cmp row r ≡ Less) (IsUpTo row) (λ r before. ap is_gt before) rows order.0, in_order-ascends rows order.1)

-- ---- rows put in order

-- rows are put in order as elements of any order are
pub insert_row-put : (row : Row) (rows : List Row) → insert_row row rows ≡ put row_cmp row rows
insert_row-put row [] = refl
insert_row-put row (first ∷ rest) = ap (λ rs. if is_le (row_cmp row first) then row ∷ first ∷ rest else first ∷ rs) (insert_row-put row rest)

pub in_row_order-sorted : (rows : List Row) → in_row_order rows ≡ sorted row_cmp rows
in_row_order-sorted [] = refl
in_row_order-sorted (row ∷ rows) = ap (insert_row row) (in_row_order-sorted rows) ∙ insert_row-put row (sorted row_cmp rows)

pub insert_each : (P : Row → Type 0) (row : Row) (rows : List Row) → P row → Each P rows → Each P (insert_row row rows)
insert_each P row rows here each = subst (Each P) (sym (insert_row-put row rows)) (put_each row_cmp row_cmp_total P row rows here each)

-- rows put in order are the same rows
pub in_row_order-each : (P : Row → Type 0) (rows : List Row) → Each P rows → Each P (in_row_order rows)
in_row_order-each P [] each = tt
in_row_order-each P (row ∷ rows) each = insert_each P row (in_row_order rows) each.0 (in_row_order-each P rows each.1)

insert_ascends : (row : Row) (rows : List Row) → Ascend rows → Ascend (insert_row row rows)
insert_ascends row [] ascend = (tt, tt)
insert_ascends row (first ∷ rest) ascend = by_test (is_le (row_cmp row first)) refl (insert_ascends row rest ascend.1)
  where
    by_test : (b : Bool) → is_le (row_cmp row first) ≡ b → Ascend (insert_row row rest) → Ascend (if b then row ∷ first ∷ rest else first ∷ insert_row row rest)
    by_test true is later =
        let here = upto_of_le row first (row_cmp row first) refl is in
        ((here, Each-weaker (IsUpTo first) (IsUpTo row) (λ next up. upto_chain row first next here up) rest ascend.0), ascend)
    by_test false is later =
        let back = upto_of_not_le row first (row_cmp row first) refl is in
        (insert_each (IsUpTo first) row rest back ascend.0, later)

pub in_row_order-ascends : (rows : List Row) → Ascend (in_row_order rows)
in_row_order-ascends [] = tt
in_row_order-ascends (row ∷ rows) = insert_ascends row (in_row_order rows) (in_row_order-ascends rows)

pub insert_first : (row : Row) (rows : List Row) → Each (IsUpTo row) rows → insert_row row rows ≡ row ∷ rows
insert_first row [] each = refl
insert_first row (first ∷ rest) each = cond-true (is_le (row_cmp row first)) (row ∷ first ∷ rest) (first ∷ insert_row row rest) (le_of_upto (row_cmp row first) each.0)

-- rows in order stay as they are
pub in_row_order-same : (rows : List Row) → Ascend rows → in_row_order rows ≡ rows
in_row_order-same [] ascend = refl
in_row_order-same (row ∷ rows) ascend = ap (insert_row row) (in_row_order-same rows ascend.1) ∙ insert_first row rows ascend.0

insert_counts : (row : Row) (rows : List Row) → documents (insert_row row rows) ≡ row.count + documents rows
insert_counts row [] = refl
insert_counts row (first ∷ rest) = by_test (is_le (row_cmp row first)) (insert_counts row rest)
  where
    by_test : (b : Bool) → documents (insert_row row rest) ≡ row.count + documents rest → documents (if b then row ∷ first ∷ rest else first ∷ insert_row row rest) ≡ row.count + (first.count + documents rest)
    by_test true later = refl
    by_test false later = omega (arith, later)

pub documents-in_row_order : (rows : List Row) → documents (in_row_order rows) ≡ documents rows
documents-in_row_order [] = refl
documents-in_row_order (row ∷ rows) = insert_counts row (in_row_order rows) ∙ ap (λ n. row.count + n) (documents-in_row_order rows)

-- ---- some of the rows, put in order

module _ (test : Row → Bool) where
  insert-filter : (row : Row) (rows : List Row) → Ascend rows → filter test (insert_row row rows) ≡ cond (test row) (insert_row row (filter test rows)) (filter test rows)
  insert-filter row [] ascend = refl
  insert-filter row (first ∷ rest) ascend = by_place (is_le (row_cmp row first)) refl (insert-filter row rest ascend.1)
    where
      by_place : (b : Bool) → is_le (row_cmp row first) ≡ b
          → filter test (insert_row row rest) ≡ cond (test row) (insert_row row (filter test rest)) (filter test rest)
          → filter test (if b then row ∷ first ∷ rest else first ∷ insert_row row rest) ≡ cond (test row) (insert_row row (filter test (first ∷ rest))) (filter test (first ∷ rest))
      by_place true is later =
          let up : IsUpTo row first = upto_of_le row first (row_cmp row first) refl is in
          let all : Each (IsUpTo row) (first ∷ rest) = (up, Each-weaker (IsUpTo first) (IsUpTo row) (λ r next. upto_chain row first r up next) rest ascend.0) in
          ap (λ rs. cond (test row) rs (filter test (first ∷ rest))) (sym (insert_first row (filter test (first ∷ rest)) (Each-filter (IsUpTo row) test (first ∷ rest) all)))
      by_place false is later = by_tests (test row) (test first) (filter test (insert_row row rest)) (filter test rest) later
        where
          by_tests : (a b : Bool) (inserted kept : List Row) → inserted ≡ cond a (insert_row row kept) kept
              → cond b (first ∷ inserted) inserted ≡ cond a (insert_row row (cond b (first ∷ kept) kept)) (cond b (first ∷ kept) kept)
          by_tests true true inserted kept same = ap (λ rs. first ∷ rs) same ∙ sym (cond-false (is_le (row_cmp row first)) (row ∷ first ∷ kept) (first ∷ insert_row row kept) is)
          by_tests true false inserted kept same = same
          by_tests false true inserted kept same = ap (λ rs. first ∷ rs) same
          by_tests false false inserted kept same = same

  pub in_row_order-filter : (rows : List Row) → in_row_order (filter test rows) ≡ filter test (in_row_order rows)
  in_row_order-filter [] = refl
  in_row_order-filter (row ∷ rows) =
      by_test (test row) (in_row_order-filter rows) (insert-filter row (in_row_order rows) (in_row_order-ascends rows))
    where
      by_test : (b : Bool) → in_row_order (filter test rows) ≡ filter test (in_row_order rows)
          → filter test (insert_row row (in_row_order rows)) ≡ cond b (insert_row row (filter test (in_row_order rows))) (filter test (in_row_order rows))
          → in_row_order (cond b (row ∷ filter test rows) (filter test rows)) ≡ filter test (insert_row row (in_row_order rows))
      by_test true later inserted = ap (insert_row row) later ∙ sym inserted
      by_test false later inserted = later ∙ sym inserted

-- ---- rows added at the end

-- what comes behind the last row comes behind all
pub all_before : (rows : List Row) (last row : Row) → AreInRowOrder rows → Some last ≡ slice_get rows (length rows - 1) → row_cmp last row ≡ Less → Each (λ r. row_cmp r row ≡ Less) rows
all_before [] last row order is before = tt
all_before (first ∷ []) last row order is before = (subst (λ r. row_cmp r row ≡ Less) (some_is is) before, tt)
  where
    some_is : Some last ≡ Some first → last ≡ first
    some_is e = cc
all_before (first ∷ next ∷ rest) last row order is before =
    let shorter : length (first ∷ next ∷ rest) - 1 ≡ suc (length (next ∷ rest) - 1) = omega arith in
    let later = all_before (next ∷ rest) last row order.1 (is ∙ ap (slice_get (first ∷ next ∷ rest)) shorter) before in
    (row_cmp_total.trans first next row order.0.0 later.0, later)

pub each_push : (P : Row → Type 0) (rows : List Row) (row : Row) → Each P rows → P row → Each P (rows ++ row ∷ [])
each_push P [] row each here = (here, tt)
each_push P (first ∷ rest) row each here = (each.0, each_push P rest row each.1 here)

pub in_order_push : (rows : List Row) (row : Row) → AreInRowOrder rows → Each (λ r. row_cmp r row ≡ Less) rows → AreInRowOrder (rows ++ row ∷ [])
in_order_push [] row order before = (tt, tt)
in_order_push (first ∷ rest) row order before =
    (each_push (λ r. row_cmp first r ≡ Less) rest row order.0 before.0, in_order_push rest row order.1 before.1)

pub documents-push : (rows : List Row) (row : Row) → documents (rows ++ row ∷ []) ≡ documents rows + row.count
documents-push [] row = omega arith
documents-push (first ∷ rest) row = omega (arith, documents-push rest row)
