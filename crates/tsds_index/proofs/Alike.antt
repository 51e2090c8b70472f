-- Lists of rows that are put in order alike, and what is the same of such lists.
use Rattle.std.specs.Prelude.{◌≡◌, ℕ, ℤ, Bool, true, false, cond, List, [], ◌∷◌, ◌++◌, length, filter, if◌then◌else◌}
use Rattle.std.specs.Ordering.{is_le, ordering_reverse}
use Rattle.std.specs.declared.cmp.Ordering.TheVariants.{Equal}
use Rattle.std.proofs.Common.{refl, ap, sym, subst, ◌∙◌}
use Rattle.row_cells.specs.declared.rows.Row.{Row}
use Rattle.row_cells.specs.Each.{Each}
use Rattle.row_cells.specs.EachLaws.{Each-filter, Each-weaker}
use Rattle.row_cells.specs.Order.{row_cmp}
use Rattle.row_cells.specs.OrderLaws.{Ascend, IsUpTo, documents-in_row_order, in_row_order-ascends, in_row_order-each, insert_first, row_cmp_total, upto_chain, upto_of_le}
use Rattle.row_cells.specs.PlaceLaws.{has_place-in_row_order, in_order-distinct, in_row_order-append_left, in_row_order-append_right, length-in_row_order}
use Rattle.row_cells.specs.RowLists.{AreDistinct, documents, has_place, in_row_order, insert_row}
use Rattle.row_cells.specs.SetLaws.{sorted_distinct}

-- ---- rows put in order and back

each_of_insert : (P : Row → Type 0) (x : Row) (ys : List Row) → Each P (insert_row x ys) → Each P (x ∷ ys)
each_of_insert P x [] each = each
each_of_insert P x (y ∷ ys) each = by_test (is_le (row_cmp x y)) (each_of_insert P x ys) each
  where
    by_test : (b : Bool) → (Each P (insert_row x ys) → Each P (x ∷ ys)) → Each P (if b then x ∷ y ∷ ys else y ∷ insert_row x ys) → Each P (x ∷ y ∷ ys)
    by_test true later each = each
    by_test false later each = let rest = later each.1 in (rest.0, (each.0, rest.1))

pub each_of_sorted : (P : Row → Type 0) (xs : List Row) → Each P (in_row_order xs) → Each P xs
each_of_sorted P [] each = tt
each_of_sorted P (x ∷ xs) each = let parts = each_of_insert P x (in_row_order xs) each in (parts.0, each_of_sorted P xs parts.1)

abbrev IsUntied : Row → Row → Type 0
IsUntied row other = row_cmp row other ≡ Equal → ⊥

flipped : (a b : Row) → IsUntied a b → IsUntied b a
flipped a b apart tied = apart (row_cmp_total.antisymm a b ∙ ap ordering_reverse tied)

distinct_of_insert : (x : Row) (ys : List Row) → AreDistinct (insert_row x ys) → AreDistinct (x ∷ ys)
distinct_of_insert x [] distinct = distinct
distinct_of_insert x (y ∷ ys) distinct = by_test (is_le (row_cmp x y)) (distinct_of_insert x ys) distinct
  where
    by_test : (b : Bool) → (AreDistinct (insert_row x ys) → AreDistinct (x ∷ ys)) → AreDistinct (if b then x ∷ y ∷ ys else y ∷ insert_row x ys) → AreDistinct (x ∷ y ∷ ys)
    by_test true later distinct = distinct
    by_test false later distinct =
        let rest = later distinct.1 in
        let first = each_of_insert (IsUntied y) x ys distinct.0 in
        ((flipped y x first.0, rest.0), (first.1, rest.1))

pub distinct_of_sorted : (xs : List Row) → AreDistinct (in_row_order xs) → AreDistinct xs
distinct_of_sorted [] distinct = tt
distinct_of_sorted (x ∷ xs) distinct =
    let parts = distinct_of_insert x (in_row_order xs) distinct in
    (each_of_sorted (IsUntied x) xs parts.0, distinct_of_sorted xs parts.1)

-- ---- lists that are put in order alike

abbrev pub Alike : List Row → List Row → Type 0
Alike xs ys = in_row_order xs ≡ in_row_order ys

pub alike_each : (P : Row → Type 0) (xs ys : List Row) → Alike xs ys → Each P ys → Each P xs
alike_each P xs ys alike each = each_of_sorted P xs (subst (Each P) (sym alike) (in_row_order-each P ys each))

pub alike_distinct : (xs ys : List Row) → Alike xs ys → AreDistinct ys → AreDistinct xs
alike_distinct xs ys alike distinct = distinct_of_sorted xs (subst AreDistinct (sym alike) (in_order-distinct (in_row_order ys) (sorted_distinct ys distinct)))

pub alike_documents : (xs ys : List Row) → Alike xs ys → documents xs ≡ documents ys
alike_documents xs ys alike = sym (documents-in_row_order xs) ∙ (ap documents alike ∙ documents-in_row_order ys)

pub alike_length : (xs ys : List Row) → Alike xs ys → length xs ≡ length ys
alike_length xs ys alike = sym (length-in_row_order xs) ∙ (ap length alike ∙ length-in_row_order ys)

pub alike_place : (key : List ℕ) (time : ℤ) (xs ys : List Row) → Alike xs ys → has_place key time xs ≡ has_place key time ys
alike_place key time xs ys alike = sym (has_place-in_row_order key time xs) ∙ (ap (has_place key time) alike ∙ has_place-in_row_order key time ys)

pub alike_behind : (xs ys zs : List Row) → Alike ys zs → Alike (xs ++ ys) (xs ++ zs)
alike_behind xs ys zs alike =
    sym (in_row_order-append_right xs ys) ∙ (ap (λ rows. in_row_order (xs ++ rows)) alike ∙ in_row_order-append_right xs zs)

pub alike_front : (xs ys zs : List Row) → Alike xs ys → Alike (xs ++ zs) (ys ++ zs)
alike_front xs ys zs alike =
    sym (in_row_order-append_left xs zs) ∙ (ap (λ rows. in_row_order (rows ++ zs)) alike ∙ in_row_order-append_left ys zs)

-- ---- rows chosen by a test

module _ (test : Row → Bool) where
  put_late : (x y : Row) (ys : List Row) → is_le (row_cmp x y) ≡ false → insert_row x (y ∷ ys) ≡ y ∷ insert_row x ys
  put_late x y ys is = rw is refl

  filter-insert : (x : Row) (ys : List Row) → Ascend ys → filter test (insert_row x ys) ≡ cond (test x) (insert_row x (filter test ys)) (filter test ys)
  filter-insert x [] up = refl
  filter-insert x (y ∷ ys) up = by_order (is_le (row_cmp x y)) refl (filter-insert x ys up.1)
    where
      first : is_le (row_cmp x y) ≡ true → Each (IsUpTo x) (y ∷ ys)
      first is =
          let here = upto_of_le x y (row_cmp x y) refl is in
          (here, Each-weaker (IsUpTo y) (IsUpTo x) (λ z next. upto_chain x y z here next) ys up.0)

      both : (a b : Bool) → is_le (row_cmp x y) ≡ false → cond b (y ∷ cond a (insert_row x (filter test ys)) (filter test ys)) (cond a (insert_row x (filter test ys)) (filter test ys)) ≡ cond a (insert_row x (cond b (y ∷ filter test ys) (filter test ys))) (cond b (y ∷ filter test ys) (filter test ys))
      both true true is = sym (put_late x y (filter test ys) is)
      both true false is = refl
      both false true is = refl
      both false false is = refl

      by_order : (b : Bool) → is_le (row_cmp x y) ≡ b → filter test (insert_row x ys) ≡ cond (test x) (insert_row x (filter test ys)) (filter test ys)
          → filter test (if b then x ∷ y ∷ ys else y ∷ insert_row x ys) ≡ cond (test x) (insert_row x (filter test (y ∷ ys))) (filter test (y ∷ ys))
      by_order true is later = ap (λ rows. cond (test x) rows (filter test (y ∷ ys))) (sym (insert_first x (filter test (y ∷ ys)) (Each-filter (IsUpTo x) test (y ∷ ys) (first is))))
      by_order false is later = ap (λ rows. cond (test y) (y ∷ rows) rows) later ∙ both (test x) (test y) is

  pub filter-in_row_order : (xs : List Row) → filter test (in_row_order xs) ≡ in_row_order (filter test xs)
  filter-in_row_order [] = refl
  filter-in_row_order (x ∷ xs) = filter-insert x (in_row_order xs) (in_row_order-ascends xs) ∙ by_test (test x) (filter-in_row_order xs)
    where
      by_test : (b : Bool) → filter test (in_row_order xs) ≡ in_row_order (filter test xs) → cond b (insert_row x (filter test (in_row_order xs))) (filter test (in_row_order xs)) ≡ in_row_order (cond b (x ∷ filter test xs) (filter test xs))
      by_test true later = ap (insert_row x) later
      by_test false later = later
