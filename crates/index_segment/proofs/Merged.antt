-- Two lists of rows in row order as one, row by row.
use Rattle.std.specs.Prelude.{◌≡◌, ℕ, ◌+◌, cond, List, [], ◌∷◌, ◌++◌, length}
use Rattle.std.specs.Ordering.{nat_cmp, is_le, ordering_reverse}
use Rattle.std.specs.Cmp.Lexicographic.{slice_cmp}
use Rattle.std.specs.declared.cmp.Ordering.{Ordering}
use Rattle.std.specs.declared.cmp.Ordering.TheVariants.{Less, Equal, Greater}
use Rattle.std.proofs.Common.{refl, ap, ◌∙◌, arith}
use Rattle.row_cells.specs.declared.rows.Row.{Row}
use Rattle.row_cells.specs.Each.{Each}
use Rattle.row_cells.specs.EachLaws.{Each-weaker}
use Rattle.row_cells.specs.Order.{row_cmp}
use Rattle.row_cells.specs.RowLists.{AllAfter, AreInRowOrder, documents, in_row_order, insert_row, AreApart}
use Rattle.index_segment.specs.Merging.{by_order}
use Rattle.row_cells.specs.OrderLaws.{IsUpTo, row_cmp_total, upto_of_le, insert_first, in_row_order-same, in_order-ascends}

abbrev pub key_cmp : List ℕ → List ℕ → Ordering
key_cmp = slice_cmp nat_cmp

-- the rows of both, the earlier one in row order first
abbrev pub merged : List Row → List Row → List Row
merged [] ys = ys
merged (x ∷ xs) [] = x ∷ xs
merged (x ∷ xs) (y ∷ ys) = by_order (row_cmp x y) (x ∷ merged xs (y ∷ ys)) (y ∷ merged (x ∷ xs) ys) (y ∷ merged (x ∷ xs) ys)

pub merged_nothing : (xs : List Row) → merged xs [] ≡ xs
merged_nothing [] = refl
merged_nothing (x ∷ xs) = refl

-- which row comes first, by cases
pub first_of : {A : Type 0} (o : Ordering) (a b : A) → o ≡ Less → by_order o a b b ≡ a
first_of o a b is = ap (λ o. by_order o a b b) is

pub second_of : {A : Type 0} (o : Ordering) (a b : A) → (o ≡ Less → ⊥) → by_order o a b b ≡ b
second_of Less a b not = absurd (not refl)
second_of Equal a b not = refl
second_of Greater a b not = refl

turned : (x y : Row) → row_cmp x y ≡ Less → row_cmp y x ≡ Greater
turned x y less = row_cmp_total.antisymm y x ∙ ap ordering_reverse less

-- ---- what holds of the rows of both

pub merged_each : (P : Row → Type 0) (xs ys : List Row) → Each P xs → Each P ys → Each P (merged xs ys)
merged_each P [] ys each each_too = each_too
merged_each P (x ∷ xs) [] each each_too = each
merged_each P (x ∷ xs) (y ∷ ys) each each_too = go (row_cmp x y) (merged_each P xs (y ∷ ys) each.1 each_too) (merged_each P (x ∷ xs) ys each each_too.1)
  where
    go : (o : Ordering) → Each P (merged xs (y ∷ ys)) → Each P (merged (x ∷ xs) ys) → Each P (by_order o (x ∷ merged xs (y ∷ ys)) (y ∷ merged (x ∷ xs) ys) (y ∷ merged (x ∷ xs) ys))
    go Less left right = (each.0, left)
    go Equal left right = (each_too.0, right)
    go Greater left right = (each_too.0, right)

pub merged_documents : (xs ys : List Row) → documents (merged xs ys) ≡ documents xs + documents ys
merged_documents [] ys = omega arith
merged_documents (x ∷ xs) [] = omega arith
merged_documents (x ∷ xs) (y ∷ ys) = go (row_cmp x y) (merged_documents xs (y ∷ ys)) (merged_documents (x ∷ xs) ys)
  where
    go : (o : Ordering) → documents (merged xs (y ∷ ys)) ≡ documents xs + documents (y ∷ ys) → documents (merged (x ∷ xs) ys) ≡ documents (x ∷ xs) + documents ys → documents (by_order o (x ∷ merged xs (y ∷ ys)) (y ∷ merged (x ∷ xs) ys) (y ∷ merged (x ∷ xs) ys)) ≡ documents (x ∷ xs) + documents (y ∷ ys)
    go Less left right = omega (arith, left)
    go Equal left right = omega (arith, right)
    go Greater left right = omega (arith, right)

pub merged_length : (xs ys : List Row) → length (merged xs ys) ≡ length xs + length ys
merged_length [] ys = omega arith
merged_length (x ∷ xs) [] = omega arith
merged_length (x ∷ xs) (y ∷ ys) = go (row_cmp x y) (merged_length xs (y ∷ ys)) (merged_length (x ∷ xs) ys)
  where
    go : (o : Ordering) → length (merged xs (y ∷ ys)) ≡ length xs + length (y ∷ ys) → length (merged (x ∷ xs) ys) ≡ length (x ∷ xs) + length ys → length (by_order o (x ∷ merged xs (y ∷ ys)) (y ∷ merged (x ∷ xs) ys) (y ∷ merged (x ∷ xs) ys)) ≡ length (x ∷ xs) + length (y ∷ ys)
    go Less left right = omega (arith, left)
    go Equal left right = omega (arith, right)
    go Greater left right = omega (arith, right)

all_after : (x y : Row) (rows : List Row) → row_cmp x y ≡ Less → AllAfter y rows → AllAfter x rows
all_after x y rows less after = Each-weaker (λ next. row_cmp y next ≡ Less) (λ next. row_cmp x next ≡ Less) (λ z is. row_cmp_total.trans x y z less is) rows after

-- ---- order

tails_apart : (xs : List Row) (y : Row) (ys : List Row) → AreApart xs (y ∷ ys) → AreApart xs ys
tails_apart xs y ys apart = Each-weaker (λ x. Each (λ z. row_cmp x z ≡ Equal → ⊥) (y ∷ ys)) (λ x. Each (λ z. row_cmp x z ≡ Equal → ⊥) ys) (λ x each. each.1) xs apart

pub merged_in_order : (xs ys : List Row) → AreInRowOrder xs → AreInRowOrder ys → AreApart xs ys → AreInRowOrder (merged xs ys)
merged_in_order [] ys ordered ordered_too differ = ordered_too
merged_in_order (x ∷ xs) [] ordered ordered_too differ = ordered
merged_in_order (x ∷ xs) (y ∷ ys) ordered ordered_too differ = go (row_cmp x y) refl (merged_in_order xs (y ∷ ys) ordered.1 ordered_too differ.1) (merged_in_order (x ∷ xs) ys ordered ordered_too.1 (tails_apart (x ∷ xs) y ys differ))
  where
    go : (o : Ordering) → row_cmp x y ≡ o → AreInRowOrder (merged xs (y ∷ ys)) → AreInRowOrder (merged (x ∷ xs) ys) → AreInRowOrder (by_order o (x ∷ merged xs (y ∷ ys)) (y ∷ merged (x ∷ xs) ys) (y ∷ merged (x ∷ xs) ys))
    go Less is left right = (merged_each (λ next. row_cmp x next ≡ Less) xs (y ∷ ys) ordered.0 (is, all_after x y ys is ordered_too.0), left)
    go Equal is left right = absurd (differ.0.0 is)
    go Greater is left right =
        let before : row_cmp y x ≡ Less = row_cmp_total.antisymm y x ∙ ap ordering_reverse is in
        (merged_each (λ next. row_cmp y next ≡ Less) (x ∷ xs) ys (before, all_after y x xs before ordered.0) ordered_too.0, right)

-- ---- the rows of both, sorted

insert_front : (x : Row) (rows : List Row) → AllAfter x rows → insert_row x rows ≡ x ∷ rows
insert_front x rows after = insert_first x rows (Each-weaker (λ next. row_cmp x next ≡ Less) (IsUpTo x) (λ next less. upto_of_le x next Less less refl) rows after)

-- where all of the first list stand behind a row of the second, that comes first
pub second_first : (xs : List Row) (y : Row) (ys : List Row) → AllAfter y xs → merged xs (y ∷ ys) ≡ y ∷ merged xs ys
second_first [] y ys after = refl
second_first (x ∷ xs) y ys after = ap (λ o. by_order o (x ∷ merged xs (y ∷ ys)) (y ∷ merged (x ∷ xs) ys) (y ∷ merged (x ∷ xs) ys)) (turned y x after.0)

inserted : (x : Row) (xs ys : List Row) → AllAfter x xs → Each (λ z. row_cmp x z ≡ Equal → ⊥) ys → AreInRowOrder ys → insert_row x (merged xs ys) ≡ merged (x ∷ xs) ys
inserted x xs [] after differs ordered = ap (insert_row x) (merged_nothing xs) ∙ insert_front x xs after
inserted x xs (y ∷ ys) after differs ordered = go (row_cmp x y) refl (inserted x xs ys after differs.1 ordered.1)
  where
    go : (o : Ordering) → row_cmp x y ≡ o → insert_row x (merged xs ys) ≡ merged (x ∷ xs) ys → insert_row x (merged xs (y ∷ ys)) ≡ by_order o (x ∷ merged xs (y ∷ ys)) (y ∷ merged (x ∷ xs) ys) (y ∷ merged (x ∷ xs) ys)
    go Less is rest = insert_front x (merged xs (y ∷ ys)) (merged_each (λ next. row_cmp x next ≡ Less) xs (y ∷ ys) after (is, all_after x y ys is ordered.0))
    go Equal is rest = absurd (differs.0 is)
    go Greater is rest =
        let before : row_cmp y x ≡ Less = row_cmp_total.antisymm y x ∙ ap ordering_reverse is in
        ap (insert_row x) (second_first xs y ys (all_after y x xs before after))
        ∙ (ap (λ o. cond (is_le o) (x ∷ y ∷ merged xs ys) (y ∷ insert_row x (merged xs ys))) is
        ∙ ap (λ rows. y ∷ rows) rest)

pub merged_sorted : (xs ys : List Row) → AreInRowOrder xs → AreInRowOrder ys → AreApart xs ys → in_row_order (xs ++ ys) ≡ merged xs ys
merged_sorted [] ys ordered ordered_too differ = in_row_order-same ys (in_order-ascends ys ordered_too)
merged_sorted (x ∷ xs) ys ordered ordered_too differ = ap (insert_row x) (merged_sorted xs ys ordered.1 ordered_too differ.1) ∙ inserted x xs ys ordered.0 differ.0 ordered_too
