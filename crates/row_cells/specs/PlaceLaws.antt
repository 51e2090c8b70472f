-- Places of rows, rows put in order behind others, and lists of rows joined in any spread.
use Rattle.std.specs.Prelude.{◌≡◌, ◌⊎◌, ◌↔◌, ℕ, ℤ, suc, ◌+◌, ◌&&◌, ◌||◌, not, cond, Bool, true, false, List, [], ◌∷◌, ◌++◌, length, filter, if◌then◌else◌}
use Rattle.std.specs.List.{list_any}
use Rattle.std.specs.Cmp.{tied_itself}
use Rattle.std.specs.Str.{bytes_eq}
use Rattle.std.specs.Cmp.Lexicographic.{slice_cmp}
use Rattle.std.specs.Ordering.{is_le, is_gt, int_cmp, int_eq, nat_cmp, ordering_reverse, ordering_then}
use Rattle.std.specs.declared.cmp.Ordering.{Ordering}
use Rattle.std.specs.declared.cmp.Ordering.TheVariants.{Less, Equal, Greater}
use Rattle.std.proofs.Common.{refl, ap, ◌∙◌, sym, inl, inr, arith, add_assoc}
use Rattle.std.proofs.lemmas.Bool.{and_from, both_ways}
use Rattle.std.proofs.lemmas.Bool.Decides.{Decides-int_eq}
use Rattle.std.proofs.lemmas.Slice.Eq.{bytes_eq-Decides}
use Rattle.row_cells.specs.declared.rows.Row.{Row}
use Rattle.row_cells.specs.Each.{Each}
use Rattle.row_cells.specs.EachLaws.{Each-filter, Each-weaker}
use Rattle.row_cells.specs.Order.{row_cmp}
use Rattle.row_cells.specs.RowLists.{AreApart, AreInRowOrder, AreDistinct, IsAmong, has_place, insert_row, in_row_order, documents}
use Rattle.row_cells.specs.Sorted.{put}
use Rattle.row_cells.specs.SortedLaws.{put_both}
use Rattle.row_cells.specs.OrderLaws.{IsUpTo, insert_first, insert_row-put, row_cmp_total, tied_rows, in_order-ascends, in_row_order-ascends, in_row_order-same}
use Rattle.row_cells.specs.SetLaws.{among_sorted, sorted_is, sorted_distinct}

-- rows in row order stay as they are
abbrev pub InOrderStays : Type 0
InOrderStays = (rows : List Row) → AreInRowOrder rows → in_row_order rows ≡ rows

pub in_order_stays : InOrderStays
in_order_stays rows order = in_row_order-same rows (in_order-ascends rows order)

-- rows in row order are distinct
pub in_order-distinct : (rows : List Row) → AreInRowOrder rows → AreDistinct rows
in_order-distinct [] order = tt
in_order-distinct (row ∷ rows) order =
    (Each-weaker (λ r. row_cmp row r ≡ Less) (λ r. row_cmp row r ≡ Equal → ⊥) (λ r before tied. less_not_equal (sym before ∙ tied)) rows order.0, in_order-distinct rows order.1)
  where
    less_not_equal : Less ≡ Equal → ⊥
    less_not_equal e = cc

-- ---- free places

-- a free place is that of no row
pub free_apart : (row : Row) (rows : List Row) → has_place row.key row.time rows ≡ false → Each (λ other. row_cmp other row ≡ Equal → ⊥) rows
free_apart row [] free = tt
free_apart row (first ∷ rest) free = by_test (bytes_eq first.key row.key && int_eq first.time row.time) refl (free_apart row rest) free
  where
    by_test : (b : Bool) → (bytes_eq first.key row.key && int_eq first.time row.time) ≡ b → (has_place row.key row.time rest ≡ false → Each (λ other. row_cmp other row ≡ Equal → ⊥) rest) → (b || has_place row.key row.time rest) ≡ false → Each (λ other. row_cmp other row ≡ Equal → ⊥) (first ∷ rest)
    by_test true is later free = cc
    by_test false is later free = (
      λ tied. let same = tied_rows first row tied in
          both_ways (bytes_eq first.key row.key && int_eq first.time row.time) is
          (and_from (bytes_eq first.key row.key) (int_eq first.time row.time) ((bytes_eq-Decides first.key row.key).1 same.0) ((Decides-int_eq first.time row.time).1 same.1)),
      later free,
    )

flipped : (a b : Row) → (row_cmp a b ≡ Equal → ⊥) → row_cmp b a ≡ Equal → ⊥
flipped a b apart tied = apart (row_cmp_total.antisymm a b ∙ ap ordering_reverse tied)

-- ---- joined lists

pub among_append : (r : Row) (xs ys : List Row) → IsAmong r (xs ++ ys) ↔ (IsAmong r xs ⊎ IsAmong r ys)
among_append r [] ys = (λ among. inr among, λ among. elim among [ inl none ↦ absurd none | inr there ↦ there ])
among_append r (x ∷ xs) ys =
    let later = among_append r xs ys in (
      λ among. elim among [
        | inl here ↦ inl (inl here)
        | inr there ↦ elim (later.0 there) [ inl first ↦ inl (inr first) | inr second ↦ inr second ]
      ],
      λ among. elim among [
        | inl first ↦ elim first [ inl here ↦ inl here | inr there ↦ inr (later.1 (inl there)) ]
        | inr second ↦ inr (later.1 (inr second))
      ],
    )

pub each_append : (P : Row → Type 0) (xs ys : List Row) → Each P xs → Each P ys → Each P (xs ++ ys)
each_append P [] ys first second = second
each_append P (x ∷ xs) ys first second = (first.0, each_append P xs ys first.1 second)

pub each_parts : (P : Row → Type 0) (xs ys : List Row) → Each P (xs ++ ys) → Each P xs × Each P ys
each_parts P [] ys each = (tt, each)
each_parts P (x ∷ xs) ys each = let later = each_parts P xs ys each.1 in ((each.0, later.0), later.1)

pub documents-append : (xs ys : List Row) → documents (xs ++ ys) ≡ documents xs + documents ys
documents-append [] ys = omega arith
documents-append (x ∷ xs) ys = ap (λ n. x.count + n) (documents-append xs ys) ∙ sym (add_assoc x.count (documents xs) (documents ys))

-- two lists of the same rows, none twice, are put in order alike
pub same_sorted : (xs ys : List Row) → AreDistinct xs → AreDistinct ys → ((r : Row) → IsAmong r xs ↔ IsAmong r ys) → in_row_order xs ≡ in_row_order ys
same_sorted xs ys distinct_x distinct_y same =
    sorted_is xs (in_row_order ys) distinct_x (sorted_distinct ys distinct_y)
    (λ r. (λ among. (among_sorted r ys).1 ((same r).0 among), λ among. (same r).1 ((among_sorted r ys).0 among)))

-- what is in order behind others may be put in order first
pub in_row_order-append_right : (xs ys : List Row) → in_row_order (xs ++ in_row_order ys) ≡ in_row_order (xs ++ ys)
in_row_order-append_right [] ys = in_row_order-same (in_row_order ys) (in_row_order-ascends ys)
in_row_order-append_right (x ∷ xs) ys = ap (insert_row x) (in_row_order-append_right xs ys)

-- what isn't up to another stands behind it
behind : (x s : Row) (o : Ordering) → row_cmp x s ≡ o → is_le o ≡ false → row_cmp s x ≡ Less
behind x s Less is above = cc
behind x s Equal is above = cc
behind x s Greater is above = row_cmp_total.antisymm s x ∙ ap ordering_reverse is

-- two rows, of which one stands before the other, are put in one after the other in either order
insert_swap : (x s : Row) (rows : List Row) → row_cmp s x ≡ Less → insert_row s (insert_row x rows) ≡ insert_row x (insert_row s rows)
insert_swap x s rows before =
    let both = put_both row_cmp row_cmp_total s x rows (λ tied. less_not_equal (sym before ∙ tied)) in
    insert_row-put s (insert_row x rows)
    ∙ (ap (put row_cmp s) (insert_row-put x rows)
    ∙ (both
    ∙ (sym (ap (put row_cmp x) (insert_row-put s rows))
    ∙ sym (insert_row-put x (insert_row s rows)))))
  where
    less_not_equal : Less ≡ Equal → ⊥
    less_not_equal e = cc

-- what is in order in front of others may be put in order first
insert_front : (x : Row) (xs ys : List Row) → in_row_order (insert_row x xs ++ ys) ≡ insert_row x (in_row_order (xs ++ ys))
insert_front x [] ys = refl
insert_front x (first ∷ rest) ys = by_test (is_le (row_cmp x first)) refl (insert_front x rest ys)
  where
    by_test : (b : Bool) → is_le (row_cmp x first) ≡ b → in_row_order (insert_row x rest ++ ys) ≡ insert_row x (in_row_order (rest ++ ys)) → in_row_order ((if b then x ∷ first ∷ rest else first ∷ insert_row x rest) ++ ys) ≡ insert_row x (insert_row first (in_row_order (rest ++ ys)))
    by_test true is later = refl
    by_test false is later = ap (insert_row first) later ∙ insert_swap x first (in_row_order (rest ++ ys)) (behind x first (row_cmp x first) refl is)

pub in_row_order-append_left : (xs ys : List Row) → in_row_order (in_row_order xs ++ ys) ≡ in_row_order (xs ++ ys)
in_row_order-append_left [] ys = refl
in_row_order-append_left (x ∷ xs) ys = insert_front x (in_row_order xs) ys ∙ ap (insert_row x) (in_row_order-append_left xs ys)

-- ---- rows apart

-- rows of one series and time are not told apart by the order
pub tied_from : (a b : Row) → a.key ≡ b.key → a.time ≡ b.time → row_cmp a b ≡ Equal
tied_from a b same_key same_time =
    ap (λ k. ordering_then (slice_cmp nat_cmp a.key k) (int_cmp b.time a.time)) (sym same_key)
    ∙ (ap (λ t. ordering_then (slice_cmp nat_cmp a.key a.key) (int_cmp t a.time)) (sym same_time)
    ∙ tied_itself row_cmp_total a)

abbrev IsUntied : Row → Row → Type 0
IsUntied row other = row_cmp row other ≡ Equal → ⊥

abbrev IsElsewhere : Row → Row → Type 0
IsElsewhere row other = row.key ≡ other.key → row.time ≡ other.time → ⊥

untied_elsewhere : (row other : Row) → IsUntied row other → IsElsewhere row other
untied_elsewhere row other apart same_key same_time = apart (tied_from row other same_key same_time)

elsewhere_untied : (row other : Row) → IsElsewhere row other → IsUntied row other
elsewhere_untied row other apart tied = let same = tied_rows row other tied in apart same.0 same.1

-- rows are apart exactly where no two have a key and a time in common
pub apart_by_places : (rows others : List Row) → AreApart rows others ↔ Each (λ row. Each (λ other. row.key ≡ other.key → row.time ≡ other.time → ⊥) others) rows
apart_by_places rows others = (
  Each-weaker (λ row. Each (IsUntied row) others) (λ row. Each (IsElsewhere row) others) (λ row each. Each-weaker (IsUntied row) (IsElsewhere row) (untied_elsewhere row) others each) rows,
  Each-weaker (λ row. Each (IsElsewhere row) others) (λ row. Each (IsUntied row) others) (λ row each. Each-weaker (IsElsewhere row) (IsUntied row) (elsewhere_untied row) others each) rows,
)

-- joined lists are distinct exactly where each is, and they are apart
pub distinct_append : (xs ys : List Row) → AreDistinct (xs ++ ys) ↔ (AreDistinct xs × AreDistinct ys × AreApart xs ys)
distinct_append [] ys = (λ distinct. (tt, distinct, tt), λ parts. parts.1)
distinct_append (x ∷ xs) ys =
    let later = distinct_append xs ys in (
      λ distinct.
          let first = each_parts (λ other. row_cmp x other ≡ Equal → ⊥) xs ys distinct.0 in
          let rest = later.0 distinct.1 in
          ((first.0, rest.0), rest.1, (first.1, rest.2)),
      λ parts.
          (each_append (λ other. row_cmp x other ≡ Equal → ⊥) xs ys parts.0.0 parts.2.0, later.1 (parts.0.1, parts.1, parts.2.1)),
    )

-- ---- rows cut by a test

-- a row that stands before others is put in order in front of them
insert_behind : (row : Row) (xs ys : List Row) → Each (λ x. row_cmp row x ≡ Less) xs → in_row_order (xs ++ row ∷ ys) ≡ insert_row row (in_row_order (xs ++ ys))
insert_behind row [] ys before = refl
insert_behind row (x ∷ xs) ys before =
    ap (insert_row x) (insert_behind row xs ys before.1)
    ∙ sym (insert_swap x row (in_row_order (xs ++ ys)) before.0)

-- rows in row order are those that pass a test and those that don't, put in order again
pub split_stays : (test : Row → Bool) (rows : List Row) → AreInRowOrder rows → in_row_order (filter test rows ++ filter (λ row. not (test row)) rows) ≡ rows
split_stays test [] order = refl
split_stays test (row ∷ rows) order = by_test (test row) (split_stays test rows order.1)
  where
    taken : List Row
    taken = filter test rows

    left : List Row
    left = filter (λ other. not (test other)) rows

    front : insert_row row rows ≡ row ∷ rows
    front = insert_first row rows (Each-weaker (λ other. row_cmp row other ≡ Less) (IsUpTo row) (λ other before. ap is_gt before) rows order.0)

    by_test : (b : Bool) → in_row_order (taken ++ left) ≡ rows → in_row_order (cond b (row ∷ taken) taken ++ cond (not b) (row ∷ left) left) ≡ row ∷ rows
    by_test true later = ap (insert_row row) later ∙ front
    by_test false later = insert_behind row taken left (Each-filter (λ other. row_cmp row other ≡ Less) test rows order.0) ∙ (ap (insert_row row) later ∙ front)

-- ---- a row in a free place

distinct_between : (xs ys : List Row) (row : Row) → AreDistinct (xs ++ ys) → Each (λ other. row_cmp other row ≡ Equal → ⊥) (xs ++ ys) → AreDistinct (xs ++ row ∷ ys)
distinct_between [] ys row distinct apart = (Each-weaker (λ r. row_cmp r row ≡ Equal → ⊥) (λ r. row_cmp row r ≡ Equal → ⊥) (λ r other. flipped r row other) ys apart, distinct)
distinct_between (x ∷ xs) ys row distinct apart =
    let parts = each_parts (λ other. row_cmp x other ≡ Equal → ⊥) xs ys distinct.0 in
    (each_append (λ other. row_cmp x other ≡ Equal → ⊥) xs (row ∷ ys) parts.0 (apart.0, parts.1), distinct_between xs ys row distinct.1 apart.1)

among_between : (r : Row) (xs ys : List Row) (row : Row) → IsAmong r (xs ++ row ∷ ys) ↔ IsAmong r (row ∷ (xs ++ ys))
among_between r [] ys row = (λ among. among, λ among. among)
among_between r (x ∷ xs) ys row =
    let later = among_between r xs ys row in (
      λ among. elim among [
        | inl here ↦ inr (inl here)
        | inr there ↦ elim (later.0 there) [ inl new ↦ inl new | inr old ↦ inr (inr old) ]
      ],
      λ among. elim among [
        | inl new ↦ inr (later.1 (inl new))
        | inr old ↦ elim old [ inl here ↦ inl here | inr there ↦ inr (later.1 (inr there)) ]
      ],
    )

-- a row in a free place stays distinct from the others, wherever it stands
pub between_distinct : (xs ys : List Row) (row : Row) → AreDistinct (xs ++ ys) → has_place row.key row.time (xs ++ ys) ≡ false → AreDistinct (xs ++ row ∷ ys)
between_distinct xs ys row distinct free = distinct_between xs ys row distinct (free_apart row (xs ++ ys) free)

-- and is put in order among them
pub insert_between : (xs ys : List Row) (row : Row) → AreDistinct (xs ++ ys) → has_place row.key row.time (xs ++ ys) ≡ false → in_row_order (xs ++ row ∷ ys) ≡ insert_row row (in_row_order (xs ++ ys))
insert_between xs ys row distinct free =
    same_sorted (xs ++ row ∷ ys) (row ∷ (xs ++ ys)) (between_distinct xs ys row distinct free) (distinct_between [] (xs ++ ys) row distinct (free_apart row (xs ++ ys) free))
    (λ r. among_between r xs ys row)

-- a row put behind others in a free place is put in order among them
abbrev pub InsertLast : Type 0
InsertLast = (rows : List Row) (row : Row) → AreDistinct rows → has_place row.key row.time rows ≡ false → in_row_order (rows ++ row ∷ []) ≡ insert_row row (in_row_order rows)

pub push_distinct : (rows : List Row) (row : Row) → AreDistinct rows → Each (λ other. row_cmp other row ≡ Equal → ⊥) rows → AreDistinct (rows ++ row ∷ [])
push_distinct [] row distinct apart = (tt, tt)
push_distinct (first ∷ rest) row distinct apart =
    (each_append (λ other. row_cmp first other ≡ Equal → ⊥) rest (row ∷ []) distinct.0 (apart.0, tt), push_distinct rest row distinct.1 apart.1)

among_push : (r : Row) (rows : List Row) (row : Row) → IsAmong r (rows ++ row ∷ []) ↔ IsAmong r (row ∷ rows)
among_push r [] row = (λ among. among, λ among. among)
among_push r (first ∷ rest) row =
    let later = among_push r rest row in (
      λ among. elim among [
        | inl here ↦ inr (inl here)
        | inr there ↦ elim (later.0 there) [ inl new ↦ inl new | inr old ↦ inr (inr old) ]
      ],
      λ among. elim among [
        | inl new ↦ inr (later.1 (inl new))
        | inr old ↦ elim old [ inl here ↦ inl here | inr there ↦ inr (later.1 (inr there)) ]
      ],
    )

pub insert_last : InsertLast
insert_last rows row distinct free =
    let apart = free_apart row rows free in
    same_sorted (rows ++ row ∷ []) (row ∷ rows) (push_distinct rows row distinct apart) (distinct_between [] rows row distinct apart) (λ r. among_push r rows row)

-- ---- looks and counts that don't ask for the order

any_insert : (test : Row → Bool) (row : Row) (rows : List Row) → list_any test (insert_row row rows) ≡ (test row || list_any test rows)
any_insert test row [] = refl
any_insert test row (first ∷ rest) = by_test (is_le (row_cmp row first)) (any_insert test row rest)
  where
    swapped : (a b c : Bool) → (a || (b || c)) ≡ (b || (a || c))
    swapped true true c = refl
    swapped true false c = refl
    swapped false b c = refl

    by_test : (b : Bool) → list_any test (insert_row row rest) ≡ (test row || list_any test rest) → list_any test (if b then row ∷ first ∷ rest else first ∷ insert_row row rest) ≡ (test row || (test first || list_any test rest))
    by_test true later = refl
    by_test false later = ap (λ t. test first || t) later ∙ swapped (test first) (test row) (list_any test rest)

pub any-in_row_order : (test : Row → Bool) (rows : List Row) → list_any test (in_row_order rows) ≡ list_any test rows
any-in_row_order test [] = refl
any-in_row_order test (row ∷ rows) = any_insert test row (in_row_order rows) ∙ ap (λ t. test row || t) (any-in_row_order test rows)

pub has_place-in_row_order : (key : List ℕ) (time : ℤ) (rows : List Row) → has_place key time (in_row_order rows) ≡ has_place key time rows
has_place-in_row_order key time rows = any-in_row_order (λ row. bytes_eq row.key key && int_eq row.time time) rows

pub any-append : (test : Row → Bool) (xs ys : List Row) → list_any test (xs ++ ys) ≡ (list_any test xs || list_any test ys)
any-append test [] ys = refl
any-append test (x ∷ xs) ys = ap (λ t. test x || t) (any-append test xs ys) ∙ sym (or_assoc (test x) (list_any test xs) (list_any test ys))
  where
    or_assoc : (a b c : Bool) → ((a || b) || c) ≡ (a || (b || c))
    or_assoc true b c = refl
    or_assoc false b c = refl

length_insert : (row : Row) (rows : List Row) → length (insert_row row rows) ≡ suc (length rows)
length_insert row [] = refl
length_insert row (first ∷ rest) = by_test (is_le (row_cmp row first)) (length_insert row rest)
  where
    by_test : (b : Bool) → length (insert_row row rest) ≡ suc (length rest) → length (if b then row ∷ first ∷ rest else first ∷ insert_row row rest) ≡ suc (suc (length rest))
    by_test true later = refl
    by_test false later = ap suc later

pub length-in_row_order : (rows : List Row) → length (in_row_order rows) ≡ length rows
length-in_row_order [] = refl
length-in_row_order (row ∷ rows) = length_insert row (in_row_order rows) ∙ ap suc (length-in_row_order rows)
