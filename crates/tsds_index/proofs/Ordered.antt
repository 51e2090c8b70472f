-- Places among rows in row order.
use Rattle.std.specs.Prelude.{◌≡◌, ℕ, ℤ, pos, negsuc, FitsSigned, zero, suc, ◌≤◌, ◌<◌, Bool, true, false, cond, if◌then◌else◌, Option, Some, None, List, [], ◌∷◌, length, take, drop}
use Rattle.std.specs.Int.{w64}
use Rattle.std.specs.List.{find, insert, slice_get}
use Rattle.std.specs.Ordering.{int_eq, is_le, ordering_reverse}
use Rattle.std.specs.Str.{bytes_eq}
use Rattle.std.specs.declared.cmp.Ordering.{Ordering}
use Rattle.std.specs.declared.cmp.Ordering.TheVariants.{Less, Equal, Greater}
use Rattle.std.proofs.Common.{refl, ap, sym, subst, ◌∙◌, arith}
use Rattle.std.proofs.lemmas.Bool.{and_parts}
use Rattle.std.proofs.lemmas.Int.{fits_signed_from_abs, ints}
use Rattle.std.proofs.lemmas.Bool.Decides.{Decides-int_eq}
use Rattle.std.proofs.lemmas.Slice.Eq.{bytes_eq-Decides}
use Rattle.index_segment.specs.Looks.{is_at}
use Rattle.time_text.specs.Instant.{IsInstant}
use Rattle.row_cells.specs.declared.rows.Row.{Row}
use Rattle.row_cells.specs.Each.{Each}
use Rattle.row_cells.specs.EachLaws.{Each-weaker}
use Rattle.row_cells.specs.Order.{row_cmp}
use Rattle.row_cells.specs.OrderLaws.{in_row_order-ascends, in_row_order-same, row_cmp_total}
use Rattle.row_cells.specs.PlaceLaws.{between_distinct, in_order-distinct, in_order_stays, tied_from}
use Rattle.row_cells.specs.RowLists.{AreInRowOrder, has_place, in_row_order, insert_row}
use Rattle.row_cells.specs.SetLaws.{sorted_distinct}
use Rattle.tsds_index.specs.Answers.{row_at}
use Rattle.tsds_index.specs.Limits.{longest_buffer}
use Rattle.tsds_index.specs.Places.{AllBefore, IsBuffer, NoneBefore, place_row}
use Rattle.tsds_index.proofs.Alike.{Alike, alike_length}

-- ---- a place, by what stands at it

before_more : (row x : Row) (rows : List Row) (k : ℕ) → AreInRowOrder rows → slice_get rows k ≡ Some x → row_cmp x row ≡ Less → AllBefore row (take (suc k) rows)
before_more row x [] k order there less = cc
before_more row x (y ∷ ys) zero order there less = (subst (λ r. row_cmp r row ≡ Less) same less, tt)
  where
    same : x ≡ y
    same = cc
before_more row x (y ∷ ys) (suc k) order there less = (first y ys k order.0 there, before_more row x ys k order.1 there less)
  where
    first : (z : Row) (zs : List Row) (i : ℕ) → Each (λ next. row_cmp z next ≡ Less) zs → slice_get zs i ≡ Some x → row_cmp z row ≡ Less
    first z [] i each at = cc
    first z (w ∷ zs) zero each at = row_cmp_total.trans z x row (subst (λ r. row_cmp z r ≡ Less) (some_same w x at) each.0) less
      where
        some_same : (a b : Row) → Some a ≡ Some b → a ≡ b
        some_same a b e = cc
    first z (w ∷ zs) (suc i) each at = first z zs i each.1 at

pub before_up_to : (row x : Row) (rows : List Row) (k n : ℕ) → n ≡ suc k → AreInRowOrder rows → slice_get rows k ≡ Some x → row_cmp x row ≡ Less → AllBefore row (take n rows)
before_up_to row x rows k n is order there less = subst (λ m. AllBefore row (take m rows)) (sym is) (before_more row x rows k order there less)

pub none_more : (row x : Row) (rows : List Row) (k : ℕ) → AreInRowOrder rows → slice_get rows k ≡ Some x → (row_cmp x row ≡ Less → ⊥) → NoneBefore row (drop k rows)
none_more row x [] k order there above = cc
none_more row x (y ∷ ys) zero order there above =
    let here : row_cmp y row ≡ Less → ⊥ = subst (λ r. row_cmp r row ≡ Less → ⊥) same above in
    (here, Each-weaker (λ next. row_cmp y next ≡ Less) (λ r. row_cmp r row ≡ Less → ⊥) (λ r next less. here (row_cmp_total.trans y r row next less)) ys order.0)
  where
    same : x ≡ y
    same = cc
none_more row x (y ∷ ys) (suc k) order there above = none_more row x ys k order.1 there above

-- ---- the row of a place

-- a row of a series and a time stands where they do
pub at_tied : (key : List ℕ) (time : ℤ) (r : Row) → is_at key time r ≡ true → row_cmp r (place_row key time) ≡ Equal
at_tied key time r is =
    let parts = and_parts (bytes_eq r.key key) (int_eq r.time time) is in
    tied_from r (place_row key time) ((bytes_eq-Decides r.key key).0 parts.0) ((Decides-int_eq r.time time).0 parts.1)

less_not_equal : Less ≡ Equal → ⊥
less_not_equal e = cc

not_at : (key : List ℕ) (time : ℤ) (r : Row) → row_cmp r (place_row key time) ≡ Less → is_at key time r ≡ false
not_at key time r less = by_test (is_at key time r) refl
  where
    by_test : (b : Bool) → is_at key time r ≡ b → is_at key time r ≡ false
    by_test true is = absurd (less_not_equal (sym less ∙ at_tied key time r is))
    by_test false is = is

pub find_none : (test : Row → Bool) (rows : List Row) → Each (λ r. test r ≡ false) rows → find test rows ≡ None
find_none test [] each = refl
find_none test (r ∷ rows) each = ap (λ b. cond b (Some r) (find test rows)) each.0 ∙ find_none test rows each.1

-- behind a row that isn't before a place no row is there
none_behind : (key : List ℕ) (time : ℤ) (x : Row) (rows : List Row) → (row_cmp x (place_row key time) ≡ Less → ⊥) → Each (λ next. row_cmp x next ≡ Less) rows → Each (λ r. is_at key time r ≡ false) rows
none_behind key time x rows above after = Each-weaker (λ next. row_cmp x next ≡ Less) (λ r. is_at key time r ≡ false) (λ r next. by_test r next (is_at key time r) refl) rows after
  where
    by_test : (r : Row) → row_cmp x r ≡ Less → (b : Bool) → is_at key time r ≡ b → is_at key time r ≡ false
    by_test r next true is =
        let tied : row_cmp r (place_row key time) ≡ Equal = at_tied key time r is in
        let back : row_cmp (place_row key time) r ≡ Equal = row_cmp_total.antisymm (place_row key time) r ∙ ap ordering_reverse tied in
        absurd (above (row_cmp_total.antisymm x (place_row key time) ∙ (ap ordering_reverse (row_cmp_total.congr (place_row key time) r x back) ∙ (sym (row_cmp_total.antisymm x r) ∙ next))))
    by_test r next false is = is

-- what stands at the place where the rows before it end
abbrev pub at_place : List ℕ → ℤ → Option Row → Option Row
at_place key time None = None
at_place key time (Some r) = cond (is_at key time r) (Some r) None

pub row_at_place : (key : List ℕ) (time : ℤ) (rows : List Row) (n : ℕ) → AreInRowOrder rows → AllBefore (place_row key time) (take n rows) → NoneBefore (place_row key time) (drop n rows) → row_at key time rows ≡ at_place key time (slice_get rows n)
row_at_place key time [] zero order before behind = refl
row_at_place key time [] (suc n) order before behind = refl
row_at_place key time (x ∷ xs) zero order before behind =
    ap (λ o. cond (is_at key time x) (Some x) o) (find_none (is_at key time) xs (none_behind key time x xs behind.0 order.0))
row_at_place key time (x ∷ xs) (suc n) order before behind =
    ap (λ b. cond b (Some x) (row_at key time xs)) (not_at key time x before.0) ∙ row_at_place key time xs n order.1 before.1 behind

pub look : (key : List ℕ) (time t : ℤ) (rows all : List Row) (n : ℕ) (o : Option Row) → t ≡ time → rows ≡ all → AreInRowOrder all → AllBefore (place_row key t) (take n rows) → NoneBefore (place_row key t) (drop n rows) → o ≡ slice_get rows n → row_at key time all ≡ at_place key time o
look key time t rows all n o time_is rows_are order before behind there =
    let front : AllBefore (place_row key time) (take n all) = subst (λ rs. AllBefore (place_row key time) (take n rs)) rows_are (subst (λ s. AllBefore (place_row key s) (take n rows)) time_is before) in
    let back : NoneBefore (place_row key time) (drop n all) = subst (λ rs. NoneBefore (place_row key time) (drop n rs)) rows_are (subst (λ s. NoneBefore (place_row key s) (drop n rows)) time_is behind) in
    row_at_place key time all n order front back ∙ ap (at_place key time) (ap (λ rs. slice_get rs n) (sym rows_are) ∙ sym there)

-- ---- a row put at its place

up_to : (row x : Row) → (row_cmp x row ≡ Less → ⊥) → is_le (row_cmp row x) ≡ true
up_to row x above = by_order (row_cmp x row) refl
  where
    by_order : (o : Ordering) → row_cmp x row ≡ o → is_le (row_cmp row x) ≡ true
    by_order Less is = absurd (above is)
    by_order Equal is = ap is_le (row_cmp_total.antisymm row x ∙ ap ordering_reverse is)
    by_order Greater is = ap is_le (row_cmp_total.antisymm row x ∙ ap ordering_reverse is)

pub put_at_place : (row : Row) (rows : List Row) (n : ℕ) → n ≤ length rows → AllBefore row (take n rows) → NoneBefore row (drop n rows) → insert_row row rows ≡ insert rows n row
put_at_place row [] zero within before behind = refl
put_at_place row [] (suc n) within before behind = absurd (omega (arith, within))
put_at_place row (x ∷ xs) zero within before behind = rw (up_to row x behind.0) refl
put_at_place row (x ∷ xs) (suc n) within before behind =
    ap (λ (b : Bool). if b then row ∷ x ∷ xs else x ∷ insert_row row xs) (ap is_le (row_cmp_total.antisymm row x ∙ ap ordering_reverse before.0))
    ∙ ap (λ rows. x ∷ rows) (put_at_place row xs n (omega (arith, within)) before.1 behind)

-- rows in order stay so with a row in a free place
pub put_in_order : (row : Row) (rows : List Row) → AreInRowOrder rows → has_place row.key row.time rows ≡ false → AreInRowOrder (insert_row row rows)
put_in_order row rows order free =
    let same : in_row_order rows ≡ rows = in_order_stays rows order in
    subst (λ rs. AreInRowOrder (insert_row row rs)) same (sorted_distinct (row ∷ rows) (between_distinct [] rows row (in_order-distinct rows order) free))

pub put_into_buffer : (row : Row) (rows : List Row) → AreInRowOrder rows → Alike (insert_row row rows) (row ∷ rows)
put_into_buffer row rows order =
    let same : in_row_order rows ≡ rows = in_order_stays rows order in
    subst (λ rs. in_row_order (insert_row row rs) ≡ insert_row row (in_row_order rows)) same (in_row_order-same (in_row_order (row ∷ rows)) (in_row_order-ascends (row ∷ rows)))

-- what is left of a buffer with a row put at its place
pub put_buffer : (row : Row) (rows view slice : List Row) (t : ℤ) (n : ℕ) (new : List Row) → rows ≡ view → slice ≡ rows → t ≡ row.time → IsBuffer rows → length view < longest_buffer → has_place row.key row.time view ≡ false → n ≤ length slice → AllBefore (place_row row.key t) (take n slice) → NoneBefore (place_row row.key t) (drop n slice) → new ≡ insert rows n row → IsBuffer new × (new ≡ insert_row row view)
put_buffer row rows view slice t n new rows_are slice_is time_is is room free within before behind new_is =
    let front : AllBefore row (take n rows) = subst (λ rs. AllBefore row (take n rs)) slice_is (subst (λ s. AllBefore (place_row row.key s) (take n slice)) time_is before) in
    let back : NoneBefore row (drop n rows) = subst (λ rs. NoneBefore row (drop n rs)) slice_is (subst (λ s. NoneBefore (place_row row.key s) (drop n slice)) time_is behind) in
    let put : new ≡ insert_row row rows = new_is ∙ sym (put_at_place row rows n (subst (λ rs. n ≤ length rs) slice_is within) front back) in
    let empty : has_place row.key row.time rows ≡ false = ap (has_place row.key row.time) rows_are ∙ free in
    let long : length rows < longest_buffer = subst (λ rs. length rs < longest_buffer) (sym rows_are) room in
    let buffer : IsBuffer (insert_row row rows) = record {
      in_order = put_in_order row rows is.in_order empty;
      few = omega (arith, long, alike_length (insert_row row rows) (row ∷ rows) (put_into_buffer row rows is.in_order));
    } in
    (subst IsBuffer (sym put) buffer, put ∙ ap (insert_row row) rows_are)

-- an instant has 64 bits
pub instant_fits : (t : ℤ) → IsInstant t → FitsSigned w64 t
instant_fits (pos n) is = fits_signed_from_abs w64 (pos n) (omega (arith, ints, is.1))
instant_fits (negsuc n) is = absurd (omega (arith, ints, is.0))
