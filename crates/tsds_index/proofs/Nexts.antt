-- The first key of a series behind another, in rows of one list and of lists joined.
use Rattle.std.specs.Prelude.{◌≡◌, ℕ, Bool, true, false, cond, if◌then◌else◌, not, Option, Some, None, List, [], ◌∷◌, ◌++◌, filter}
use Rattle.std.specs.Cmp.{tied_itself}
use Rattle.std.specs.Cmp.Lexicographic.{slice_cmp, nat_list_cmp_total}
use Rattle.std.specs.Ordering.{is_gt, is_le, nat_cmp, ordering_reverse}
use Rattle.std.specs.Str.{bytes_eq}
use Rattle.std.specs.declared.cmp.Ordering.{Ordering}
use Rattle.std.specs.declared.cmp.Ordering.TheVariants.{Less, Equal, Greater}
use Rattle.std.proofs.Common.{refl, ap, sym, subst, ◌∙◌, inl, inr, append_assoc, append-nil}
use Rattle.std.proofs.lemmas.Cmp.{upto}
use Rattle.std.proofs.lemmas.Map.Lookups.{exact_bytes}
use Rattle.std.proofs.lemmas.Slice.Eq.{bytes_eq-Decides}
use Rattle.row_cells.specs.declared.rows.Row.{Row}
use Rattle.row_cells.specs.Each.{Each}
use Rattle.row_cells.specs.EachLaws.{Each-weaker}
use Rattle.row_cells.specs.Order.{row_cmp}
use Rattle.row_cells.specs.OrderLaws.{in_row_order-each, upto_cases, upto_of_le}
use Rattle.row_cells.specs.PlaceLaws.{among_append, each_append}
use Rattle.row_cells.specs.RowLists.{AreInRowOrder, IsAmong, in_row_order}
use Rattle.row_cells.specs.SetLaws.{among_sorted}
use Rattle.downsample_fold.specs.Places.{keys_of as keys_folded}
use Rattle.index_segment.specs.Directory.{keys_of}
use Rattle.index_segment.specs.Looks.{first_behind, is_behind}
use Rattle.index_segment.specs.SeriesLaws.{keys_are_folded}
use Rattle.tsds_index.specs.Nexts.{IsNext, IsUpToKey, first_key, lesser}
use Rattle.tsds_index.specs.Sound.{IsSpread}
use Rattle.tsds_index.specs.Spread.{Spread, all_rows, rows_of}
use Rattle.tsds_index.proofs.Answered.{are_rows}

pub key_chain : (a b c : List ℕ) → IsUpToKey a b → IsUpToKey b c → IsUpToKey a c
key_chain = upto nat_list_cmp_total

among_each : (P : Row → Type 0) (r : Row) (rows : List Row) → Each P rows → IsAmong r rows → P r
among_each P r [] each among = absurd among
among_each P r (x ∷ rows) each among = elim among [ inl here ↦ subst P here each.0 | inr there ↦ among_each P r rows each.1 there ]

pub both_ways_off : (b : Bool) → b ≡ true → b ≡ false → ⊥
both_ways_off true yes_is no_is = cc
both_ways_off false yes_is no_is = cc

-- ---- one alone

same_key : (a b : List ℕ) → IsUpToKey a b → IsUpToKey b a → a ≡ b
same_key a b up down = by_order (slice_cmp nat_cmp a b) refl up
  where
    by_order : (o : Ordering) → slice_cmp nat_cmp a b ≡ o → is_gt o ≡ false → a ≡ b
    by_order Less is le = absurd (both_ways_off (is_gt (slice_cmp nat_cmp b a)) (ap is_gt (nat_list_cmp_total.antisymm b a ∙ ap ordering_reverse is)) down)
    by_order Equal is le = exact_bytes a b is
    by_order Greater is le = cc

pub one_next : (before : Option (List ℕ)) (rows : List Row) (m n : Option (List ℕ)) → IsNext before rows m → IsNext before rows n → m ≡ n
one_next before rows None None first second = refl
one_next before rows None (Some k) first second =
    let (r, among, is) = second.1 in
    absurd (both_ways_off (is_behind before k) second.0 (subst (λ j. is_behind before j ≡ false) is (among_each (λ x. is_behind before x.key ≡ false) r rows first among)))
one_next before rows (Some k) None first second =
    let (r, among, is) = first.1 in
    absurd (both_ways_off (is_behind before k) first.0 (subst (λ j. is_behind before j ≡ false) is (among_each (λ x. is_behind before x.key ≡ false) r rows second among)))
one_next before rows (Some k) (Some j) first second =
    let (r, r_among, r_is) = first.1 in
    let (s, s_among, s_is) = second.1 in
    let up : IsUpToKey k j = subst (IsUpToKey k) s_is (among_each (λ x. is_behind before x.key ≡ true → IsUpToKey k x.key) s rows first.2 s_among (ap (is_behind before) s_is ∙ second.0)) in
    let down : IsUpToKey j k = subst (IsUpToKey j) r_is (among_each (λ x. is_behind before x.key ≡ true → IsUpToKey j x.key) r rows second.2 r_among (ap (is_behind before) r_is ∙ first.0)) in
    ap Some (same_key k j up down)

-- ---- joined lists, and rows put in order

none_least : (before : Option (List ℕ)) (k : List ℕ) (rows : List Row) → Each (λ r. is_behind before r.key ≡ false) rows → Each (λ r. is_behind before r.key ≡ true → IsUpToKey k r.key) rows
none_least before k rows each =
    Each-weaker (λ r. is_behind before r.key ≡ false) (λ r. is_behind before r.key ≡ true → IsUpToKey k r.key) (λ r off on. absurd (both_ways_off (is_behind before r.key) on off)) rows each

lower : (before : Option (List ℕ)) (k j : List ℕ) (rows : List Row) → IsUpToKey k j → Each (λ r. is_behind before r.key ≡ true → IsUpToKey j r.key) rows → Each (λ r. is_behind before r.key ≡ true → IsUpToKey k r.key) rows
lower before k j rows up each =
    Each-weaker (λ r. is_behind before r.key ≡ true → IsUpToKey j r.key) (λ r. is_behind before r.key ≡ true → IsUpToKey k r.key) (λ r later on. key_chain k j r.key up (later on)) rows each

upto_of : (k j : List ℕ) (o : Ordering) → slice_cmp nat_cmp k j ≡ o → is_le o ≡ true → IsUpToKey k j
upto_of k j Less is le = ap is_gt is
upto_of k j Equal is le = ap is_gt is
upto_of k j Greater is le = cc

upto_back : (k j : List ℕ) (o : Ordering) → slice_cmp nat_cmp k j ≡ o → is_le o ≡ false → IsUpToKey j k
upto_back k j Less is le = cc
upto_back k j Equal is le = cc
upto_back k j Greater is le = ap is_gt (nat_list_cmp_total.antisymm j k ∙ ap ordering_reverse is)

pub next_append : (before : Option (List ℕ)) (xs ys : List Row) (m n : Option (List ℕ)) → IsNext before xs m → IsNext before ys n → IsNext before (xs ++ ys) (lesser m n)
next_append before xs ys None None first second = each_append (λ r. is_behind before r.key ≡ false) xs ys first second
next_append before xs ys None (Some k) first second =
    let (r, among, is) = second.1 in
    (second.0, (r, (among_append r xs ys).1 (inr among), is), each_append (λ x. is_behind before x.key ≡ true → IsUpToKey k x.key) xs ys (none_least before k xs first) second.2)
next_append before xs ys (Some k) None first second =
    let (r, among, is) = first.1 in
    (first.0, (r, (among_append r xs ys).1 (inl among), is), each_append (λ x. is_behind before x.key ≡ true → IsUpToKey k x.key) xs ys first.2 (none_least before k ys second))
next_append before xs ys (Some k) (Some j) first second = by_order (is_le (slice_cmp nat_cmp k j)) refl
  where
    by_order : (b : Bool) → is_le (slice_cmp nat_cmp k j) ≡ b → IsNext before (xs ++ ys) (if b then Some k else Some j)
    by_order true is =
        let (r, among, r_is) = first.1 in
        (first.0, (r, (among_append r xs ys).1 (inl among), r_is), each_append (λ x. is_behind before x.key ≡ true → IsUpToKey k x.key) xs ys first.2 (lower before k j ys (upto_of k j (slice_cmp nat_cmp k j) refl is) second.2))
    by_order false is =
        let (r, among, r_is) = second.1 in
        (second.0, (r, (among_append r xs ys).1 (inr among), r_is), each_append (λ x. is_behind before x.key ≡ true → IsUpToKey j x.key) xs ys (lower before j k xs (upto_back k j (slice_cmp nat_cmp k j) refl is) first.2) second.2)

pub next_sorted : (before : Option (List ℕ)) (rows : List Row) (n : Option (List ℕ)) → IsNext before rows n → IsNext before (in_row_order rows) n
next_sorted before rows None next = in_row_order-each (λ r. is_behind before r.key ≡ false) rows next
next_sorted before rows (Some k) next =
    let (r, among, is) = next.1 in
    (next.0, (r, (among_sorted r rows).1 among, is), in_row_order-each (λ r. is_behind before r.key ≡ true → IsUpToKey k r.key) rows next.2)

-- ---- rows in row order

pub key_upto : (a b : Row) → row_cmp a b ≡ Less → IsUpToKey a.key b.key
key_upto a b less = elim (upto_cases a b (upto_of_le a b Less less refl)) [
  | inl before ↦ ap is_gt before
  | inr both ↦ subst (IsUpToKey a.key) both.0 (ap is_gt (exact_itself a.key))
]
  where
    exact_itself : (k : List ℕ) → slice_cmp nat_cmp k k ≡ Equal
    exact_itself k = tied_itself nat_list_cmp_total k

pub next_first : (before : Option (List ℕ)) (rows : List Row) → AreInRowOrder rows → IsNext before rows (first_key before rows)
next_first before [] order = tt
next_first before (row ∷ rows) order = by_test (is_behind before row.key) refl (first_key before rows) (next_first before rows order.1)
  where
    by_test : (b : Bool) → is_behind before row.key ≡ b → (n : Option (List ℕ)) → IsNext before rows n → IsNext before (row ∷ rows) (if b then Some row.key else n)
    by_test true is n later =
        (is, (row, inl refl, refl), (λ on. ap is_gt (tied_itself nat_list_cmp_total row.key), Each-weaker (λ next. row_cmp row next ≡ Less) (λ r. is_behind before r.key ≡ true → IsUpToKey row.key r.key) (λ r less on. key_upto row r less) rows order.0))
    by_test false is None later = (is, later)
    by_test false is (Some k) later =
        let (r, among, r_is) = later.1 in
        (later.0, (r, inr among, r_is), (λ on. absurd (both_ways_off (is_behind before row.key) on is), later.2))

-- a key that isn't behind another may be left out
left_out : (before : Option (List ℕ)) (k : List ℕ) (keys : List (List ℕ)) → is_behind before k ≡ false → first_behind before (filter (λ key. not (bytes_eq k key)) keys) ≡ first_behind before keys
left_out before k [] off = refl
left_out before k (key ∷ keys) off = by_test (bytes_eq k key) refl (left_out before k keys off)
  where
    by_test : (b : Bool) → bytes_eq k key ≡ b → first_behind before (filter (λ j. not (bytes_eq k j)) keys) ≡ first_behind before keys
        → first_behind before (cond (not b) (key ∷ filter (λ j. not (bytes_eq k j)) keys) (filter (λ j. not (bytes_eq k j)) keys)) ≡ (if is_behind before key then Some key else first_behind before keys)
    by_test true is later =
        let off_here : is_behind before key ≡ false = subst (λ j. is_behind before j ≡ false) ((bytes_eq-Decides k key).0 is) off in
        later ∙ sym (ap (λ (b : Bool). if b then Some key else first_behind before keys) off_here)
    by_test false is later = ap (λ o. if is_behind before key then Some key else o) later

first_folded : (before : Option (List ℕ)) (rows : List Row) → first_behind before (keys_folded rows) ≡ first_key before rows
first_folded before [] = refl
first_folded before (row ∷ rows) = by_test (is_behind before row.key) refl (first_folded before rows)
  where
    by_test : (b : Bool) → is_behind before row.key ≡ b → first_behind before (keys_folded rows) ≡ first_key before rows
        → (if b then Some row.key else first_behind before (filter (λ key. not (bytes_eq row.key key)) (keys_folded rows))) ≡ (if b then Some row.key else first_key before rows)
    by_test true is later = refl
    by_test false is later = left_out before row.key (keys_folded rows) is ∙ later

-- the first key of rows in row order behind another is the next one
pub keys_first : (before : Option (List ℕ)) (rows : List Row) → AreInRowOrder rows → first_behind before (keys_of rows) ≡ first_key before rows
keys_first before rows order = ap (first_behind before) (keys_are_folded rows order) ∙ first_folded before rows

sorted_next : (b : Option (List ℕ)) (g : Spread) (m : Option (List ℕ)) → IsNext b (all_rows g.parts) m → IsNext b (rows_of g) m
unfolding rows_of
sorted_next b g m is_next = next_sorted b (all_rows g.parts) m is_next

pub index_next : (before : Option (List ℕ)) (h : Spread) (n : Option (List ℕ)) → IsSpread h → IsNext before (all_rows h.parts) n → n ≡ first_behind before (keys_of (rows_of h))
index_next before h n is next =
    one_next before (rows_of h) n (first_key before (rows_of h)) (sorted_next before h n next) (next_first before (rows_of h) (are_rows h is).in_order)
    ∙ sym (keys_first before (rows_of h) (are_rows h is).in_order)

-- ---- lists looked at one after the other

-- what was looked at so far has the next key, and what is left is behind it
pub record LookedAt (before : Option (List ℕ)) (all : List Row) (least : Option (List ℕ)) (left : List Row) : Type 0 where
  pub done : List Row
  pub next : IsNext before done least
  pub joined : done ++ left ≡ all

pub look_begun : (before : Option (List ℕ)) (all : List Row) → LookedAt before all None all
look_begun before all = record { done = []; next = tt; joined = refl }

pub look_more : (before : Option (List ℕ)) (all rows left rest : List Row) (least more : Option (List ℕ)) → left ≡ rows ++ rest → IsNext before rows more → LookedAt before all least left → LookedAt before all (lesser least more) rest
look_more before all rows left rest least more left_is is looked = record {
  done = looked.done ++ rows;
  next = next_append before looked.done rows least more looked.next is;
  joined = append_assoc looked.done rows rest ∙ (ap (λ rs. looked.done ++ rs) (sym left_is) ∙ looked.joined);
}

pub look_ended : (before : Option (List ℕ)) (all left : List Row) (least : Option (List ℕ)) → left ≡ [] → LookedAt before all least left → IsNext before all least
look_ended before all left least none looked = subst (λ rows. IsNext before rows least) (sym (append-nil looked.done) ∙ (ap (λ rs. looked.done ++ rs) (sym none) ∙ looked.joined)) looked.next

-- the next key of a segment
pub next_held : (before : Option (List ℕ)) (rows : List Row) (n : Option (List ℕ)) → AreInRowOrder rows → n ≡ first_behind before (keys_of rows) → IsNext before rows n
next_held before rows n order is = subst (IsNext before rows) (sym (is ∙ keys_first before rows order)) (next_first before rows order)

-- and of a buffer with segments
pub two_next : (before : Option (List ℕ)) (rows buffer slice lists : List Row) (w s n f : Option (List ℕ)) → rows ≡ buffer → AreInRowOrder buffer → f ≡ first_key before rows → w ≡ f → slice ≡ lists → IsNext before slice s → n ≡ lesser w s → IsNext before (buffer ++ lists) n
two_next before rows buffer slice lists w s n f rows_are order f_is w_is lists_are next n_is =
    let first : w ≡ first_key before buffer = w_is ∙ (f_is ∙ ap (first_key before) rows_are) in
    subst (IsNext before (buffer ++ lists)) (sym n_is)
    (next_append before buffer lists w s (subst (IsNext before buffer) (sym first) (next_first before buffer order)) (subst (λ rs. IsNext before rs s) lists_are next))
