-- The rows of a series stand together, and their times fall.
use Rattle.std.specs.Prelude.{◌≡◌, ℕ, zero, suc, ◌+◌, ◌-◌, ◌<◌, ◌≤◌, nat_lt, Bool, true, false, Some, List, [], ◌∷◌, ◌++◌, map, length, replicate}
use Rattle.std.specs.List.{slice_get}
use Rattle.std.specs.Ordering.{nat_cmp}
use Rattle.std.specs.Cmp.Lexicographic.{slice_cmp}
use Rattle.std.specs.declared.cmp.Ordering.{Ordering}
use Rattle.std.specs.declared.cmp.Ordering.TheVariants.{Less}
use Rattle.std.proofs.Common.{refl, ap, sym, subst, ◌∙◌, arith, get_or, length-append}
use Rattle.std.proofs.lemmas.Bool.{ltb-false}
use Rattle.std.proofs.lemmas.List.{get_or_append_left, get_or-append-add, get_or-replicate, length-replicate}
use Rattle.std.proofs.lemmas.Option.{slice_get_within, get_or_from_slice_get}
use borrow.Author.Tests.{ltb-true}
use Rattle.row_cells.specs.declared.rows.Row.{Row}
use Rattle.row_cells.specs.Order.{row_cmp}
use Rattle.row_cells.specs.RowLists.{AllAfter, AreInRowOrder}
use Rattle.index_segment.specs.Directory.{row_keys, keys_of, sizes_of, spread, starts_from, total}
use Rattle.index_segment.specs.Order.{Ascend, NoneIs, Stands, KeysAfter, KeysAscend}
use Rattle.index_segment.proofs.HeldRows.{spread_rows}
use Rattle.index_segment.proofs.Lists.{some_is}
use Rattle.index_segment.specs.SeriesLaws.{keyed, keys_lower}
use Rattle.row_cells.specs.WidenLaws.{apart}

abbrev order : List ℕ → List ℕ → Ordering
order a b = slice_cmp nat_cmp a b

-- ---- rows in order

pub in_order_at : (rows : List Row) (i j : ℕ) (r s : Row) → AreInRowOrder rows → i < j → slice_get rows i ≡ Some r → slice_get rows j ≡ Some s → row_cmp r s ≡ Less
in_order_at [] i j r s are less at_i at_j = cc
in_order_at (row ∷ rows) zero zero r s are less at_i at_j = absurd (omega (arith, less))
in_order_at (row ∷ rows) zero (suc j) r s are less at_i at_j = subst (λ t. row_cmp t s ≡ Less) (some_is at_i) (after_at rows j are.0 at_j)
  where
    after_at : (rows : List Row) (j : ℕ) → AllAfter row rows → slice_get rows j ≡ Some s → row_cmp row s ≡ Less
    after_at [] j after there = cc
    after_at (t ∷ rows) zero after there = subst (λ u. row_cmp row u ≡ Less) (some_is there) after.0
    after_at (t ∷ rows) (suc j) after there = after_at rows j after.1 there
in_order_at (row ∷ rows) (suc i) zero r s are less at_i at_j = absurd (omega (arith, less))
in_order_at (row ∷ rows) (suc i) (suc j) r s are less at_i at_j = in_order_at rows i j r s are.1 (omega (arith, less)) at_i at_j

-- ---- keys ascend

pub keys_ascend : (rows : List Row) → AreInRowOrder rows → KeysAscend (keys_of rows)
unfolding keys_of
keys_ascend [] are = tt
keys_ascend (row ∷ rows) are = let (size, rest, is, after, same) = keyed row rows are in subst (λ runs. KeysAscend (map (λ run. run.key) runs)) (sym is) after

after_at : (k : List ℕ) (ks : List (List ℕ)) (j : ℕ) → KeysAfter k ks → j < length ks → order k (get_or ks j []) ≡ Less
after_at k [] j after within = absurd (omega (arith, within))
after_at k (x ∷ xs) zero after within = after.0
after_at k (x ∷ xs) (suc j) after within = after_at k xs j (keys_lower k x xs after.0 after.1) (omega (arith, within))

pub ascend_at : (ks : List (List ℕ)) → KeysAscend ks → Ascend ks
ascend_at [] ascend i j less within = absurd (omega (arith, within))
ascend_at (k ∷ ks) ascend zero zero less within = absurd (omega (arith, less))
ascend_at (k ∷ ks) ascend zero (suc j) less within = after_at k ks j ascend (omega (arith, within))
ascend_at (k ∷ ks) ascend (suc i) zero less within = absurd (omega (arith, less))
ascend_at (k ∷ ks) ascend (suc i) (suc j) less within = ascend_at ks (rest ks ascend) i j (omega (arith, less)) (omega (arith, within))
  where
    rest : (ks : List (List ℕ)) → KeysAfter k ks → KeysAscend ks
    rest [] after = tt
    rest (x ∷ xs) after = after.1

-- ---- where a series stands

pub start_at : (at : ℕ) (sizes : List ℕ) (s d : ℕ) → s ≤ length sizes → get_or (starts_from at sizes) s d ≡ at + total s sizes
start_at at [] zero d within = omega arith
start_at at [] (suc s) d within = absurd (omega (arith, within))
start_at at (n ∷ ns) zero d within = omega arith
start_at at (n ∷ ns) (suc s) d within = start_at (at + n) ns s d (omega (arith, within)) ∙ omega arith

pub starts_long : (at : ℕ) (sizes : List ℕ) → length (starts_from at sizes) ≡ length sizes + 1
starts_long at [] = refl
starts_long at (n ∷ ns) = omega (arith, starts_long (at + n) ns)

in_front : (n : ℕ) (k : List ℕ) (rest : List (List ℕ)) (i : ℕ) → i < n → get_or (replicate n k ++ rest) i [] ≡ k
in_front n k rest i below = get_or_append_left (replicate n k) rest [] i (omega (arith, below, length-replicate n k)) ∙ get_or-replicate n i k [] below

in_rest : (n : ℕ) (k : List ℕ) (rest : List (List ℕ)) (i : ℕ) → n ≤ i → get_or (replicate n k ++ rest) i [] ≡ get_or rest (i - n) []
in_rest n k rest i from = ap (λ m. get_or (replicate n k ++ rest) m []) over ∙ get_or-append-add (replicate n k) rest (i - n) []
  where
    over : i ≡ length (replicate n k) + (i - n)
    over = omega (arith, from, length-replicate n k)

longer : (n : ℕ) (k : List ℕ) (rest : List (List ℕ)) → length (replicate n k ++ rest) ≡ n + length rest
longer n k rest = omega (arith, length-append (replicate n k) rest, length-replicate n k)

spread_after : (k : List ℕ) (ks : List (List ℕ)) (ns : List ℕ) (i : ℕ) → KeysAfter k ks → i < length (spread ks ns) → order k (get_or (spread ks ns) i []) ≡ Less
spread_after k [] ns i after within = absurd (omega (arith, within))
spread_after k (x ∷ xs) [] i after within = absurd (omega (arith, within))
spread_after k (x ∷ xs) (n ∷ ns) i after within = go (nat_lt i n) refl (λ m. spread_after k xs ns m (keys_lower k x xs after.0 after.1))
  where
    go : (v : Bool) → nat_lt i n ≡ v → ((m : ℕ) → m < length (spread xs ns) → order k (get_or (spread xs ns) m []) ≡ Less) → order k (get_or (replicate n x ++ spread xs ns) i []) ≡ Less
    go true is rest = ap (order k) (in_front n x (spread xs ns) i (ltb-true i n is)) ∙ after.0
    go false is rest = ap (order k) (in_rest n x (spread xs ns) i (ltb-false i n is)) ∙ rest (i - n) (omega (arith, within, longer n x (spread xs ns), ltb-false i n is))

after_some : (k : List ℕ) (ks : List (List ℕ)) (s : ℕ) (key : List ℕ) → KeysAfter k ks → slice_get ks s ≡ Some key → order k key ≡ Less
after_some k ks s key after there = ap (order k) (sym (get_or_from_slice_get ks s key [] there)) ∙ after_at k ks s after (slice_get_within ks s key there)

pub stands : (ks : List (List ℕ)) (ns : List ℕ) (s : ℕ) (key : List ℕ) → KeysAscend ks → length ns ≡ length ks → slice_get ks s ≡ Some key → Stands (spread ks ns) key (total s ns) (total (suc s) ns)
stands [] ns s key ascend long there = cc
stands (k ∷ ks) [] s key ascend long there = absurd (omega (arith, long))
stands (k ∷ ks) (n ∷ ns) zero key ascend long there = record {
  ordered = omega arith;
  within = omega (arith, longer n k (spread ks ns));
  before = λ i below. absurd (omega (arith, below));
  inside = λ i from below. in_front n k (spread ks ns) i (omega (arith, below)) ∙ same;
  behind = λ i from within is. apart k (get_or (spread ks ns) (i - n) []) (spread_after k ks ns (i - n) ascend (omega (arith, within, longer n k (spread ks ns), from))) (same ∙ (sym is ∙ in_rest n k (spread ks ns) i (omega (arith, from))));
}
  where
    same : k ≡ key
    same = cc
stands (k ∷ ks) (n ∷ ns) (suc s) key ascend long there =
    let r = stands ks ns s key (rest ks ascend) (omega (arith, long)) there in
    let here : order k key ≡ Less = after_some k ks s key ascend there in
    let all = longer n k (spread ks ns) in
    record {
      ordered = omega (arith, r.ordered);
      within = omega (arith, r.within, all);
      before = λ i below is. go_before r here i below is (nat_lt i n) refl;
      inside = λ i from below. in_rest n k (spread ks ns) i (omega (arith, from)) ∙ r.inside (i - n) (omega (arith, from)) (omega (arith, from, below));
      behind = λ i from within is. r.behind (i - n) (omega (arith, from)) (omega (arith, from, within, all, r.ordered)) (sym (in_rest n k (spread ks ns) i (omega (arith, from, r.ordered))) ∙ is);
    }
  where
    rest : (ks : List (List ℕ)) → KeysAfter k ks → KeysAscend ks
    rest [] after = tt
    rest (x ∷ xs) after = after.1

    go_before : Stands (spread ks ns) key (total s ns) (total (suc s) ns) → order k key ≡ Less → (i : ℕ) → i < n + total s ns → get_or (replicate n k ++ spread ks ns) i [] ≡ key → (v : Bool) → nat_lt i n ≡ v → ⊥
    go_before r here i below is true e = apart k key here (sym (in_front n k (spread ks ns) i (ltb-true i n e)) ∙ is)
    go_before r here i below is false e = r.before (i - n) (omega (arith, below, ltb-false i n e)) (sym (in_rest n k (spread ks ns) i (ltb-false i n e)) ∙ is)

-- ---- every row's key is one of the keys

each_of : (ks : List (List ℕ)) (ns : List ℕ) (key : List ℕ) (k : ℕ) → k < length (spread ks ns) → get_or (spread ks ns) k [] ≡ key → (s : ℕ) × (s < length ks) × (get_or ks s [] ≡ key)
each_of [] ns key k within is = absurd (omega (arith, within))
each_of (x ∷ xs) [] key k within is = absurd (omega (arith, within))
each_of (x ∷ xs) (n ∷ ns) key k within is = go (nat_lt k n) refl (each_of xs ns key (k - n))
  where
    go : (v : Bool) → nat_lt k n ≡ v → (k - n < length (spread xs ns) → get_or (spread xs ns) (k - n) [] ≡ key → (s : ℕ) × (s < length xs) × (get_or xs s [] ≡ key)) → (s : ℕ) × (s < length (x ∷ xs)) × (get_or (x ∷ xs) s [] ≡ key)
    go true e rest = (0, omega arith, sym (in_front n x (spread xs ns) k (ltb-true k n e)) ∙ is)
    go false e rest =
        let r = rest (omega (arith, within, longer n x (spread xs ns), ltb-false k n e)) (sym (in_rest n x (spread xs ns) k (ltb-false k n e)) ∙ is) in
        (suc r.0, omega (arith, r.1), r.2)

pub key_index : (rows : List Row) (key : List ℕ) → NoneIs (keys_of rows) key → NoneIs (row_keys rows) key
key_index rows key none k within is =
    let at = spread_rows rows in
    let r = each_of (keys_of rows) (sizes_of rows) key k (subst (λ ks. k < length ks) (sym at) within) (ap (λ ks. get_or ks k []) at ∙ is) in
    none r.0 r.1 r.2
