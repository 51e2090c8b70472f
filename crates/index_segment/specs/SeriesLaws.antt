-- The series of a segment's rows: each key once as folds have them, the rows of a series and of a range of times, the latest of them, and what a gauge sums up.
use Rattle.std.specs.Prelude.{◌≡◌, ℕ, zero, suc, ℤ, pos, ◌≤ℤ◌, ◌<ℤ◌, ◌+ℤ◌, int_le, int_lt, ◌+◌, ◌<◌, ◌&&◌, not, Bool, true, false, cond, Option, Some, None, List, [], ◌∷◌, map, slice_index_or}
use Rattle.std.specs.Int.{int_min, int_max}
use Rattle.std.specs.List.{filter, slice_get}
use Rattle.std.specs.Option.{option_map}
use Rattle.std.specs.Str.{bytes_eq}
use Rattle.std.specs.declared.cmp.Ordering.TheVariants.{Less}
use Rattle.std.proofs.Common.{inl, inr, refl, ap, sym, subst, ◌∙◌, arith}
use Rattle.std.proofs.lemmas.Int.{ints, clamps}
use Rattle.std.proofs.lemmas.Option.{get_or_from_slice_get, slice_get-map}
use Rattle.std.proofs.lemmas.Slice.Eq.{bytes_eq-Decides}
use Rattle.fold_law.specs.declared.measures.Gauge.{Gauge}
use Rattle.fold_law.specs.declared.measures.Parts.{Parts}
use Rattle.fold_law.specs.Gauges.{join_parts, join_present_parts, no_gauge, merge_gauges}
use Rattle.row_cells.specs.declared.rows.Cell.{Cell}
use Rattle.row_cells.specs.declared.rows.Cell.TheVariants.{Absent}
use Rattle.row_cells.specs.declared.rows.Row.{Row}
use Rattle.row_cells.specs.declared.schemas.Schema.{Schema}
use Rattle.row_cells.specs.Dimensions.{IsBefore}
use Rattle.row_cells.specs.Each.{Each}
use Rattle.row_cells.specs.EachLaws.{Each-weaker, filter_all}
use Rattle.row_cells.specs.JoinLaws.{before_chain}
use Rattle.row_cells.specs.KeyedRows.{AreRowsOf}
use Rattle.row_cells.specs.Merging.{parts_of}
use Rattle.row_cells.specs.Order.{row_cmp}
use Rattle.row_cells.specs.OrderLaws.{upto_cases, upto_of_le}
use Rattle.row_cells.specs.RangeLaws.{filter_is_rows, latest_first}
use Rattle.row_cells.specs.RowLists.{AreInRowOrder}
use Rattle.row_cells.specs.WidenLaws.{apart, other_bytes, same_bytes}
use Rattle.downsample_fold.specs.Measures.{gauge_in}
use Rattle.downsample_fold.specs.Places.{rows_of, keys_of as keys_folded}
use Rattle.downsample_fold.specs.Totals.{total_over}
use Rattle.index_segment.specs.Columns.{cell_or_absent}
use Rattle.index_segment.specs.Directory.{Run, run_of, with_key, runs_of, row_keys, keys_of}
use Rattle.index_segment.specs.Looks.{gauge_of, is_within, rows_within}
use Rattle.index_segment.specs.Order.{KeysAfter, Stands}
use Rattle.index_segment.specs.Spelling.{times_of}

-- ---- each key once

-- of two rows of two series in row order the first has the lesser key
pub key_before : (r s : Row) → (r.key ≡ s.key → ⊥) → row_cmp r s ≡ Less → IsBefore r.key s.key
key_before r s other less = elim (upto_cases r s (upto_of_le r s Less less refl)) [ inl before ↦ before | inr both ↦ absurd (other both.0) ]

pub keys_lower : (k x : List ℕ) (xs : List (List ℕ)) → IsBefore k x → KeysAfter x xs → KeysAfter k xs
keys_lower k x [] before after = tt
keys_lower k x (y ∷ ys) before after = (before_chain k x y before after.0, after.1)

others : (k : List ℕ) (xs : List (List ℕ)) → KeysAfter k xs → Each (λ x. not (bytes_eq k x) ≡ true) xs
others k [] after = tt
others k (x ∷ xs) after = (ap not (other_bytes k x (apart k x after.0)), others k xs (keys_lower k x xs after.0 after.1))

kept_others : (k : List ℕ) (xs : List (List ℕ)) → KeysAfter k xs → filter (λ x. not (bytes_eq k x)) xs ≡ xs
kept_others k xs after = filter_all (λ x. not (bytes_eq k x)) xs (others k xs after)

-- the runs of rows begin with the first row's key; those behind it ascend, and are those that folds have
pub keyed : (row : Row) (rows : List Row) → AreInRowOrder (row ∷ rows) →
    (size : ℕ) × (rest : List Run) × (runs_of (row_keys (row ∷ rows)) ≡ run_of row.key size ∷ rest) × KeysAfter row.key (map (λ run. run.key) rest) × (keys_folded (row ∷ rows) ≡ row.key ∷ map (λ run. run.key) rest)
keyed row [] are = (1, [], refl, tt, refl)
keyed row (s ∷ rows) are = by_key (bytes_eq row.key s.key) refl (keyed s rows are.1)
  where
    by_key : (b : Bool) → bytes_eq row.key s.key ≡ b →
        (size : ℕ) × (rest : List Run) × (runs_of (row_keys (s ∷ rows)) ≡ run_of s.key size ∷ rest) × KeysAfter s.key (map (λ run. run.key) rest) × (keys_folded (s ∷ rows) ≡ s.key ∷ map (λ run. run.key) rest)
        → (size : ℕ) × (rest : List Run) × (runs_of (row_keys (row ∷ s ∷ rows)) ≡ run_of row.key size ∷ rest) × KeysAfter row.key (map (λ run. run.key) rest) × (keys_folded (row ∷ s ∷ rows) ≡ row.key ∷ map (λ run. run.key) rest)
    by_key true is (size, rest, runs, after, folded) =
        let same : s.key ≡ row.key = sym ((bytes_eq-Decides row.key s.key).0 is) in
        let keys : List (List ℕ) = map (λ run. run.key) rest in
        let here : KeysAfter row.key keys = subst (λ k. KeysAfter k keys) same after in (
          size + 1,
          rest,
          ap (with_key row.key) runs ∙ (ap (λ b. cond {A = List Run} b (run_of s.key (size + 1) ∷ rest) (run_of row.key 1 ∷ run_of s.key size ∷ rest)) is ∙ ap (λ k. run_of k (size + 1) ∷ rest) same),
          here,
          ap (λ xs. row.key ∷ filter (λ x. not (bytes_eq row.key x)) xs) folded
              ∙ (ap (λ b. row.key ∷ cond (not b) (s.key ∷ filter (λ x. not (bytes_eq row.key x)) keys) (filter (λ x. not (bytes_eq row.key x)) keys)) is
              ∙ ap (λ xs. row.key ∷ xs) (kept_others row.key keys here)),
        )
    by_key false is (size, rest, runs, after, folded) =
        let keys : List (List ℕ) = map (λ run. run.key) rest in
        let before : IsBefore row.key s.key = key_before row s (λ same. absurd cc (sym is ∙ same_bytes row.key s.key same)) are.0.0 in (
          1,
          run_of s.key size ∷ rest,
          ap (with_key row.key) runs ∙ ap (λ b. cond {A = List Run} b (run_of s.key (size + 1) ∷ rest) (run_of row.key 1 ∷ run_of s.key size ∷ rest)) is,
          (before, after),
          ap (λ xs. row.key ∷ filter (λ x. not (bytes_eq row.key x)) xs) folded ∙ ap (λ xs. row.key ∷ xs) (kept_others row.key (s.key ∷ keys) (before, after)),
        )

-- the keys of a segment are those of its rows, each once, as folds have them
pub keys_are_folded : (rows : List Row) → AreInRowOrder rows → keys_of rows ≡ keys_folded rows
unfolding keys_of
keys_are_folded [] are = refl
keys_are_folded (row ∷ rows) are = let (size, rest, runs, after, folded) = keyed row rows are in ap (map (λ run. run.key)) runs ∙ sym folded

-- ---- the rows of a series

-- where rows of a series stand, the first of them is the first of all of that series
pub first_stands : (rows : List Row) (key : List ℕ) (a b : ℕ) → Stands (row_keys rows) key a b → a < b → (row : Row) × (rest : List Row) × (rows_of key rows ≡ row ∷ rest) × (slice_get rows a ≡ Some row)
first_stands [] key a b s some = absurd (omega (arith, s.within, some))
first_stands (row ∷ rows) key zero b s some =
    (row, rows_of key rows, ap (λ v. cond v (row ∷ rows_of key rows) (rows_of key rows)) (same_bytes row.key key (s.inside 0 (omega arith) some)), refl)
first_stands (row ∷ rows) key (suc a) zero s some = absurd (omega (arith, some))
first_stands (row ∷ rows) key (suc a) (suc b) s some =
    let (first, rest, is, at) = first_stands rows key a b behind (omega (arith, some)) in
    (first, rest, ap (λ v. cond v (row ∷ rows_of key rows) (rows_of key rows)) (other_bytes row.key key (s.before 0 (omega arith))) ∙ is, at)
  where
    behind : Stands (row_keys rows) key a b
    behind = record {
      ordered = omega (arith, s.ordered);
      within = omega (arith, s.within);
      before = λ k less. s.before (suc k) (omega (arith, less));
      inside = λ k from less. s.inside (suc k) (omega (arith, from)) (omega (arith, less));
      behind = λ k from less. s.behind (suc k) (omega (arith, from)) (omega (arith, less));
    }

-- no row of a series is later than the first one of where they stand
pub latest_is : (rows : List Row) (key : List ℕ) (a b : ℕ) → AreInRowOrder rows → Stands (row_keys rows) key a b → a < b → Each (λ row. row.time ≤ℤ slice_index_or (times_of rows) a (pos 0)) (rows_of key rows)
latest_is rows key a b are s some =
    let (first, rest, is, at) = first_stands rows key a b s some in
    let time : slice_index_or (times_of rows) a (pos 0) ≡ first.time = get_or_from_slice_get (times_of rows) a first.time (pos 0) (slice_get-map (λ row. row.time) rows a ∙ ap (option_map (λ row. row.time)) at) in
    let all : Each (λ row. row.time ≤ℤ first.time) (first ∷ rest) = (omega (arith, ints), Each-weaker (λ row. row.time <ℤ first.time) (λ row. row.time ≤ℤ first.time) (λ row less. omega (arith, ints, less)) rest (latest_first key rows first rest are is)) in
    subst (λ t. Each (λ row. row.time ≤ℤ t) (rows_of key rows)) (sym time) (subst (λ xs. Each (λ row. row.time ≤ℤ first.time) xs) (sym is) all)

-- ---- a range of times

by_series : (p q r : Row → Bool) (rows : List Row) → filter (λ row. p row && q row && r row) rows ≡ filter (λ row. q row && r row) (filter p rows)
by_series p q r [] = refl
by_series p q r (row ∷ rows) = by_test (p row) (by_series p q r rows)
  where
    by_test : (b : Bool) → filter (λ x. p x && q x && r x) rows ≡ filter (λ x. q x && r x) (filter p rows)
        → cond (b && q row && r row) (row ∷ filter (λ x. p x && q x && r x) rows) (filter (λ x. p x && q x && r x) rows) ≡ filter (λ x. q x && r x) (cond b (row ∷ filter p rows) (filter p rows))
    by_test true later = ap (λ xs. cond (q row && r row) (row ∷ xs) xs) later
    by_test false later = later

-- the rows of a series and a range of times are those of the series, chosen by their times
pub rows_by_time : (key : List ℕ) (from to : ℤ) (rows : List Row) → rows_within key from to rows ≡ filter (λ row. int_le from row.time && int_lt row.time to) (rows_of key rows)
rows_by_time key from to rows = by_series (λ row. bytes_eq row.key key) (λ row. int_le from row.time) (λ row. int_lt row.time to) rows

-- they are rows of an index again
pub range_of_rows : (schema : Schema) (key : List ℕ) (from to : ℤ) (rows : List Row) → AreRowsOf schema rows → AreRowsOf schema (rows_within key from to rows)
range_of_rows schema key from to rows are = filter_is_rows (is_within key from to) schema rows are

-- ---- gauges

min_either : (a b : ℤ) → int_min a b ≡ int_min b a
min_either a b = omega (arith, ints, clamps)

max_either : (a b : ℤ) → int_max a b ≡ int_max b a
max_either a b = omega (arith, ints, clamps)

plus_either : (a b : ℤ) → a +ℤ b ≡ b +ℤ a
plus_either a b = omega (arith, ints)

parts_either : (p q : Parts) → join_parts p q ≡ join_parts q p
parts_either p q = rw (min_either p.min q.min, max_either p.max q.max, plus_either p.sum q.sum, plus_either p.count q.count) refl

present_either : (p q : Option Parts) → join_present_parts p q ≡ join_present_parts q p
present_either None None = refl
present_either None (Some q) = refl
present_either (Some p) None = refl
present_either (Some p) (Some q) = ap Some (parts_either p q)

gauges_either : (a b : Gauge) → merge_gauges a b ≡ merge_gauges b a
gauges_either a b = let same = present_either a.0 b.0 in cc

same_cell : (cells : List Cell) (place : ℕ) → cell_or_absent (slice_get cells place) ≡ slice_index_or cells place Absent
same_cell [] place = refl
same_cell (cell ∷ cells) zero = refl
same_cell (cell ∷ cells) (suc place) = same_cell cells place

-- the gauge of rows is the total that folds keep
pub gauge_is_total : (place : ℕ) (rows : List Row) → gauge_of place rows ≡ total_over no_gauge merge_gauges (gauge_in place) rows
gauge_is_total place [] = refl
gauge_is_total place (row ∷ rows) =
    ap (λ cell. merge_gauges (record { 0 = parts_of cell }) (gauge_of place rows)) (same_cell row.cells place)
    ∙ (gauges_either (gauge_in place row) (gauge_of place rows) ∙ ap (λ g. merge_gauges g (gauge_in place row)) (gauge_is_total place rows))
