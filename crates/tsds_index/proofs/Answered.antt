-- What is asked of all rows of an index is asked of those of one shard.
use Rattle.std.specs.Prelude.{◌≡◌, ℕ, ℤ, ◌<◌, ◌&&◌, ◌||◌, int_le, int_lt, Bool, true, false, cond, Some, List, [], ◌∷◌, length, filter}
use Rattle.std.specs.List.{find, list_any}
use Rattle.std.specs.Ordering.{int_eq}
use Rattle.std.specs.Str.{bytes_eq}
use Rattle.std.specs.declared.cmp.Ordering.TheVariants.{Equal}
use Rattle.std.proofs.Common.{refl, ap, sym, ◌∙◌, arith}
use Rattle.std.proofs.lemmas.Bool.{and_parts}
use Rattle.std.proofs.lemmas.Bool.Decides.{Decides-int_eq}
use Rattle.std.proofs.lemmas.Slice.Eq.{bytes_eq-Decides}
use Rattle.row_cells.specs.declared.rows.Row.{Row}
use Rattle.row_cells.specs.Each.{Each}
use Rattle.row_cells.specs.EachLaws.{Each-filter}
use Rattle.row_cells.specs.KeyedRows.{AreRowsOf}
use Rattle.row_cells.specs.Order.{row_cmp}
use Rattle.row_cells.specs.OrderLaws.{documents-in_row_order, in_row_order-each}
use Rattle.row_cells.specs.PlaceLaws.{has_place-in_row_order, length-in_row_order, tied_from}
use Rattle.row_cells.specs.RangeLaws.{passing}
use Rattle.row_cells.specs.RowLists.{AreDistinct, has_place, in_row_order}
use Rattle.row_cells.specs.SetLaws.{sorted_distinct}
use Rattle.row_cells.specs.KeyedRows.{IsRowOf}
use Rattle.index_segment.specs.Looks.{is_at, is_within, rows_within}
use Rattle.tsds_index.specs.Answers.{row_at}
use Rattle.tsds_index.specs.Sound.{IsSpread, shard_for}
use Rattle.tsds_index.specs.Spread.{Spread, all_rows, part_at, rows_in, rows_of}
use Rattle.tsds_index.proofs.Alike.{filter-in_row_order}
use Rattle.tsds_index.proofs.Routed.{all_distinct, all_each, one_part}

module _ (test : Row → Bool) where
  any_by_filter : (rows : List Row) → list_any test rows ≡ list_any (λ row. true) (filter test rows)
  any_by_filter [] = refl
  any_by_filter (x ∷ xs) = by_test (test x) (any_by_filter xs)
    where
      by_test : (b : Bool) → list_any test xs ≡ list_any (λ row. true) (filter test xs) → (b || list_any test xs) ≡ list_any (λ row. true) (cond b (x ∷ filter test xs) (filter test xs))
      by_test true later = refl
      by_test false later = later

  find_by_filter : (rows : List Row) → find test rows ≡ find (λ row. true) (filter test rows)
  find_by_filter [] = refl
  find_by_filter (x ∷ xs) = by_test (test x) (find_by_filter xs)
    where
      by_test : (b : Bool) → find test xs ≡ find (λ row. true) (filter test xs) → cond b (Some x) (find test xs) ≡ find (λ row. true) (cond b (x ∷ filter test xs) (filter test xs))
      by_test true later = refl
      by_test false later = later

  pub distinct-filter : (rows : List Row) → AreDistinct rows → AreDistinct (filter test rows)
  distinct-filter [] distinct = tt
  distinct-filter (x ∷ xs) distinct = by_test (test x) (distinct-filter xs distinct.1)
    where
      by_test : (b : Bool) → AreDistinct (filter test xs) → AreDistinct (cond b (x ∷ filter test xs) (filter test xs))
      by_test true later = (Each-filter (λ other. row_cmp x other ≡ Equal → ⊥) test xs distinct.0, later)
      by_test false later = later

-- distinct rows of one place are one at most
one_only : (key : List ℕ) (time : ℤ) (rows : List Row) → AreDistinct rows → Each (λ row. is_at key time row ≡ true) rows → in_row_order rows ≡ rows
one_only key time [] distinct each = refl
one_only key time (x ∷ []) distinct each = refl
one_only key time (x ∷ y ∷ rows) distinct each =
    let first = and_parts (bytes_eq x.key key) (int_eq x.time time) each.0 in
    let second = and_parts (bytes_eq y.key key) (int_eq y.time time) each.1.0 in
    let same_key : x.key ≡ y.key = (bytes_eq-Decides x.key key).0 first.0 ∙ sym ((bytes_eq-Decides y.key key).0 second.0) in
    let same_time : x.time ≡ y.time = (Decides-int_eq x.time time).0 first.1 ∙ sym ((Decides-int_eq y.time time).0 second.1) in
    absurd (distinct.0.0 (tied_from x y same_key same_time))

-- the rows of an index
pub are_rows : (h : Spread) → IsSpread h → AreRowsOf h.schema (rows_of h)
unfolding rows_of
are_rows h is = record {
  each = in_row_order-each (IsRowOf h.schema) (all_rows h.parts) (all_each h.schema (length h.parts) 0 h.parts is.parts);
  in_order = sorted_distinct (all_rows h.parts) (all_distinct h.schema (length h.parts) 0 h.parts is.parts);
  few = omega (arith, documents-in_row_order (all_rows h.parts), is.few);
}

pub rows_length : (h : Spread) → length (rows_of h) ≡ length (all_rows h.parts)
unfolding rows_of
rows_length h = length-in_row_order (all_rows h.parts)

module _ (h : Spread) (is : IsSpread h) (key : List ℕ) (i : ℕ) (i_is : i ≡ shard_for h.schema (length h.parts) key) (within : i < length h.parts) where
  in_part : (test : Row → Bool) → ((row : Row) → test row ≡ true → row.key ≡ key) → filter test (all_rows h.parts) ≡ filter test (rows_in (part_at h i))
  in_part test chosen =
      one_part h.schema (length h.parts) test 0 i h.parts (λ row is_chosen. omega (arith, ap (shard_for h.schema (length h.parts)) (chosen row is_chosen), i_is)) within is.parts

  keyed : (time : ℤ) (row : Row) → is_at key time row ≡ true → row.key ≡ key
  keyed time row there = (bytes_eq-Decides row.key key).0 (and_parts (bytes_eq row.key key) (int_eq row.time time) there).0

  keyed_within : (from to : ℤ) (row : Row) → is_within key from to row ≡ true → row.key ≡ key
  keyed_within from to row there =
      (bytes_eq-Decides row.key key).0 (and_parts (bytes_eq row.key key) (int_le from row.time) (and_parts (bytes_eq row.key key && int_le from row.time) (int_lt row.time to) there).0).0

  pub place_in_part : (time : ℤ) → has_place key time (rows_of h) ≡ has_place key time (rows_in (part_at h i))
  unfolding rows_of
  place_in_part time =
      has_place-in_row_order key time (all_rows h.parts)
      ∙ (any_by_filter (is_at key time) (all_rows h.parts)
      ∙ (ap (list_any (λ row. true)) (in_part (is_at key time) (keyed time))
      ∙ sym (any_by_filter (is_at key time) (rows_in (part_at h i)))))

  pub row_in_part : (time : ℤ) → row_at key time (rows_of h) ≡ row_at key time (rows_in (part_at h i))
  unfolding rows_of
  row_in_part time =
      let test : Row → Bool = is_at key time in
      let all : List Row = all_rows h.parts in
      find_by_filter test (in_row_order all)
      ∙ (ap (find (λ row. true)) (filter-in_row_order test all
      ∙ (one_only key time (filter test all) (distinct-filter test all (all_distinct h.schema (length h.parts) 0 h.parts is.parts)) (passing test all)
      ∙ in_part test (keyed time)))
      ∙ sym (find_by_filter test (rows_in (part_at h i))))

  pub range_in_part : (from to : ℤ) → rows_within key from to (rows_of h) ≡ in_row_order (rows_within key from to (rows_in (part_at h i)))
  unfolding rows_of
  range_in_part from to =
      filter-in_row_order (is_within key from to) (all_rows h.parts)
      ∙ ap in_row_order (in_part (is_within key from to) (keyed_within from to))
