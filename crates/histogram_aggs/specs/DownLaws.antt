-- The samples of a fold are alike those of its rows.
use Rattle.std.specs.Prelude.{◌≡◌, ℕ, ℤ, ◌<◌, ◌≤◌, ◌+ℤ◌, ◌&&◌, Bool, true, false, cond, if◌then◌else◌, List, [], ◌∷◌, filter, length, Option, Some, None}
use Rattle.std.specs.Int.{int_min, int_max}
use Rattle.std.specs.Str.{bytes_eq}
use Rattle.std.specs.Ordering.{is_le, int_eq}
use Rattle.std.proofs.Common.{refl, ap, ◌∙◌, sym, subst, arith}
use Rattle.std.proofs.lemmas.Int.{ints, clamps}
use Rattle.time_text.specs.Bucket.{bucket_start}
use Rattle.fold_law.specs.declared.measures.Gauge.{Gauge as GaugeFold}
use Rattle.fold_law.specs.declared.measures.Parts.{Parts}
use Rattle.fold_law.specs.Laws.{FoldLaws}
use Rattle.fold_law.specs.Gauges.{no_gauge, merge_gauges, join_present_parts, no_count, merge_counts}
use Rattle.fold_law.specs.GaugeLaws.{gauge_laws, count_laws}
use Rattle.fold_law.specs.Rises.{no_rise, merge_risings}
use Rattle.fold_law.specs.RiseLaws.{rising_laws}
use Rattle.row_cells.specs.declared.schemas.Role.TheVariants.{Dimension}
use Rattle.row_cells.specs.declared.schemas.Schema.{Schema}
use Rattle.row_cells.specs.declared.rows.Row.{Row}
use Rattle.row_cells.specs.Each.{Each}
use Rattle.row_cells.specs.EachLaws.{Each-weaker}
use Rattle.row_cells.specs.Merging.{merge_of_rows}
use Rattle.row_cells.specs.Order.{row_cmp}
use Rattle.row_cells.specs.RowLists.{documents, insert_row, in_row_order}
use Rattle.downsample_fold.specs.Columns.{cell_of}
use Rattle.downsample_fold.specs.Conditions.{HaveCells, AllAtStarts}
use Rattle.downsample_fold.specs.Direct.{down}
use Rattle.downsample_fold.specs.Joined.{placed, put, joined, are_at_one}
use Rattle.downsample_fold.specs.FoldLaws.{down-joined, folds_in_order, folds_at_starts}
use Rattle.row_cells.specs.OrderLaws.{in_order-ascends, in_row_order-filter, in_row_order-same, in_row_order-each, documents-in_row_order}
use Rattle.downsample_fold.specs.Totals.{total_over, IsFolded, chosen_rows, chosen_by_start}
use Rattle.downsample_fold.specs.TotalLaws.{folds_keep_totals, fold_cells-length, merge_cells-length}
use Rattle.row_cells.specs.Mapped.{IsRoleAt}
use Rattle.downsample_fold.specs.Measures.{gauge_in, rising_in, count_in}
use Rattle.downsample_fold.specs.CellLaws.{cell_of_fold, cell_of_merge}
use Rattle.downsample_fold.specs.MeasureLaws.{counts_are_folded, gauges_are_folded, rises_are_folded}
use Rattle.histogram_aggs.specs.Samples.{Sample, rows_in, at_window}
use Rattle.histogram_aggs.specs.Metrics.{of_window}
use Rattle.histogram_aggs.specs.Alike.{Choice, Head, IsOfHead, pick}
use Rattle.histogram_aggs.specs.Laws.{AlikeDown, AlikeInOrder}
use Rattle.histogram_aggs.specs.PickLaws.{filter-filter, filter-same}

rows-at : (start : ℤ) (rows : List Row) → rows_in (at_window start rows) ≡ rows
rows-at start [] = refl
rows-at start (row ∷ rows) = ap (λ rs. row ∷ rs) (rows-at start rows)

filter-at : (start : ℤ) (test : Sample → Bool) (rows : List Row) → filter test (at_window start rows) ≡ at_window start (filter (λ row. test (record { start = start; row = row })) rows)
filter-at start test [] = refl
filter-at start test (row ∷ rows) = by_test (test (record { start = start; row = row })) (filter-at start test rows)
  where
    by_test : (b : Bool) → filter test (at_window start rows) ≡ at_window start (filter (λ r. test (record { start = start; row = r })) rows)
        → cond b (record { start = start; row = row } ∷ filter test (at_window start rows)) (filter test (at_window start rows)) ≡ at_window start (cond b (row ∷ filter (λ r. test (record { start = start; row = r })) rows) (filter (λ r. test (record { start = start; row = r })) rows))
    by_test true later = ap (λ ss. record { start = start; row = row } ∷ ss) later
    by_test false later = later

-- the test of rows of one window
abbrev here : ℤ → Choice → List ℕ → ℤ → Bool
here start c = λ key bucket. c key start bucket

abbrev here_within : ℤ → List ℕ → ℤ → Choice → List ℕ → ℤ → Bool
here_within start key window c = λ k bucket. (bytes_eq k key && int_eq start window) && c k start bucket

pick-at : (n : ℕ) (start : ℤ) (c : Choice) (rows : List Row) → pick n c (at_window start rows) ≡ at_window start (chosen_by_start n (here start c) rows)
pick-at n start c rows = filter-at start (λ s. c s.row.key s.start (bucket_start n s.row.time)) rows

picked-rows : (n : ℕ) (start : ℤ) (c : Choice) (rows : List Row) → rows_in (pick n c (at_window start rows)) ≡ chosen_by_start n (here start c) rows
picked-rows n start c rows = ap rows_in (pick-at n start c rows) ∙ rows-at start (chosen_by_start n (here start c) rows)

window-rows : (n : ℕ) (start : ℤ) (key : List ℕ) (window : ℤ) (c : Choice) (rows : List Row) → rows_in (of_window key window (pick n c (at_window start rows))) ≡ chosen_by_start n (here_within start key window c) rows
window-rows n start key window c rows =
    ap (λ ss. rows_in (of_window key window ss)) (pick-at n start c rows)
    ∙ (ap rows_in (filter-at start (λ s. bytes_eq s.row.key key && int_eq s.start window) (chosen_by_start n (here start c) rows))
    ∙ (rows-at start (filter (λ row. bytes_eq row.key key && int_eq start window) (chosen_by_start n (here start c) rows))
    ∙ filter-filter (λ row. bytes_eq row.key key && int_eq start window) (λ row. c row.key start (bucket_start n row.time)) rows))

-- ---- totals

counted-total : (rows : List Row) → documents rows ≡ (total_over no_count merge_counts count_in rows).0
counted-total [] = refl
counted-total (row ∷ rows) = omega (arith, counted-total rows)

least-either : (a b : ℤ) → int_min a b ≡ int_min b a
least-either a b = omega (arith, ints, clamps)

greatest-either : (a b : ℤ) → int_max a b ≡ int_max b a
greatest-either a b = omega (arith, ints, clamps)

sum-either : (a b : ℤ) → a +ℤ b ≡ b +ℤ a
sum-either a b = omega (arith, ints)

parts-either : (p q : Option Parts) → join_present_parts p q ≡ join_present_parts q p
parts-either None None = refl
parts-either None (Some q) = refl
parts-either (Some p) None = refl
parts-either (Some p) (Some q) = ap Some (rw (least-either p.min q.min, greatest-either p.max q.max, sum-either p.sum q.sum, sum-either p.count q.count) refl)

gauge_by : Option Parts → GaugeFold
gauge_by p = record { 0 = p }

pub gauges-either : (a b : GaugeFold) → merge_gauges a b ≡ merge_gauges b a
unfolding gauge_by
gauges-either a b = ap gauge_by (parts-either a.0 b.0)

module _ {F : Type 0} {none : F} {merge : F → F → F} {reach : F → ℕ} (laws : FoldLaws none merge reach) (either : (a b : F) → merge a b ≡ merge b a) (value : Row → F) where
  abbrev total : List Row → F
  total rows = total_over none merge value rows

  total-insert : (row : Row) (rows : List Row) → total (insert_row row rows) ≡ merge (total rows) (value row)
  total-insert row [] = refl
  total-insert row (first ∷ rest) = by_test (is_le (row_cmp row first)) (total-insert row rest)
    where
      by_test : (b : Bool) → total (insert_row row rest) ≡ merge (total rest) (value row) → total (if b then row ∷ first ∷ rest else first ∷ insert_row row rest) ≡ merge (merge (total rest) (value first)) (value row)
      by_test true later = refl
      by_test false later =
          ap (λ t. merge t (value first)) later
          ∙ (laws.assoc (total rest) (value row) (value first)
          ∙ (ap (merge (total rest)) (either (value row) (value first)) ∙ sym (laws.assoc (total rest) (value first) (value row))))

  total-sorted : (rows : List Row) → total (in_row_order rows) ≡ total rows
  total-sorted [] = refl
  total-sorted (row ∷ rows) = total-insert row (in_row_order rows) ∙ ap (λ t. merge t (value row)) (total-sorted rows)

-- ---- totals of a fold

starts-same : (n : ℕ) (c : List ℕ → ℤ → Bool) (rows : List Row) → AllAtStarts n rows → chosen_by_start n c rows ≡ chosen_rows c rows
starts-same n c rows starts =
    filter-same (λ row. c row.key (bucket_start n row.time)) (λ row. c row.key row.time) rows
    (Each-weaker (λ row. bucket_start n row.time ≡ row.time) (λ row. c row.key (bucket_start n row.time) ≡ c row.key row.time) (λ row is. ap (c row.key) is) rows starts)

total-down : {F : Type 0} {none : F} {merge : F → F → F} {reach : F → ℕ} (laws : FoldLaws none merge reach) (schema : Schema) (rows : List Row) (n : ℕ) (value : Row → F) (c : List ℕ → ℤ → Bool) → HaveCells schema rows → 0 < n → IsFolded schema merge value →
    total_over none merge value (chosen_by_start n c (down schema rows n)) ≡ total_over none merge value (chosen_by_start n c (in_row_order rows))
total-down {none = none} {merge = merge} laws schema rows n value c cells some folded =
    ap (total_over none merge value) (starts-same n c (down schema rows n) (folds_at_starts schema rows n cells some))
    ∙ folds_keep_totals laws schema rows n value c cells some folded

-- rows that are chosen and then sorted are sorted and then chosen
sorted-chosen : (n : ℕ) (c : List ℕ → ℤ → Bool) (rows : List Row) → in_row_order (chosen_by_start n c rows) ≡ chosen_by_start n c (in_row_order rows)
sorted-chosen n c rows = in_row_order-filter (λ row. c row.key (bucket_start n row.time)) rows

down-sorted : (schema : Schema) (rows : List Row) (n : ℕ) → HaveCells schema rows → 0 < n → in_row_order (down schema rows n) ≡ down schema rows n
down-sorted schema rows n cells some = in_row_order-same (down schema rows n) (in_order-ascends (down schema rows n) (folds_in_order schema rows n cells some))

-- ---- dimensions stay

module _ (schema : Schema) (head : Head) where
  -- a row has its cells, the dimensions of its series, and a document at least
  record IsHeaded (row : Row) : Type 0 where
    cells : length row.cells ≡ length schema.fields
    dimensions : (place : ℕ) → IsRoleAt Dimension schema.fields place → cell_of place row ≡ head row.key place
    counted : 1 ≤ row.count

  put-headed : (row : Row) (rows : List Row) → IsHeaded row → Each IsHeaded rows → Each IsHeaded (put schema row rows)
  put-headed row [] one each = (one, tt)
  put-headed row (next ∷ rest) one each = by_test (are_at_one row next)
    where
      by_test : (at : Bool) → Each IsHeaded (if at then merge_of_rows schema next row ∷ rest else row ∷ next ∷ rest)
      by_test true = (
        record {
          cells = merge_cells-length schema.rises schema.fields next.cells row.cells each.0.cells one.cells;
          dimensions = λ place at. cell_of_merge schema.rises Dimension schema.fields next.cells row.cells place each.0.cells one.cells at ∙ each.0.dimensions place at;
          counted = let here = each.0.counted in omega (arith, here);
        },
        each.1,
      )
      by_test false = (one, each)

  joined-headed : (n : ℕ) (rows : List Row) → Each IsHeaded rows → Each IsHeaded (joined schema n rows)
  joined-headed n [] each = tt
  joined-headed n (row ∷ rows) each =
      put-headed (placed schema n row) (joined schema n rows)
      (record {
        cells = fold_cells-length schema.rises schema.fields row.cells each.0.cells;
        dimensions = λ place at. cell_of_fold schema.rises Dimension schema.fields row.cells place each.0.cells at ∙ each.0.dimensions place at;
        counted = each.0.counted;
      }) (joined-headed n rows each.1)

  headed-rows : (start : ℤ) (rows : List Row) → HaveCells schema rows → Each (IsOfHead schema.fields head) (at_window start rows) → Each IsHeaded rows
  headed-rows start [] cells each = tt
  headed-rows start (row ∷ rows) cells each = (record { cells = cells.0; dimensions = each.0.dimensions; counted = each.0.counted }, headed-rows start rows cells.1 each.1)

  headed-at : (start : ℤ) (rows : List Row) → Each IsHeaded rows → Each (IsOfHead schema.fields head) (at_window start rows)
  headed-at start [] each = tt
  headed-at start (row ∷ rows) each = (record { dimensions = each.0.dimensions; counted = each.0.counted }, headed-at start rows each.1)

  down-headed : (start : ℤ) (rows : List Row) (n : ℕ) → HaveCells schema rows → 0 < n → Each (IsOfHead schema.fields head) (at_window start rows) → Each (IsOfHead schema.fields head) (at_window start (down schema rows n))
  down-headed start rows n cells some each =
      headed-at start (down schema rows n)
      (subst (λ rs. Each IsHeaded rs) (sym (down-joined schema rows n cells some))
      (joined-headed n (in_row_order rows) (in_row_order-each IsHeaded rows (headed-rows start rows cells each))))

-- ---- the laws

pub alike_down : AlikeDown
alike_down schema rows n head keeps start some cells each rising = record {
  first = down-headed schema head start rows n cells some each;
  second = each;
  counts = λ c.
      ap documents (picked-rows n start c (down schema rows n))
      ∙ (counted-total (chosen_by_start n (here start c) (down schema rows n))
      ∙ (ap (λ t. t.0) (total-down count_laws schema rows n count_in (here start c) cells some (counts_are_folded schema))
      ∙ (sym (counted-total (chosen_by_start n (here start c) (in_row_order rows)))
      ∙ (sym (ap documents (sorted-chosen n (here start c) rows))
      ∙ (documents-in_row_order (chosen_by_start n (here start c) rows) ∙ sym (ap documents (picked-rows n start c rows)))))));
  gauges = λ place c at kept.
      ap (total_over no_gauge merge_gauges (gauge_in place)) (picked-rows n start c (down schema rows n))
      ∙ (total-down gauge_laws schema rows n (gauge_in place) (here start c) cells some (gauges_are_folded schema place at)
      ∙ (sym (ap (total_over no_gauge merge_gauges (gauge_in place)) (sorted-chosen n (here start c) rows))
      ∙ (total-sorted gauge_laws gauges-either (gauge_in place) (chosen_by_start n (here start c) rows) ∙ sym (ap (total_over no_gauge merge_gauges (gauge_in place)) (picked-rows n start c rows)))));
  rises = λ place key window c at kept.
      ap (λ rs. total_over no_rise merge_risings (rising_in place) (in_row_order rs)) (window-rows n start key window c (down schema rows n))
      ∙ (ap (total_over no_rise merge_risings (rising_in place)) (sorted-chosen n (here_within start key window c) (down schema rows n) ∙ ap (chosen_by_start n (here_within start key window c)) (down-sorted schema rows n cells some))
      ∙ (total-down rising_laws schema rows n (rising_in place) (here_within start key window c) cells some (rises_are_folded schema place at (rising place at kept))
      ∙ (sym (ap (total_over no_rise merge_risings (rising_in place)) (sorted-chosen n (here_within start key window c) rows))
      ∙ sym (ap (λ rs. total_over no_rise merge_risings (rising_in place) (in_row_order rs)) (window-rows n start key window c rows)))));
}

pub alike_in_order : AlikeInOrder
alike_in_order n fields head keeps start xs ys first second same = record {
  first = first;
  second = second;
  counts = λ c.
      ap documents (picked-rows n start c xs) ∙ (sym (documents-in_row_order (chosen_by_start n (here start c) xs))
      ∙ (ap documents (one_order (here start c)) ∙ (documents-in_row_order (chosen_by_start n (here start c) ys) ∙ sym (ap documents (picked-rows n start c ys)))));
  gauges = λ place c at kept.
      ap (total_over no_gauge merge_gauges (gauge_in place)) (picked-rows n start c xs)
      ∙ (sym (total-sorted gauge_laws gauges-either (gauge_in place) (chosen_by_start n (here start c) xs))
      ∙ (ap (total_over no_gauge merge_gauges (gauge_in place)) (one_order (here start c))
      ∙ (total-sorted gauge_laws gauges-either (gauge_in place) (chosen_by_start n (here start c) ys) ∙ sym (ap (total_over no_gauge merge_gauges (gauge_in place)) (picked-rows n start c ys)))));
  rises = λ place key window c at kept.
      ap (λ rs. total_over no_rise merge_risings (rising_in place) (in_row_order rs)) (window-rows n start key window c xs)
      ∙ (ap (total_over no_rise merge_risings (rising_in place)) (one_order (here_within start key window c))
      ∙ sym (ap (λ rs. total_over no_rise merge_risings (rising_in place) (in_row_order rs)) (window-rows n start key window c ys)));
}
  where
    one_order : (c : List ℕ → ℤ → Bool) → in_row_order (chosen_by_start n c xs) ≡ in_row_order (chosen_by_start n c ys)
    one_order c = sorted-chosen n c xs ∙ (ap (chosen_by_start n c) same ∙ sym (sorted-chosen n c ys))
