-- Metrics: a least, greatest, sum or number over rows.
use Rattle.std.specs.Prelude.{ℕ, ℤ, pos, List, [], ◌∷◌, map, flat_map, filter, length, Option, Some, None, option_map, ◌&&◌}
use Rattle.std.specs.Str.{bytes_eq}
use Rattle.std.specs.Cmp.Lexicographic.{slice_cmp}
use Rattle.std.specs.Ordering.{nat_cmp, int_cmp, int_eq}
use Rattle.fold_law.specs.declared.measures.Gauge.{Gauge as GaugeFold}
use Rattle.fold_law.specs.declared.measures.Parts.{Parts}
use Rattle.fold_law.specs.declared.counters.Rise.{Rise}
use Rattle.fold_law.specs.declared.counters.Rising.{Rising}
use Rattle.fold_law.specs.Laws.{fold_of}
use Rattle.fold_law.specs.Gauges.{no_gauge, merge_gauges}
use Rattle.fold_law.specs.Rises.{no_rise, merge_risings}
use Rattle.row_cells.specs.declared.schemas.Role.{Role}
use Rattle.row_cells.specs.declared.schemas.Role.TheVariants.{Gauge}
use Rattle.row_cells.specs.RowLists.{in_row_order}
use Rattle.downsample_fold.specs.Columns.{total_of}
use Rattle.downsample_fold.specs.Totals.{total_over}
use Rattle.downsample_fold.specs.Measures.{gauge_in, rising_in}
use Rattle.search_filter.specs.Values.{number_of}
use Rattle.histogram_aggs.specs.declared.aggs.AggKind.{AggKind}
use Rattle.histogram_aggs.specs.declared.aggs.AggKind.TheVariants.{Min, Max, Sum, Increase}
use Rattle.histogram_aggs.specs.Sets.{ascending}
use Rattle.histogram_aggs.specs.Samples.{Sample, rows_in, values_at}

abbrev pub first_of : {A : Type 0} → List A → Option A
first_of [] = None
first_of (x ∷ xs) = Some x

abbrev pub last_of : {A : Type 0} → List A → Option A
last_of [] = None
last_of (x ∷ []) = Some x
last_of (x ∷ y ∷ ys) = last_of (y ∷ ys)

-- ---- gauges

-- least, greatest, sum and number of all values of a gauge
abbrev pub gauge_all : ℕ → List Sample → GaugeFold
gauge_all place xs = total_over no_gauge merge_gauges (gauge_in place) (rows_in xs)

abbrev pub sum_of_parts : Option Parts → ℤ
sum_of_parts None = pos 0
sum_of_parts (Some p) = p.sum

abbrev pub count_of_parts : Option Parts → ℤ
count_of_parts None = pos 0
count_of_parts (Some p) = p.count

abbrev pub gauge_metric : AggKind → Option Parts → Option ℤ
gauge_metric Min parts = option_map (λ p. p.min) parts
gauge_metric Max parts = option_map (λ p. p.max) parts
gauge_metric Sum parts = Some (sum_of_parts parts)
gauge_metric kind parts = Some (count_of_parts parts)

-- ---- other fields

abbrev pub numbers_at : Role → ℕ → List Sample → List ℤ
numbers_at role place xs = flat_map (λ s. map number_of (values_at role place s)) xs

abbrev pub value_metric : AggKind → List ℤ → Option ℤ
value_metric Min vs = first_of (ascending int_cmp vs)
value_metric Max vs = last_of (ascending int_cmp vs)
value_metric Sum vs = Some (total_of vs)
value_metric kind vs = Some (pos (length vs))

-- ---- rises

-- the rows of a series in an index
abbrev pub of_window : List ℕ → ℤ → List Sample → List Sample
of_window key start xs = filter (λ s. bytes_eq s.row.key key && int_eq s.start start) xs

-- the rise of a counter over rows of one series and one index, in order of time
abbrev pub rise_in_order : ℕ → List Sample → Rising
rise_in_order place xs = total_over no_rise merge_risings (rising_in place) (in_row_order (rows_in xs))

-- the starts of all windows, and the series, ascending
abbrev pub windows_of : List Sample → List ℤ
windows_of xs = ascending int_cmp (map (λ s. s.start) xs)

abbrev pub series_in : List Sample → List (List ℕ)
series_in xs = ascending (slice_cmp nat_cmp) (map (λ s. s.row.key) xs)

-- the rise of one series: window by window, and within a window by time
abbrev pub rise_of_series : ℕ → List Sample → List ℕ → Rising
rise_of_series place xs key = fold_of no_rise merge_risings (λ start. rise_in_order place (of_window key start xs)) (windows_of xs)

abbrev pub increase_in : Option Rise → ℤ
increase_in None = pos 0
increase_in (Some r) = r.increase

-- the increases of all series together
abbrev pub increase_of : ℕ → List Sample → ℤ
increase_of place xs = total_of (map (λ key. increase_in (rise_of_series place xs key).0) (series_in xs))

-- ---- by kind and role

-- what is answered where there is no field: no value
abbrev pub unmapped_metric : AggKind → Option ℤ
unmapped_metric Min = None
unmapped_metric Max = None
unmapped_metric kind = Some (pos 0)

abbrev pub metric_by : AggKind → Role → ℕ → List Sample → Option ℤ
metric_by Increase role place xs = Some (increase_of place xs)
metric_by kind Gauge place xs = gauge_metric kind (gauge_all place xs).0
metric_by kind role place xs = value_metric kind (numbers_at role place xs)
