-- What is kept of a counter, and the samples that it stands for.
use Rattle.std.specs.Prelude.{◌≡◌, ℕ, ℤ, List, filter, Option, Some, None, if◌then◌else◌}
use Rattle.std.specs.BTreeMap.{BTreeMap, get}
use Rattle.std.specs.Cmp.Lexicographic.{slice_cmp}
use Rattle.std.specs.Ordering.{nat_cmp, int_cmp, int_eq, is_eq, ordering_then}
use Rattle.std.specs.declared.cmp.Ordering.{Ordering}
use Rattle.fold_law.specs.declared.counters.Rise.{Rise}
use Rattle.fold_law.specs.declared.counters.Rising.{Rising}
use Rattle.fold_law.specs.Rises.{no_rise, merge_risings}
use Rattle.downsample_fold.specs.Measures.{rising_in}
use Rattle.downsample_fold.specs.Totals.{total_over}
use Rattle.histogram_aggs.specs.Metrics.{of_window}
use Rattle.histogram_aggs.specs.Samples.{Sample, rows_in}

-- moments, each the start of a window and a time, by window and then by time
abbrev pub moment_cmp : ℤ × ℤ → ℤ × ℤ → Ordering
moment_cmp = λ a b. ordering_then (int_cmp a.0 b.0) (int_cmp a.1 b.1)

-- the samples of a series at a moment
abbrev pub at_moment : List ℕ → ℤ × ℤ → List Sample → List Sample
at_moment key at xs = filter (λ s. int_eq s.row.time at.1) (of_window key at.0 xs)

-- the rise of a counter there
abbrev pub rise_at : ℕ → List ℕ → List Sample → ℤ × ℤ → Rising
rise_at place key xs at = total_over no_rise merge_risings (rising_in place) (rows_in (at_moment key at xs))

-- what is kept of a series: the rise at each moment that has one
abbrev pub SeriesStands : ℕ → List ℕ → (ℤ × ℤ → Option Rise) → List Sample → Type 0
SeriesStands place key rise xs = (at : ℤ × ℤ) → rise at ≡ (rise_at place key xs at).0

abbrev pub rise_held : Option (BTreeMap (ℤ × ℤ) Rise) → ℤ × ℤ → Option Rise
rise_held None at = None
rise_held (Some series) at = get moment_cmp series at

-- for each series there are the rises of its moments
abbrev pub RisesStand : ℕ → BTreeMap (List ℕ) (BTreeMap (ℤ × ℤ) Rise) → List Sample → Type 0
RisesStand place m xs = (key : List ℕ) → SeriesStands place key (rise_held (get (slice_cmp nat_cmp) m key)) xs

-- one rise: at a moment of a series, and at that of a series among all
abbrev pub rise_where : ℤ × ℤ → Rise → ℤ × ℤ → Option Rise
rise_where at rise p = if is_eq (moment_cmp at p) then Some rise else None

abbrev pub rise_in : List ℕ → ℤ × ℤ → Rise → List ℕ → ℤ × ℤ → Option Rise
rise_in key at rise k p = if is_eq (slice_cmp nat_cmp key k) then rise_where at rise p else None
