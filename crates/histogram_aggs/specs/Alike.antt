-- Lists of samples that no search by series, by window and by whole buckets tells apart.
use Rattle.std.specs.Prelude.{◌≡◌, ℕ, ℤ, ◌%◌, ◌<◌, ◌≤◌, ◌⊎◌, Bool, true, List, filter, Option, Some, None}
use Rattle.time_text.specs.Bucket.{bucket_start}
use Rattle.time_text.specs.Interval.{ms_of}
use Rattle.row_cells.specs.declared.schemas.Role.TheVariants.{Dimension, Gauge, Counter}
use Rattle.row_cells.specs.declared.schemas.Field.{Field}
use Rattle.row_cells.specs.declared.rows.Cell.{Cell}
use Rattle.row_cells.specs.Each.{Each}
use Rattle.downsample_fold.specs.Columns.{cell_of}
use Rattle.row_cells.specs.Mapped.{IsRoleAt}
use Rattle.histogram_aggs.specs.declared.aggs.AggKind.{AggKind}
use Rattle.histogram_aggs.specs.declared.aggs.AggKind.TheVariants.{Min, Max, Increase, Terms, DateHistogram}
use Rattle.histogram_aggs.specs.Asks.{Asks, no_asks, ask}
use Rattle.histogram_aggs.specs.Samples.{Sample, documents_in}
use Rattle.histogram_aggs.specs.Metrics.{gauge_all, of_window, rise_in_order}
use Rattle.histogram_aggs.specs.Answers.{Placed, field_of}

-- a test of a series, a window's start and a bucket's start
abbrev pub Choice : Type 0
Choice = List ℕ → ℤ → ℤ → Bool

-- the samples that it takes, by buckets of n milliseconds
abbrev pub pick : ℕ → Choice → List Sample → List Sample
pick n chosen xs = filter (λ s. chosen s.row.key s.start (bucket_start n s.row.time)) xs

-- the dimensions of a series, by its key and the places of fields
abbrev pub Head : Type 0
Head = List ℕ → ℕ → Cell

-- a sample has the dimensions of its series, and stands for a document at least
pub record IsOfHead (fields : List Field) (head : Head) (s : Sample) : Type 0 where
  pub dimensions : (place : ℕ) → IsRoleAt Dimension fields place → cell_of place s.row ≡ head s.row.key place
  pub counted : 1 ≤ s.row.count

-- which metrics are asked for, by the places of fields: gauges that are held, and counters that keep their rise
abbrev pub Keeps : Type 0
Keeps = ℕ → Bool

pub record Alike (n : ℕ) (fields : List Field) (head : Head) (keeps : Keeps) (xs ys : List Sample) : Type 0 where
  pub first : Each (IsOfHead fields head) xs
  pub second : Each (IsOfHead fields head) ys
  pub counts : (chosen : Choice) → documents_in (pick n chosen xs) ≡ documents_in (pick n chosen ys)
  pub gauges : (place : ℕ) (chosen : Choice) → IsRoleAt Gauge fields place → keeps place ≡ true → gauge_all place (pick n chosen xs) ≡ gauge_all place (pick n chosen ys)
  pub rises : (place : ℕ) (key : List ℕ) (start : ℤ) (chosen : Choice) → IsRoleAt Counter fields place → keeps place ≡ true →
      rise_in_order place (of_window key start (pick n chosen xs)) ≡ rise_in_order place (of_window key start (pick n chosen ys))

-- ---- what may be asked of them

abbrev pub IsKeyed : Option Placed → Type 0
IsKeyed None = Unit {0}
IsKeyed (Some f) = f.field.role ≡ Dimension

abbrev pub IsOfGauge : Keeps → Option Placed → Type 0
IsOfGauge keeps None = Unit {0}
IsOfGauge keeps (Some f) = (f.field.role ≡ Gauge) × (keeps f.place ≡ true)

abbrev pub IsOfEnds : Keeps → Option Placed → Type 0
IsOfEnds keeps None = Unit {0}
IsOfEnds keeps (Some f) = ((f.field.role ≡ Gauge) × (keeps f.place ≡ true)) ⊎ (f.field.role ≡ Dimension)

abbrev pub IsOfCounter : Keeps → Option Placed → Type 0
IsOfCounter keeps None = Unit {0}
IsOfCounter keeps (Some f) = (f.field.role ≡ Counter) × (keeps f.place ≡ true)

-- buckets of whole multiples of n, buckets of dimensions; metrics of gauges, the least and greatest of dimensions, increases of counters
abbrev pub IsSeriesWise : ℕ → Keeps → AggKind → Option Placed → Type 0
IsSeriesWise n keeps (Terms size by_key) f = IsKeyed f
IsSeriesWise n keeps (DateHistogram interval least) f = (0 < ms_of interval) × (ms_of interval % n ≡ 0)
IsSeriesWise n keeps Increase f = IsOfCounter keeps f
IsSeriesWise n keeps Min f = IsOfEnds keeps f
IsSeriesWise n keeps Max f = IsOfEnds keeps f
IsSeriesWise n keeps kind f = IsOfGauge keeps f

abbrev pub AreSeriesWise : ℕ → Keeps → List Field → Asks → Type 0
AreSeriesWise n keeps fields no_asks = Unit {0}
AreSeriesWise n keeps fields (ask name kind place subs others) = IsSeriesWise n keeps kind (field_of fields place) × AreSeriesWise n keeps fields subs × AreSeriesWise n keeps fields others
