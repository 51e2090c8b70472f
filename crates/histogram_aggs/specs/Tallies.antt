-- Metrics in memory, and the samples that they stand for.
use Rattle.std.specs.Prelude.{ℕ, ℤ, pos, ◌+ℤ◌, ◌+◌, List, length, map, Option, Some, None, Bool, true, false}
use Rattle.std.specs.Int.{int_min, int_max}
use Rattle.std.specs.Ordering.{int_cmp}
use Rattle.fold_law.specs.Gauges.{merge_gauges}
use Rattle.row_cells.specs.declared.schemas.FieldType.{FieldType}
use Rattle.row_cells.specs.declared.schemas.FieldType.TheVariants.{Date, Keyword, Long, Integer, Short, Byte, Boolean, Aggregate}
use Rattle.row_cells.specs.declared.schemas.Role.{Role}
use Rattle.row_cells.specs.declared.schemas.Role.TheVariants.{Gauge as GaugeRole}
use Rattle.row_cells.specs.declared.rows.Cell.{Cell}
use Rattle.row_cells.specs.Merging.{parts_of}
use Rattle.downsample_fold.specs.Columns.{total_of}
use Rattle.search_filter.specs.Values.{number_of}
use Rattle.histogram_aggs.specs.declared.aggs.AggKind.{AggKind}
use Rattle.histogram_aggs.specs.declared.aggs.AggKind.TheVariants.{Min, Max, Sum, ValueCount, Increase, Terms, DateHistogram}
use Rattle.histogram_aggs.specs.declared.tallies.Tally.{Tally}
use Rattle.histogram_aggs.specs.declared.tallies.Tally.TheVariants.{Measured, Least, Greatest, Total, Number}
use Rattle.histogram_aggs.specs.Sets.{ascending}
use Rattle.histogram_aggs.specs.Samples.{Sample, values_by}
use Rattle.histogram_aggs.specs.Metrics.{first_of, last_of, gauge_all, gauge_metric, numbers_at}

-- of numbers, what the kind asks for
abbrev pub of_numbers : AggKind → List ℤ → Tally
of_numbers Min vs = Least (first_of (ascending int_cmp vs))
of_numbers Max vs = Greatest (last_of (ascending int_cmp vs))
of_numbers Sum vs = Total (total_of vs)
of_numbers kind vs = Number (length vs)

-- of samples, at a field of that role: a gauge's parts, and else what the kind asks of the numbers
abbrev pub tally_over : AggKind → Role → ℕ → List Sample → Tally
tally_over kind GaugeRole place xs = Measured (gauge_all place xs)
tally_over kind role place xs = of_numbers kind (numbers_at role place xs)

-- of a time and a cell
abbrev pub tally_by : AggKind → Role → ℤ → Cell → Tally
tally_by kind GaugeRole time cell = Measured (record { 0 = parts_of cell })
tally_by kind role time cell = of_numbers kind (map number_of (values_by role time cell))

abbrev pub either_least : Option ℤ → Option ℤ → Option ℤ
either_least None w = w
either_least (Some v) None = Some v
either_least (Some v) (Some w) = Some (int_min v w)

abbrev pub either_greatest : Option ℤ → Option ℤ → Option ℤ
either_greatest None w = w
either_greatest (Some v) None = Some v
either_greatest (Some v) (Some w) = Some (int_max v w)

-- two of one kind and role together
abbrev pub both_tallies : Tally → Tally → Tally
both_tallies (Measured g) (Measured h) = Measured (merge_gauges g h)
both_tallies (Least v) (Least w) = Least (either_least v w)
both_tallies (Greatest v) (Greatest w) = Greatest (either_greatest v w)
both_tallies (Total v) (Total w) = Total (v +ℤ w)
both_tallies (Number v) (Number w) = Number (v + w)
both_tallies a b = a

-- what a metric tells
abbrev pub told : AggKind → Tally → Option ℤ
told kind (Measured g) = gauge_metric kind g.0
told kind (Least v) = v
told kind (Greatest v) = v
told kind (Total v) = Some v
told kind (Number n) = Some (pos n)

-- a metric of single values: a least, a greatest, a sum or a number
abbrev pub is_measure : AggKind → Bool
is_measure Min = true
is_measure Max = true
is_measure Sum = true
is_measure ValueCount = true
is_measure Increase = false
is_measure (Terms size by_key) = false
is_measure (DateHistogram interval least) = false

abbrev pub is_date : FieldType → Bool
is_date Date = true
is_date Keyword = false
is_date Long = false
is_date Integer = false
is_date Short = false
is_date Byte = false
is_date Boolean = false
is_date Aggregate = false

-- a metric that is shown with the text of a date
abbrev pub is_dated : AggKind → FieldType → Bool
is_dated Min type = is_date type
is_dated Max type = is_date type
is_dated kind type = false
