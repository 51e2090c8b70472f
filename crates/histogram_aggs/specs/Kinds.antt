-- The names of kinds, and which fields they may ask.
use Rattle.std.specs.Prelude.{ℕ, List, Bool, true, false, Option, Some, None, codes, bytes_eq, if◌then◌else◌}
use Rattle.row_cells.specs.declared.schemas.FieldType.{FieldType}
use Rattle.row_cells.specs.declared.schemas.FieldType.TheVariants.{Date, Keyword, Long, Integer, Short, Byte, Boolean, Aggregate}
use Rattle.row_cells.specs.declared.schemas.Role.{Role}
use Rattle.row_cells.specs.declared.schemas.Role.TheVariants.{Time, Dimension, Gauge, Counter, Label}
use Rattle.row_cells.specs.declared.schemas.Field.{Field}
use Rattle.histogram_aggs.specs.declared.aggs.AggKind.{AggKind}
use Rattle.histogram_aggs.specs.declared.aggs.AggKind.TheVariants.{Min, Max, Sum, ValueCount, Increase, Terms, DateHistogram}

abbrev pub kind_name : AggKind → List ℕ
kind_name Min = codes "min"
kind_name Max = codes "max"
kind_name Sum = codes "sum"
kind_name ValueCount = codes "value_count"
kind_name Increase = codes "increase"
kind_name (Terms size by_key) = codes "terms"
kind_name (DateHistogram interval least) = codes "date_histogram"

-- the metric of a name
abbrev pub metric_named : List ℕ → Option AggKind
metric_named name =
    if bytes_eq name (codes "min") then Some Min
    else (if bytes_eq name (codes "max") then Some Max
    else (if bytes_eq name (codes "sum") then Some Sum
    else (if bytes_eq name (codes "value_count") then Some ValueCount
    else (if bytes_eq name (codes "increase") then Some Increase else None))))

-- its answer has buckets, which may have aggregations below
abbrev pub has_buckets : AggKind → Bool
has_buckets Min = false
has_buckets Max = false
has_buckets Sum = false
has_buckets ValueCount = false
has_buckets Increase = false
has_buckets (Terms size by_key) = true
has_buckets (DateHistogram interval least) = true

-- ---- fields

abbrev pub is_whole : FieldType → Bool
is_whole Date = false
is_whole Keyword = false
is_whole Long = true
is_whole Integer = true
is_whole Short = true
is_whole Byte = true
is_whole Boolean = false
is_whole Aggregate = false

-- whole numbers, or instants, which are numbers of milliseconds
abbrev pub is_number : FieldType → Bool
is_number Date = true
is_number kind = is_whole kind

-- single values that may be keys of buckets
abbrev pub is_key : FieldType → Bool
is_key Keyword = true
is_key Boolean = true
is_key kind = is_whole kind

-- a least and a greatest: of the time, of metrics, of numbers
abbrev pub has_ends : FieldType → Role → Bool
has_ends kind Time = true
has_ends kind Dimension = is_number kind
has_ends kind Gauge = true
has_ends kind Counter = true
has_ends kind Label = is_number kind

-- a sum: of gauges, of whole dimensions
abbrev pub has_sum : FieldType → Role → Bool
has_sum kind Time = false
has_sum kind Dimension = is_whole kind
has_sum kind Gauge = true
has_sum kind Counter = false
has_sum kind Label = false

-- buckets of values: of dimensions, and of labels but dates
abbrev pub has_keys : FieldType → Role → Bool
has_keys kind Time = false
has_keys kind Dimension = true
has_keys kind Gauge = false
has_keys kind Counter = false
has_keys kind Label = is_key kind

abbrev pub is_counter : Role → Bool
is_counter Time = false
is_counter Dimension = false
is_counter Gauge = false
is_counter Counter = true
is_counter Label = false

abbrev pub is_time : Role → Bool
is_time Time = true
is_time Dimension = false
is_time Gauge = false
is_time Counter = false
is_time Label = false

-- the kind may ask the field
abbrev pub supports : AggKind → Field → Bool
supports Min f = has_ends f.kind f.role
supports Max f = has_ends f.kind f.role
supports Sum f = has_sum f.kind f.role
supports ValueCount f = true
supports Increase f = is_counter f.role
supports (Terms size by_key) f = has_keys f.kind f.role
supports (DateHistogram interval least) f = is_time f.role
