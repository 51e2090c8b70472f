-- Which types have which roles.
use Rattle.std.specs.Prelude.{Bool, true, false, ◌||◌, not}
use Rattle.row_cells.specs.declared.schemas.FieldType.{FieldType}
use Rattle.row_cells.specs.declared.schemas.FieldType.TheVariants.{Date, Keyword, Long, Integer, Short, Byte, Boolean, Aggregate}
use Rattle.row_cells.specs.declared.schemas.Role.{Role}
use Rattle.row_cells.specs.declared.schemas.Role.TheVariants.{Time, Dimension, Gauge, Counter, Label}

-- the types of whole numbers
abbrev pub is_whole : FieldType → Bool
is_whole Date = false
is_whole Keyword = false
is_whole Long = true
is_whole Integer = true
is_whole Short = true
is_whole Byte = true
is_whole Boolean = false
is_whole Aggregate = false

abbrev pub may_be_dimension : FieldType → Bool
may_be_dimension Date = false
may_be_dimension Keyword = true
may_be_dimension Long = true
may_be_dimension Integer = true
may_be_dimension Short = true
may_be_dimension Byte = true
may_be_dimension Boolean = true
may_be_dimension Aggregate = false

abbrev pub is_aggregate : FieldType → Bool
is_aggregate Date = false
is_aggregate Keyword = false
is_aggregate Long = false
is_aggregate Integer = false
is_aggregate Short = false
is_aggregate Byte = false
is_aggregate Boolean = false
is_aggregate Aggregate = true

abbrev pub is_date : FieldType → Bool
is_date Date = true
is_date Keyword = false
is_date Long = false
is_date Integer = false
is_date Short = false
is_date Byte = false
is_date Boolean = false
is_date Aggregate = false

-- a field of the type may have the role: the time is a date, a gauge a whole number or an aggregate, a counter a whole number,
-- and a label anything but an aggregate
abbrev pub may_have : FieldType → Role → Bool
may_have kind Time = is_date kind
may_have kind Dimension = may_be_dimension kind
may_have kind Gauge = is_whole kind || is_aggregate kind
may_have kind Counter = is_whole kind
may_have kind Label = not (is_aggregate kind)
