-- What a field shows, in memory. Dates are instants.
use Rattle.std.specs.Prelude.{ℤ, List, [], ◌∷◌}
use Rattle.std.proofs.Math.Dec.{T_prop}
use Rattle.row_cells.specs.declared.scalars.Scalar.{Scalar}
use Rattle.row_cells.specs.declared.scalars.Scalar.TheVariants.{Whole, Flag, Word}
use Rattle.row_cells.specs.declared.schemas.FieldType.{FieldType}
use Rattle.row_cells.specs.declared.schemas.FieldType.TheVariants.{Date, Keyword, Long, Integer, Short, Byte, Boolean, Aggregate}
use Rattle.row_cells.specs.declared.schemas.Field.{Field}
use Rattle.row_cells.specs.declared.rows.Cell.{Cell}
use Rattle.row_cells.specs.declared.rows.Cell.TheVariants.{Absent, One, Many, Gauge, Rise}
use Rattle.time_text.specs.Instant.{IsInstant}
use Rattle.time_text.specs.Printed.{instant_text}
use Rattle.serde_json.specs.Data.{Data, number, string, unsigned}
use Rattle.synthetic_source.specs.Normal.{cell_data}
use Rattle.synthetic_source.specs.declared.what.What.{What}
use Rattle.synthetic_source.specs.declared.what.What.TheVariants.{Moment, Count, Held}

abbrev pub what_data : What → Data
what_data (Moment t) = string (instant_text t)
what_data (Count n) = number (unsigned n)
what_data (Held kind cell) = cell_data kind cell.now

abbrev pub IsDatedNumber : FieldType → ℤ → Type 0
IsDatedNumber Date v = IsInstant v
IsDatedNumber Keyword v = Unit {0}
IsDatedNumber Long v = Unit {0}
IsDatedNumber Integer v = Unit {0}
IsDatedNumber Short v = Unit {0}
IsDatedNumber Byte v = Unit {0}
IsDatedNumber Boolean v = Unit {0}
IsDatedNumber Aggregate v = Unit {0}

abbrev pub IsDated : FieldType → Scalar → Type 0
IsDated kind (Whole v) = IsDatedNumber kind v
IsDated kind (Flag b) = Unit {0}
IsDated kind (Word t) = Unit {0}

abbrev pub AreDated : FieldType → List Scalar → Type 0
AreDated kind [] = Unit {0}
AreDated kind (v ∷ vs) = IsDated kind v × AreDated kind vs

-- the dates of a cell are instants
abbrev pub IsShowable : FieldType → Cell → Type 0
IsShowable kind Absent = Unit {0}
IsShowable kind (One v) = IsDated kind v
IsShowable kind (Many vs) = AreDated kind vs
IsShowable kind (Gauge p) = Unit {0}
IsShowable kind (Rise r) = IsDatedNumber kind r.last

abbrev pub IsWhat : What → Type 0
IsWhat (Moment t) = IsInstant t
IsWhat (Count n) = Unit {0}
IsWhat (Held kind cell) = IsShowable kind cell.now

-- these facts have one proof at most
number_prop : (kind : FieldType) (v : ℤ) → IsProp (IsDatedNumber kind v)
number_prop Date v = hlevel (T_prop)
number_prop Keyword v = hlevel
number_prop Long v = hlevel
number_prop Integer v = hlevel
number_prop Short v = hlevel
number_prop Byte v = hlevel
number_prop Boolean v = hlevel
number_prop Aggregate v = hlevel

dated_prop : (kind : FieldType) (v : Scalar) → IsProp (IsDated kind v)
dated_prop kind (Whole v) = number_prop kind v
dated_prop kind (Flag b) = hlevel
dated_prop kind (Word t) = hlevel

all_prop : (kind : FieldType) (vs : List Scalar) → IsProp (AreDated kind vs)
all_prop kind [] = hlevel
all_prop kind (v ∷ vs) = hlevel (dated_prop kind v, all_prop kind vs)

pub what_prop : (w : What) → IsProp (IsWhat w)
what_prop (Moment t) = hlevel (T_prop)
what_prop (Count n) = hlevel
what_prop (Held kind cell) = cell_prop kind cell.now
  where
    cell_prop : (kind : FieldType) (cell : Cell) → IsProp (IsShowable kind cell)
    cell_prop kind Absent = hlevel
    cell_prop kind (One v) = dated_prop kind v
    cell_prop kind (Many vs) = all_prop kind vs
    cell_prop kind (Gauge p) = hlevel
    cell_prop kind (Rise r) = number_prop kind r.last

-- a cell for each field, whose dates are instants
abbrev pub AreShowable : List Field → List Cell → Type 0
AreShowable [] [] = Unit {0}
AreShowable (f ∷ fs) (c ∷ cs) = IsShowable f.kind c × AreShowable fs cs
AreShowable fs cs = ⊥
