-- What leaves of a field are, in memory; for private clauses.
use Rattle.std.specs.Prelude.{◌≡◌, Bool, true, false, List, [], ◌∷◌, not, Option, Some, None, if◌then◌else◌, Vec}
use Rattle.std.specs.Global.{Global}
use Rattle.std.specs.List.{list_any}
use Rattle.row_cells.specs.declared.scalars.Scalar.{Scalar}
use Rattle.row_cells.specs.declared.scalars.Scalar.TheVariants.{Whole, Flag, Word}
use Rattle.row_cells.specs.declared.schemas.FieldType.{FieldType}
use Rattle.row_cells.specs.declared.rows.Cell.{Cell}
use Rattle.row_cells.specs.declared.rows.Cell.TheVariants.{Absent, One, Many, Gauge, Rise}
use Rattle.row_cells.specs.Fitting.{IsAggregate, IsValueOf}
use Rattle.serde_json.specs.Data.{Data}
use Rattle.ts_mapping.specs.Roles.{is_aggregate}
use Rattle.synthetic_source.specs.Faults.{is_read}
use Rattle.synthetic_source.specs.Rows.{readings_of, single_cell}
use Rattle.synthetic_source.specs.declared.errors.DocKind.{DocKind}
use Rattle.synthetic_source.specs.declared.errors.DocKind.TheVariants.{BadAggregate, WrongType}
use Rattle.synthetic_source.specs.declared.reading.Read.{Read}
use Rattle.synthetic_source.specs.declared.reading.Read.TheVariants.{Fault, Good}

abbrev pub wrong_kind : FieldType → DocKind
wrong_kind kind = if is_aggregate kind then BadAggregate else WrongType

-- a cell of one value, or an aggregate's
abbrev pub FitsOne : FieldType → Cell → Type 0
FitsOne kind Absent = ⊥
FitsOne kind (One v) = (is_aggregate kind ≡ false) × IsValueOf kind v
FitsOne kind (Many vs) = ⊥
FitsOne kind (Gauge p) = (is_aggregate kind ≡ true) × IsAggregate p
FitsOne kind (Rise r) = ⊥

-- what a leaf is
abbrev pub IsOneRead : FieldType → Data → Read → Type 0
IsOneRead kind leaf (Fault k) = (is_read kind leaf ≡ false) × (k ≡ wrong_kind kind)
IsOneRead kind leaf (Good cell) = (is_read kind leaf ≡ true) × (cell ≡ single_cell kind (leaf ∷ [])) × FitsOne kind cell

abbrev pub AllValues : FieldType → List Scalar → Type 0
AllValues kind [] = Unit {0}
AllValues kind (v ∷ vs) = IsValueOf kind v × AllValues kind vs

abbrev pub any_unread : FieldType → List Data → Bool
any_unread kind leaves = list_any (λ leaf. not (is_read kind leaf)) leaves

abbrev pub IsWholeValue : Scalar → Type 0
IsWholeValue (Whole v) = Unit {0}
IsWholeValue (Flag b) = ⊥
IsWholeValue (Word t) = ⊥

abbrev pub AreWhole : List Scalar → Type 0
AreWhole [] = Unit {0}
AreWhole (v ∷ vs) = IsWholeValue v × AreWhole vs

-- the readings of leaves, where each has one
abbrev pub AreReadings : FieldType → List Data → Option (Vec Scalar Global) → Type 0
AreReadings kind leaves None = any_unread kind leaves ≡ true
AreReadings kind leaves (Some vs) = (any_unread kind leaves ≡ false) × (vs.items ≡ readings_of kind leaves) × AllValues kind vs.items
