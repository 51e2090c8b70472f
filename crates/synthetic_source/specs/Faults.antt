-- What is wrong with a document, path by path.
use Rattle.std.specs.Prelude.{◌≡◌, ◌⊎◌, ℕ, ℤ, Bool, true, false, ◌||◌, ◌&&◌, not, nat_lt, List, [], ◌∷◌, length, codes, bytes_eq, if◌then◌else◌, Option, Some, None}
use Rattle.std.specs.List.{list_any}
use Rattle.std.specs.Option.{is_some}
use Rattle.row_cells.specs.declared.scalars.Scalar.{Scalar}
use Rattle.row_cells.specs.declared.scalars.Scalar.TheVariants.{Whole, Flag, Word}
use Rattle.row_cells.specs.declared.schemas.FieldType.{FieldType}
use Rattle.row_cells.specs.declared.schemas.FieldType.TheVariants.{Date}
use Rattle.row_cells.specs.declared.schemas.Role.{Role}
use Rattle.row_cells.specs.declared.schemas.Role.TheVariants.{Time, Dimension, Gauge, Counter, Label}
use Rattle.row_cells.specs.declared.schemas.Field.{Field}
use Rattle.row_cells.specs.declared.schemas.Schema.{Schema}
use Rattle.row_cells.specs.Dimensions.{IsBefore}
use Rattle.serde_json.specs.Data.{Data}
use Rattle.json_walk.specs.Leaves.{leaves_of}
use Rattle.ts_mapping.specs.Paths.{is_below, timestamp}
use Rattle.ts_mapping.specs.Roles.{is_aggregate}
use Rattle.ts_mapping.specs.Readings.{aggregate_of, reading_of}
use Rattle.synthetic_source.specs.declared.errors.DocKind.{DocKind}
use Rattle.synthetic_source.specs.declared.errors.DocKind.TheVariants.{NoTime, BadTime, Unmapped, NotLeaf, WrongType, ManyValues, BadAggregate}
use Rattle.synthetic_source.specs.declared.errors.DocError.{DocError}
use Rattle.synthetic_source.specs.declared.errors.DocError.TheVariants.{Refused, NoMemory}

-- the paths of the aggregates, at which an object is a leaf
abbrev pub stops_of : List Field → List (List ℕ)
stops_of [] = []
stops_of (f ∷ fs) = if is_aggregate f.kind then f.path ∷ stops_of fs else stops_of fs

-- the leaves of a document at a path
abbrev pub leaves_in : Schema → Data → List ℕ → List Data
leaves_in schema d p = leaves_of (stops_of schema.fields) d p

-- the field of this path
abbrev pub field_at : List ℕ → List Field → Option Field
field_at p [] = None
field_at p (f ∷ fs) = if bytes_eq p f.path then Some f else field_at p fs

-- a leaf has a reading at a field of the type
abbrev pub is_read : FieldType → Data → Bool
is_read kind leaf = if is_aggregate kind then is_some (aggregate_of leaf) else is_some (reading_of kind leaf)

-- fields with one value: dimensions and metrics
abbrev pub takes_one : Role → Bool
takes_one Time = false
takes_one Dimension = true
takes_one Gauge = true
takes_one Counter = true
takes_one Label = false

-- leaves at a field: each has to have a reading, and there is one at most where the field takes one
abbrev pub mapped_fault : FieldType → Role → List Data → Option DocKind
mapped_fault kind role leaves =
    if list_any (λ leaf. not (is_read kind leaf)) leaves then Some (if is_aggregate kind then BadAggregate else WrongType)
    else (if takes_one role && nat_lt 1 (length leaves) then Some ManyValues else None)

abbrev pub doc_count : List ℕ
doc_count = codes "_doc_count"

-- one of the paths lies below the other
abbrev pub near : List ℕ → List ℕ → Bool
near p q = is_below p q || is_below q p

-- leaves where no field is: no field may be above or below them; else they are a fault where mappings are strict, and at
-- `_doc_count`
abbrev pub stray_fault : Bool → List Field → List ℕ → Option DocKind
stray_fault strict fields p =
    if list_any (λ f. near p f.path) fields then Some NotLeaf
    else (if strict || bytes_eq p doc_count then Some Unmapped else None)

abbrev pub fault_by : Bool → List Field → List ℕ → List Data → Option Field → Option DocKind
fault_by strict fields p leaves None = stray_fault strict fields p
fault_by strict fields p leaves (Some f) = mapped_fault f.kind f.role leaves

abbrev pub fault_of : Bool → List Field → List ℕ → List Data → Option DocKind
fault_of strict fields p [] = None
fault_of strict fields p (leaf ∷ leaves) = fault_by strict fields p (leaf ∷ leaves) (field_at p fields)

-- the fault of a document at a path, other than its time's
unfoldable pub fault_at : Schema → Bool → Data → List ℕ → Option DocKind
fault_at schema strict d p = fault_of strict schema.fields p (leaves_in schema d p)

-- the first fault in byte order of the paths
pub record IsFirstFault (schema : Schema) (strict : Bool) (d : Data) (kind : DocKind) (path : List ℕ) : Type 0 where
  pub here : fault_at schema strict d path ≡ Some kind
  pub before : (p : List ℕ) → IsBefore p path → fault_at schema strict d p ≡ None

abbrev pub HasNoFault : Schema → Bool → Data → Type 0
HasNoFault schema strict d = (p : List ℕ) → fault_at schema strict d p ≡ None

-- the number of a reading
abbrev pub number_read : Option Scalar → Option ℤ
number_read None = None
number_read (Some (Whole v)) = Some v
number_read (Some (Flag b)) = None
number_read (Some (Word t)) = None

-- the time of leaves: that of the one leaf, where it is an instant
abbrev pub time_in : List Data → Option ℤ
time_in [] = None
time_in (leaf ∷ []) = number_read (reading_of Date leaf)
time_in (leaf ∷ more ∷ leaves) = None

abbrev pub unless_time : Option ℤ → Option DocKind
unless_time (Some t) = None
unless_time None = Some BadTime

abbrev pub time_fault_in : List Data → Option DocKind
time_fault_in [] = Some NoTime
time_fault_in (leaf ∷ leaves) = unless_time (time_in (leaf ∷ leaves))

-- the time of a document
unfoldable pub time_of : Data → Option ℤ
time_of d = time_in (leaves_of [] d timestamp)

-- what is wrong with the time
unfoldable pub time_fault : Data → Option DocKind
time_fault d = time_fault_in (leaves_of [] d timestamp)

-- why a document has no time
abbrev pub IsTimeFault : Data → DocError → Type 0
IsTimeFault d (Refused kind path) = (time_fault d ≡ Some kind) × (path ≡ timestamp)
IsTimeFault d NoMemory = Unit {0}

-- the first fault but for the time's
abbrev pub IsCellFault : Schema → Bool → Data → DocError → Type 0
IsCellFault schema strict d (Refused kind path) = IsFirstFault schema strict d kind path
IsCellFault schema strict d NoMemory = Unit {0}

-- why a document has no row: a fault of its time, and else its first fault
abbrev pub IsFault : Schema → Bool → Data → DocError → Type 0
IsFault schema strict d (Refused kind path) = IsTimeFault d (Refused kind path) ⊎ ((time_fault d ≡ None) × IsFirstFault schema strict d kind path)
IsFault schema strict d NoMemory = Unit {0}
