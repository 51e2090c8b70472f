-- Which rows fit a schema.
use Rattle.std.specs.Prelude.{◌≡◌, ℕ, ℤ, pos, ◌≤ℤ◌, ◌-◌, ◌*◌, ◌≤◌, ◌^◌, ◌⊎◌, List, [], ◌∷◌, length, Bool, true, false, IsUtf8, FitsSigned, unsigned_abs}
use Rattle.std.specs.Int.{w8, w16, w32, w64}
use Rattle.row_cells.specs.declared.scalars.Scalar.{Scalar}
use Rattle.row_cells.specs.declared.scalars.Scalar.TheVariants.{Whole, Flag, Word}
use Rattle.row_cells.specs.declared.schemas.FieldType.{FieldType}
use Rattle.row_cells.specs.declared.schemas.FieldType.TheVariants.{Date, Keyword, Long, Integer, Short, Byte, Boolean, Aggregate}
use Rattle.row_cells.specs.declared.schemas.Role.{Role}
use Rattle.row_cells.specs.declared.schemas.Role.TheVariants.{Time, Dimension as DimensionRole, Gauge as GaugeRole, Counter, Label}
use Rattle.row_cells.specs.declared.schemas.Field.{Field}
use Rattle.row_cells.specs.declared.schemas.Schema.{Schema}
use Rattle.row_cells.specs.declared.rows.Cell.{Cell}
use Rattle.row_cells.specs.declared.rows.Cell.TheVariants.{Absent, One, Many, Gauge, Rise as RiseCell}
use Rattle.row_cells.specs.declared.rows.Row.{Row}
use Rattle.fold_law.specs.declared.measures.Parts.{Parts}
use Rattle.fold_law.specs.declared.counters.Rise.{Rise}
use Rattle.row_cells.specs.Dimensions.{Dimension, key_bytes, IsBefore}
use Rattle.row_cells.specs.Limits.{longest_word, most_documents}
use Rattle.time_text.specs.Instant.{IsInstant}

-- a number in the range of a type; the parts of an aggregate have 64 bits
abbrev pub IsNumberOf : FieldType → ℤ → Type 0
IsNumberOf Date v = IsInstant v
IsNumberOf Long v = FitsSigned w64 v
IsNumberOf Integer v = FitsSigned w32 v
IsNumberOf Short v = FitsSigned w16 v
IsNumberOf Byte v = FitsSigned w8 v
IsNumberOf Aggregate v = FitsSigned w64 v
IsNumberOf Keyword v = ⊥
IsNumberOf Boolean v = ⊥

-- a single value of a type
abbrev pub IsValueOf : FieldType → Scalar → Type 0
IsValueOf Keyword (Word t) = IsUtf8 t × (length t ≤ longest_word)
IsValueOf Boolean (Flag b) = Unit {0}
IsValueOf Aggregate v = ⊥
IsValueOf kind (Whole v) = IsNumberOf kind v
IsValueOf kind v = ⊥

-- one value may follow another in a label: texts ascend strictly, numbers and truth values may repeat
abbrev pub MayFollow : Scalar → Scalar → Type 0
MayFollow (Word a) (Word b) = IsBefore a b
MayFollow (Whole a) (Whole b) = a ≤ℤ b
MayFollow (Flag true) (Flag false) = ⊥
MayFollow (Flag a) (Flag b) = Unit {0}
MayFollow a b = ⊥

-- the values of a label, which may follow the value `first`
abbrev pub AreValuesAfter : FieldType → Scalar → List Scalar → Type 0
AreValuesAfter kind first [] = Unit {0}
AreValuesAfter kind first (v ∷ vs) = MayFollow first v × IsValueOf kind v × AreValuesAfter kind v vs

-- one or more values in order
abbrev pub AreValues : FieldType → List Scalar → Type 0
AreValues kind [] = ⊥
AreValues kind (v ∷ vs) = IsValueOf kind v × AreValuesAfter kind v vs

-- the parts of a gauge over a number of documents
pub record PartsFit (kind : FieldType) (documents : ℕ) (p : Parts) : Type 0 where
  pub least : IsNumberOf kind p.min
  pub greatest : IsNumberOf kind p.max
  pub sum_within : unsigned_abs p.sum ≤ documents * 2 ^ 63
  pub counted : pos 1 ≤ℤ p.count
  pub count_within : p.count ≤ℤ pos (documents * (2 ^ 63 - 1))

-- the four parts that one document gave: each has 64 bits
pub record IsAggregate (p : Parts) : Type 0 where
  pub least : FitsSigned w64 p.min
  pub greatest : FitsSigned w64 p.max
  pub sum_fits : FitsSigned w64 p.sum
  pub counted : pos 1 ≤ℤ p.count
  pub count_fits : FitsSigned w64 p.count

-- the rise of a counter over a number of documents
pub record RiseFits (kind : FieldType) (documents : ℕ) (r : Rise) : Type 0 where
  pub first_fits : IsNumberOf kind r.first
  pub last_fits : IsNumberOf kind r.last
  pub rose : pos 0 ≤ℤ r.increase
  pub within : r.increase ≤ℤ pos ((documents - 1) * 2 ^ 64)
  pub alone : documents ≡ 1 → r.first ≡ r.last

abbrev pub DimensionFits : FieldType → Cell → Type 0
DimensionFits kind Absent = Unit {0}
DimensionFits kind (One v) = IsValueOf kind v
DimensionFits kind cell = ⊥

abbrev pub LabelFits : FieldType → Cell → Type 0
LabelFits kind Absent = Unit {0}
LabelFits kind (Many vs) = AreValues kind vs
LabelFits kind cell = ⊥

-- a raw gauge is a number, or the parts of an aggregate
abbrev pub RawGaugeFits : FieldType → Cell → Type 0
RawGaugeFits kind Absent = Unit {0}
RawGaugeFits kind (One (Whole v)) = IsValueOf kind (Whole v)
RawGaugeFits kind (Gauge p) = (kind ≡ Aggregate) × IsAggregate p
RawGaugeFits kind cell = ⊥

abbrev pub FoldedGaugeFits : FieldType → ℕ → Cell → Type 0
FoldedGaugeFits kind documents Absent = Unit {0}
FoldedGaugeFits kind documents (Gauge p) = PartsFit kind documents p
FoldedGaugeFits kind documents cell = ⊥

abbrev pub GaugeFits : Bool → FieldType → ℕ → Cell → Type 0
GaugeFits false kind documents cell = RawGaugeFits kind cell
GaugeFits true kind documents cell = FoldedGaugeFits kind documents cell

-- a counter that keeps a single number
abbrev pub PlainCounterFits : FieldType → Cell → Type 0
PlainCounterFits kind Absent = Unit {0}
PlainCounterFits kind (One (Whole v)) = IsValueOf kind (Whole v)
PlainCounterFits kind cell = ⊥

-- a counter that keeps its rise
abbrev pub RisenCounterFits : FieldType → ℕ → Cell → Type 0
RisenCounterFits kind documents Absent = Unit {0}
RisenCounterFits kind documents (RiseCell r) = RiseFits kind documents r
RisenCounterFits kind documents cell = ⊥

-- by whether the schema is folded, and whether it rises
abbrev pub CounterFits : Bool → Bool → FieldType → ℕ → Cell → Type 0
CounterFits false rises kind documents cell = PlainCounterFits kind cell
CounterFits true false kind documents cell = PlainCounterFits kind cell
CounterFits true true kind documents cell = RisenCounterFits kind documents cell

abbrev pub TimeFits : Cell → Type 0
TimeFits Absent = Unit {0}
TimeFits cell = ⊥

-- a cell fits its field
abbrev pub CellFits : Bool → Bool → FieldType → Role → ℕ → Cell → Type 0
CellFits folded rises kind Time documents cell = TimeFits cell
CellFits folded rises kind DimensionRole documents cell = DimensionFits kind cell
CellFits folded rises kind GaugeRole documents cell = GaugeFits folded kind documents cell
CellFits folded rises kind Counter documents cell = CounterFits folded rises kind documents cell
CellFits folded rises kind Label documents cell = LabelFits kind cell

-- a cell for each field, which fits it
abbrev pub CellsFit : Bool → Bool → ℕ → List Field → List Cell → Type 0
CellsFit folded rises documents [] [] = Unit {0}
CellsFit folded rises documents (f ∷ fs) (c ∷ cs) = CellFits folded rises f.kind f.role documents c × CellsFit folded rises documents fs cs
CellsFit folded rises documents fs cs = ⊥

-- a cell's dimension in front of those that follow, where its field is a dimension and has a value
abbrev pub with_dimension : Role → List ℕ → Cell → List Dimension → List Dimension
with_dimension DimensionRole path (One v) ds = record { path = path; value = v } ∷ ds
with_dimension role path cell ds = ds

-- the dimensions that are present, in the order of the fields
abbrev pub dimensions_of : List Field → List Cell → List Dimension
dimensions_of (f ∷ fs) (c ∷ cs) = with_dimension f.role f.path c (dimensions_of fs cs)
dimensions_of fs cs = []

-- a row fits a schema: its cells do, its key is that of its dimensions, its time is an instant, and it counts one document,
-- or some documents in a folded schema
pub record Fits (schema : Schema) (row : Row) : Type 0 where
  pub cells_fit : CellsFit schema.folded schema.rises row.count schema.fields row.cells
  pub key_is : row.key ≡ key_bytes (dimensions_of schema.fields row.cells)
  pub instant : IsInstant row.time
  pub counted : 1 ≤ row.count
  pub count_within : row.count ≤ most_documents
  pub alone : schema.folded ≡ false → row.count ≡ 1

-- the schema of the folds of its rows
abbrev pub folded_form : Schema → Schema
folded_form schema = record schema { folded = true }

-- the schema of single documents
abbrev pub raw_form : Schema → Schema
raw_form schema = record schema { folded = false }

-- a row fits the schema as it is, or as a fold
abbrev pub FitsEither : Schema → Row → Type 0
FitsEither schema row = Fits schema row ⊎ Fits (folded_form schema) row

-- fields whose paths ascend strictly, all of them after the path `below`
abbrev pub FieldsAscendAfter : List ℕ → List Field → Type 0
FieldsAscendAfter below [] = Unit {0}
FieldsAscendAfter below (f ∷ fs) = IsBefore below f.path × FieldsAscendAfter f.path fs

-- fields whose paths ascend strictly
abbrev pub FieldsAscend : List Field → Type 0
FieldsAscend fs = FieldsAscendAfter [] fs
