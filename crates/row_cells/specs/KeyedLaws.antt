-- Cells that fit a schema spell a key.
use Rattle.std.specs.Prelude.{◌≡◌, ℕ, ℤ, zero, suc, ◌<◌, ◌≤◌, ◌||◌, Bool, true, false, List, [], ◌∷◌, ◌++◌, length, Some, FitsSigned}
use Rattle.std.specs.List.{slice_get}
use Rattle.std.specs.Int.{w64}
use Rattle.std.proofs.Common.{refl, ap, sym, arith, length-append}
use Rattle.std.proofs.lemmas.Int.{ints}
use Rattle.row_cells.specs.declared.scalars.Scalar.{Scalar}
use Rattle.row_cells.specs.declared.scalars.Scalar.TheVariants.{Whole, Flag, Word}
use Rattle.row_cells.specs.declared.schemas.FieldType.{FieldType}
use Rattle.row_cells.specs.declared.schemas.FieldType.TheVariants.{Date, Keyword, Long, Integer, Short, Byte, Boolean, Aggregate}
use Rattle.row_cells.specs.declared.schemas.Role.{Role}
use Rattle.row_cells.specs.declared.schemas.Role.TheVariants.{Time, Dimension as DimensionRole, Gauge as GaugeRole, Counter, Label}
use Rattle.row_cells.specs.declared.schemas.Field.{Field}
use Rattle.row_cells.specs.declared.schemas.Schema.{Schema}
use Rattle.row_cells.specs.declared.rows.Cell.{Cell}
use Rattle.row_cells.specs.declared.rows.Cell.TheVariants.{Absent, One, Many, Gauge, Rise as RiseCell}
use Rattle.row_cells.specs.Dimensions.{Dimension, text_bytes, value_bytes, dimension_bytes, key_bytes, IsBefore, IsKeyValue, IsKey, AreDimensions, AreDimensionsAfter}
use Rattle.row_cells.specs.Fitting.{CellFits, CellsFit, FieldsAscendAfter, IsNumberOf, IsValueOf, dimensions_of, with_dimension}
use Rattle.row_cells.specs.Limits.{longest_key}
use Rattle.row_cells.specs.JoinLaws.{ascend_lower}
use Rattle.row_cells.specs.KeyLaws.{key_bytes_injective}
use Rattle.row_cells.specs.Spellable.{IsSpellable, AreSpellable}
use Rattle.row_cells.specs.Mapped.{IsPath, ArePaths, IsDimensionAt, AreDimensionsAt, IsMapped, AreCellsOf, is_present, any_present, is_routed, series_bytes}

-- a value of a type is one that a key can spell
pub number_fits : (kind : FieldType) (v : ℤ) → IsNumberOf kind v → FitsSigned w64 v
number_fits Date v is = omega (arith, ints, is.0, is.1)
number_fits Long v is = is
number_fits Integer v is = omega (arith, ints, is)
number_fits Short v is = omega (arith, ints, is)
number_fits Byte v is = omega (arith, ints, is)
number_fits Aggregate v is = is
number_fits Keyword v is = absurd is
number_fits Boolean v is = absurd is

pub value_fits : (kind : FieldType) (v : Scalar) → IsValueOf kind v → IsKeyValue v
value_fits Keyword (Word t) is = (is.0, omega (arith, is.1))
value_fits Keyword (Whole v) is = absurd is
value_fits Keyword (Flag b) is = tt
value_fits Boolean (Flag b) is = tt
value_fits Boolean (Word t) is = absurd is
value_fits Boolean (Whole v) is = absurd is
value_fits Aggregate v is = absurd is
value_fits Date (Whole v) is = number_fits Date v is
value_fits Date (Flag b) is = tt
value_fits Date (Word t) is = absurd is
value_fits Long (Whole v) is = number_fits Long v is
value_fits Long (Flag b) is = tt
value_fits Long (Word t) is = absurd is
value_fits Integer (Whole v) is = number_fits Integer v is
value_fits Integer (Flag b) is = tt
value_fits Integer (Word t) is = absurd is
value_fits Short (Whole v) is = number_fits Short v is
value_fits Short (Flag b) is = tt
value_fits Short (Word t) is = absurd is
value_fits Byte (Whole v) is = number_fits Byte v is
value_fits Byte (Flag b) is = tt
value_fits Byte (Word t) is = absurd is

spellable : (folded rises : Bool) (kind : FieldType) (role : Role) (path : List ℕ) (documents : ℕ) (cell : Cell) → IsPath path → CellFits folded rises kind role documents cell → IsSpellable role path cell
spellable folded rises kind DimensionRole path documents Absent is fits = tt
spellable folded rises kind DimensionRole path documents (One v) is fits = (is, value_fits kind v fits)
spellable folded rises kind DimensionRole path documents (Many vs) is fits = tt
spellable folded rises kind DimensionRole path documents (Gauge p) is fits = tt
spellable folded rises kind DimensionRole path documents (RiseCell r) is fits = tt
spellable folded rises kind Time path documents cell is fits = tt
spellable folded rises kind GaugeRole path documents cell is fits = tt
spellable folded rises kind Counter path documents cell is fits = tt
spellable folded rises kind Label path documents cell is fits = tt

pub cells_spellable : (folded rises : Bool) (documents : ℕ) (fs : List Field) (cs : List Cell) → ArePaths fs → CellsFit folded rises documents fs cs → AreSpellable fs cs
cells_spellable folded rises documents [] [] paths fit = tt
cells_spellable folded rises documents [] (c ∷ cs) paths fit = absurd fit
cells_spellable folded rises documents (f ∷ fs) [] paths fit = absurd fit
cells_spellable folded rises documents (f ∷ fs) (c ∷ cs) paths fit =
    (spellable folded rises f.kind f.role f.path documents c paths.0 fit.0, cells_spellable folded rises documents fs cs paths.1 fit.1)

-- a dimension in front of others is spelled in front of them
pub dimension_first : (role : Role) (path : List ℕ) (cell : Cell) (ds : List Dimension) → key_bytes (with_dimension role path cell ds) ≡ key_bytes (with_dimension role path cell []) ++ key_bytes ds
dimension_first DimensionRole path (One v) ds = ap (λ bytes. bytes ++ key_bytes ds) (sym (no_more (dimension_bytes (record { path = path; value = v }))))
  where
    no_more : (bytes : List ℕ) → bytes ++ [] ≡ bytes
    no_more [] = refl
    no_more (b ∷ bytes) = ap (λ rest. b ∷ rest) (no_more bytes)
dimension_first DimensionRole path Absent ds = refl
dimension_first DimensionRole path (Many vs) ds = refl
dimension_first DimensionRole path (Gauge p) ds = refl
dimension_first DimensionRole path (RiseCell r) ds = refl
dimension_first Time path cell ds = refl
dimension_first GaugeRole path cell ds = refl
dimension_first Counter path cell ds = refl
dimension_first Label path cell ds = refl

-- dimensions after a path, with one more in front or none
in_front : (below : List ℕ) (role : Role) (path : List ℕ) (cell : Cell) (ds : List Dimension) → IsBefore below path → IsSpellable role path cell → AreDimensionsAfter path ds → AreDimensionsAfter below ds → AreDimensionsAfter below (with_dimension role path cell ds)
in_front below DimensionRole path (One v) ds before is after lower =
    (before, record { path_some = is.0.some; path_short = is.0.short; path_text = is.0.text; value_fits = is.1 }, after)
in_front below DimensionRole path Absent ds before is after lower = lower
in_front below DimensionRole path (Many vs) ds before is after lower = lower
in_front below DimensionRole path (Gauge p) ds before is after lower = lower
in_front below DimensionRole path (RiseCell r) ds before is after lower = lower
in_front below Time path cell ds before is after lower = lower
in_front below GaugeRole path cell ds before is after lower = lower
in_front below Counter path cell ds before is after lower = lower
in_front below Label path cell ds before is after lower = lower

-- the dimensions of cells ascend as the fields do
pub dimensions_ascend : (below : List ℕ) (fs : List Field) (cs : List Cell) → FieldsAscendAfter below fs → AreSpellable fs cs → AreDimensionsAfter below (dimensions_of fs cs)
dimensions_ascend below [] [] ascend are = tt
dimensions_ascend below [] (c ∷ cs) ascend are = tt
dimensions_ascend below (f ∷ fs) [] ascend are = tt
dimensions_ascend below (f ∷ fs) (c ∷ cs) ascend are =
    in_front below f.role f.path c (dimensions_of fs cs) ascend.0 are.0
    (dimensions_ascend f.path fs cs ascend.1 are.1)
    (dimensions_ascend below fs cs (ascend_lower below f.path fs ascend.0 ascend.1) are.1)

-- ---- a routing field that is present gives the key a byte

spelled_some : (path rest : List ℕ) (v : Scalar) → 0 < length (dimension_bytes (record { path = path; value = v }) ++ rest)
spelled_some path rest v = some path (value_bytes v) rest
  where
    some : (t v rest : List ℕ) → 0 < length ((text_bytes t ++ v) ++ rest)
    some t v rest = omega arith

shorter_tail : (role : Role) (path : List ℕ) (cell : Cell) (ds : List Dimension) → length (key_bytes ds) ≤ length (key_bytes (with_dimension role path cell ds))
shorter_tail role path cell ds = omega (arith, ap length (dimension_first role path cell ds), length-append (key_bytes (with_dimension role path cell [])) (key_bytes ds))

present_some : (folded rises : Bool) (kind : FieldType) (role : Role) (path : List ℕ) (documents : ℕ) (cell : Cell) (ds : List Dimension) → role ≡ DimensionRole → CellFits folded rises kind role documents cell → is_present (Some cell) ≡ true → 0 < length (key_bytes (with_dimension role path cell ds))
present_some folded rises kind DimensionRole path documents (One v) ds is fits present = spelled_some path (key_bytes ds) v
present_some folded rises kind DimensionRole path documents Absent ds is fits present = cc
present_some folded rises kind DimensionRole path documents (Many vs) ds is fits present = absurd fits
present_some folded rises kind DimensionRole path documents (Gauge p) ds is fits present = absurd fits
present_some folded rises kind DimensionRole path documents (RiseCell r) ds is fits present = absurd fits
present_some folded rises kind Time path documents cell ds is fits present = cc
present_some folded rises kind GaugeRole path documents cell ds is fits present = cc
present_some folded rises kind Counter path documents cell ds is fits present = cc
present_some folded rises kind Label path documents cell ds is fits present = cc

present_at_some : (folded rises : Bool) (documents : ℕ) (fs : List Field) (cs : List Cell) (place : ℕ) → CellsFit folded rises documents fs cs → IsDimensionAt fs place → is_present (slice_get cs place) ≡ true → 0 < length (key_bytes (dimensions_of fs cs))
present_at_some folded rises documents [] cs place fit is present = absurd is
present_at_some folded rises documents (f ∷ fs) [] place fit is present = absurd fit
present_at_some folded rises documents (f ∷ fs) (c ∷ cs) zero fit is present =
    present_some folded rises f.kind f.role f.path documents c (dimensions_of fs cs) is fit.0 present
present_at_some folded rises documents (f ∷ fs) (c ∷ cs) (suc place) fit is present =
    omega (arith, shorter_tail f.role f.path c (dimensions_of fs cs), present_at_some folded rises documents fs cs place fit.1 is present)

pub routed_some : (folded rises : Bool) (documents : ℕ) (fs : List Field) (cs : List Cell) (places : List ℕ) → CellsFit folded rises documents fs cs → AreDimensionsAt fs places → any_present places cs ≡ true → 0 < length (key_bytes (dimensions_of fs cs))
routed_some folded rises documents fs cs [] fit are present = cc
routed_some folded rises documents fs cs (place ∷ places) fit are present = go (is_present (slice_get cs place)) refl present (routed_some folded rises documents fs cs places fit are.1)
  where
    go : (here : Bool) → is_present (slice_get cs place) ≡ here → here || any_present places cs ≡ true → (any_present places cs ≡ true → 0 < length (key_bytes (dimensions_of fs cs))) → 0 < length (key_bytes (dimensions_of fs cs))
    go true same present rest = present_at_some folded rises documents fs cs place fit are.0 same
    go false same present rest = rest present

pub schema_spells : (schema : Schema) (cells : List Cell) → IsMapped schema → AreCellsOf schema cells → AreDimensions (dimensions_of schema.fields cells)
schema_spells schema cells mapped are =
    dimensions_ascend [] schema.fields cells mapped.ascending (cells_spellable schema.folded schema.rises are.documents schema.fields cells mapped.paths are.fit)

-- cells with a routing field and few bytes spell a key
pub series_is_key : (schema : Schema) (cells : List Cell) → IsMapped schema → AreCellsOf schema cells → is_routed schema cells ≡ true → length (series_bytes schema cells) ≤ longest_key → IsKey (series_bytes schema cells)
series_is_key schema cells mapped are routed short = record {
  spells = record { dimensions = dimensions_of schema.fields cells; ascending = schema_spells schema cells mapped are; spelled = refl };
  some = routed_some schema.folded schema.rises are.documents schema.fields cells schema.routing are.fit mapped.routing routed;
  short = short;
}

-- cells of one schema with equal keys have equal dimensions
pub same_key_same_dimensions : (schema : Schema) (a b : List Cell) → IsMapped schema → AreCellsOf schema a → AreCellsOf schema b → series_bytes schema a ≡ series_bytes schema b → dimensions_of schema.fields a ≡ dimensions_of schema.fields b
same_key_same_dimensions schema a b mapped are_a are_b same =
    key_bytes_injective [] [] (dimensions_of schema.fields a) (dimensions_of schema.fields b) (schema_spells schema a mapped are_a) (schema_spells schema b mapped are_b) same
