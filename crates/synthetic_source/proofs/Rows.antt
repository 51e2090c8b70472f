-- The cells of rows that fit a schema.
use Rattle.std.proofs.Common.{◌≡◌, ℕ, ℤ, Bool, true, false, List, [], ◌∷◌, ◌++◌, refl}
use Rattle.row_cells.specs.declared.scalars.Scalar.{Scalar}
use Rattle.row_cells.specs.declared.scalars.Scalar.TheVariants.{Whole, Flag, Word}
use Rattle.row_cells.specs.declared.schemas.FieldType.{FieldType}
use Rattle.row_cells.specs.declared.schemas.FieldType.TheVariants.{Date, Keyword, Long, Integer, Short, Byte, Boolean, Aggregate}
use Rattle.row_cells.specs.declared.schemas.Role.{Role}
use Rattle.row_cells.specs.declared.schemas.Role.TheVariants.{Time, Dimension, Gauge as GaugeRole, Counter, Label}
use Rattle.row_cells.specs.declared.schemas.Field.{Field}
use Rattle.row_cells.specs.declared.rows.Cell.{Cell}
use Rattle.row_cells.specs.declared.rows.Cell.TheVariants.{Absent, One, Many, Gauge, Rise}
use Rattle.row_cells.specs.Fitting.{IsNumberOf, IsValueOf, AreValues, AreValuesAfter, CellFits, CellsFit}
use Rattle.synthetic_source.specs.Contents.{IsDatedNumber, IsDated, AreDated, IsShowable, AreShowable}
use Rattle.synthetic_source.specs.Levels.{Shown}
use Rattle.synthetic_source.specs.Normal.{shown_as, shown_cell, shown_field}

number_dated : (kind : FieldType) (v : ℤ) → IsNumberOf kind v → IsDatedNumber kind v
number_dated Date v is = is
number_dated Keyword v is = tt
number_dated Long v is = tt
number_dated Integer v is = tt
number_dated Short v is = tt
number_dated Byte v is = tt
number_dated Boolean v is = tt
number_dated Aggregate v is = tt

whole_dated : (kind : FieldType) (v : ℤ) → IsValueOf kind (Whole v) → IsDatedNumber kind v
whole_dated Date v is = is
whole_dated Keyword v is = tt
whole_dated Long v is = tt
whole_dated Integer v is = tt
whole_dated Short v is = tt
whole_dated Byte v is = tt
whole_dated Boolean v is = tt
whole_dated Aggregate v is = tt

value_dated : (kind : FieldType) (v : Scalar) → IsValueOf kind v → IsDated kind v
value_dated kind (Whole v) is = whole_dated kind v is
value_dated kind (Flag b) is = tt
value_dated kind (Word t) is = tt

later_dated : (kind : FieldType) (first : Scalar) (vs : List Scalar) → AreValuesAfter kind first vs → AreDated kind vs
later_dated kind first [] are = tt
later_dated kind first (v ∷ vs) are = (value_dated kind v are.1, later_dated kind v vs are.2)

values_dated : (kind : FieldType) (vs : List Scalar) → AreValues kind vs → AreDated kind vs
values_dated kind [] are = absurd are
values_dated kind (v ∷ vs) are = (value_dated kind v are.0, later_dated kind v vs are.1)

-- a cell that fits has instants alone as dates
cell_showable : (folded rises : Bool) (kind : FieldType) (role : Role) (n : ℕ) (cell : Cell) → CellFits folded rises kind role n cell → IsShowable kind cell
cell_showable folded rises kind role n Absent fits = tt
cell_showable folded rises kind Time n (One v) fits = absurd fits
cell_showable folded rises kind Time n (Many vs) fits = absurd fits
cell_showable folded rises kind Time n (Rise r) fits = absurd fits
cell_showable folded rises kind Dimension n (One v) fits = value_dated kind v fits
cell_showable folded rises kind Dimension n (Many vs) fits = absurd fits
cell_showable folded rises kind Dimension n (Rise r) fits = absurd fits
cell_showable false rises kind GaugeRole n (One (Whole v)) fits = whole_dated kind v fits
cell_showable false rises kind GaugeRole n (One (Flag b)) fits = tt
cell_showable false rises kind GaugeRole n (One (Word t)) fits = tt
cell_showable false rises kind GaugeRole n (Many vs) fits = absurd fits
cell_showable false rises kind GaugeRole n (Rise r) fits = absurd fits
cell_showable true rises kind GaugeRole n (One v) fits = absurd fits
cell_showable true rises kind GaugeRole n (Many vs) fits = absurd fits
cell_showable true rises kind GaugeRole n (Rise r) fits = absurd fits
cell_showable false rises kind Counter n (One (Whole v)) fits = whole_dated kind v fits
cell_showable false rises kind Counter n (One (Flag b)) fits = tt
cell_showable false rises kind Counter n (One (Word t)) fits = tt
cell_showable false rises kind Counter n (Many vs) fits = absurd fits
cell_showable false rises kind Counter n (Rise r) fits = absurd fits
cell_showable true false kind Counter n (One (Whole v)) fits = whole_dated kind v fits
cell_showable true false kind Counter n (One (Flag b)) fits = tt
cell_showable true false kind Counter n (One (Word t)) fits = tt
cell_showable true false kind Counter n (Many vs) fits = absurd fits
cell_showable true false kind Counter n (Rise r) fits = absurd fits
cell_showable true true kind Counter n (One v) fits = absurd fits
cell_showable true true kind Counter n (Many vs) fits = absurd fits
cell_showable true true kind Counter n (Rise r) fits = number_dated kind r.last fits.last_fits
cell_showable folded rises kind Label n (One v) fits = absurd fits
cell_showable folded rises kind Label n (Many vs) fits = values_dated kind vs fits
cell_showable folded rises kind Label n (Rise r) fits = absurd fits
cell_showable folded rises kind role n (Gauge p) fits = tt

pub cells_showable : (folded rises : Bool) (n : ℕ) (fs : List Field) (cs : List Cell) → CellsFit folded rises n fs cs → AreShowable fs cs
cells_showable folded rises n [] [] fit = tt
cells_showable folded rises n [] (c ∷ cs) fit = absurd fit
cells_showable folded rises n (f ∷ fs) [] fit = absurd fit
cells_showable folded rises n (f ∷ fs) (c ∷ cs) fit = (cell_showable folded rises f.kind f.role n c fit.0, cells_showable folded rises n fs cs fit.1)

cell_in_front : (path : List ℕ) (kind : FieldType) (cell : Cell) (es : List Shown) → shown_cell path kind cell es ≡ shown_cell path kind cell [] ++ es
cell_in_front path kind Absent es = refl
cell_in_front path kind (One v) es = refl
cell_in_front path kind (Many vs) es = refl
cell_in_front path kind (Gauge p) es = refl
cell_in_front path kind (Rise r) es = refl

role_in_front : (role : Role) (time : ℤ) (f : Field) (cell : Cell) (es : List Shown) → shown_as role time f cell es ≡ shown_as role time f cell [] ++ es
role_in_front Time time f cell es = refl
role_in_front Dimension time f cell es = cell_in_front f.path f.kind cell es
role_in_front GaugeRole time f cell es = cell_in_front f.path f.kind cell es
role_in_front Counter time f cell es = cell_in_front f.path f.kind cell es
role_in_front Label time f cell es = cell_in_front f.path f.kind cell es

-- a field stands in front of those behind it
pub field_in_front : (time : ℤ) (f : Field) (cell : Cell) (es : List Shown) → shown_field time f cell es ≡ shown_field time f cell [] ++ es
field_in_front time f cell es = role_in_front f.role time f cell es
