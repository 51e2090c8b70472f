-- Cells that fit their fields are kept by their forms.
use Rattle.std.specs.Prelude.{◌≡◌, ℕ, Bool, true, false, List, [], ◌∷◌, map}
use Rattle.std.proofs.Common.{refl, ap}
use Rattle.row_cells.specs.declared.schemas.FieldType.{FieldType}
use Rattle.row_cells.specs.declared.schemas.FieldType.TheVariants.{Date, Keyword, Long, Integer, Short, Byte, Boolean, Aggregate}
use Rattle.row_cells.specs.declared.schemas.Role.{Role}
use Rattle.row_cells.specs.declared.schemas.Role.TheVariants.{Time, Dimension, Gauge as GaugeRole, Counter, Label}
use Rattle.row_cells.specs.declared.scalars.Scalar.{Scalar}
use Rattle.row_cells.specs.declared.scalars.Scalar.TheVariants.{Whole, Flag, Word}
use Rattle.row_cells.specs.declared.rows.Cell.{Cell}
use Rattle.row_cells.specs.declared.rows.Cell.TheVariants.{Absent, One, Many, Gauge, Rise as RiseCell}
use Rattle.row_cells.specs.Fitting.{CellFits, FoldedGaugeFits, RawGaugeFits, PlainCounterFits, RisenCounterFits, LabelFits, IsValueOf, AreValuesAfter}
use Rattle.row_cells.specs.Merging.{cell_of_parts, cell_of_rise}
use Rattle.row_cells.specs.Each.{Each}
use Rattle.column_block.specs.HalfLaws.{joined}
use Rattle.index_segment.specs.Forms.{form_of, gauge_form, label_form}
use Rattle.index_segment.specs.Cells.{whole_in, parts_in, first_in, last_in, high_in, low_in, number_in, numbers_in, text_in, texts_in, flag_in, cell_of_whole, rise_from, cell_of_numbers, cell_of_flags, cell_of_texts}
use Rattle.index_segment.proofs.Restored.{KeptIn}
use Rattle.index_segment.proofs.Lists.{both}

-- ---- lists

values_each : (kind : FieldType) (v : Scalar) (vs : List Scalar) → AreValuesAfter kind v vs → Each (IsValueOf kind) vs
values_each kind v [] are = tt
values_each kind v (w ∷ vs) are = (are.1, values_each kind w vs are.2)

pub values_back : {B : Type 0} (P : Scalar → Type 0) (f : Scalar → B) (g : B → Scalar) → ((v : Scalar) → P v → g (f v) ≡ v) → (vs : List Scalar) → Each P vs → map g (map f vs) ≡ vs
values_back P f g back [] all = refl
values_back P f g back (v ∷ vs) all = both (back v all.0) (values_back P f g back vs all.1)

text_back : (v : Scalar) → IsValueOf Keyword v → Word (text_in v) ≡ v
text_back (Word t) is = refl
text_back (Whole v) is = absurd is
text_back (Flag b) is = absurd is

flag_back : (v : Scalar) → IsValueOf Boolean v → flag_in (number_in v) ≡ v
flag_back (Flag true) is = refl
flag_back (Flag false) is = refl
flag_back (Word t) is = absurd is
flag_back (Whole v) is = absurd is

-- values of the other types are whole numbers
abbrev IsWhole : Scalar → Type 0
IsWhole (Whole v) = Unit {0}
IsWhole v = ⊥

number_back : (v : Scalar) → IsWhole v → Whole (number_in v) ≡ v
number_back (Whole v) is = refl
number_back (Word t) is = absurd is
number_back (Flag b) is = absurd is

texts_kept : (c : Cell) → LabelFits Keyword c → cell_of_texts (texts_in c) ≡ c
texts_kept (Many []) fit = absurd fit
texts_kept (Many (v ∷ vs)) fit = ap Many (values_back (IsValueOf Keyword) text_in Word text_back (v ∷ vs) (fit.0, values_each Keyword v vs fit.1))
texts_kept Absent fit = refl
texts_kept (One v) fit = absurd fit
texts_kept (Gauge p) fit = absurd fit
texts_kept (RiseCell r) fit = absurd fit

flags_kept : (c : Cell) → LabelFits Boolean c → cell_of_flags (numbers_in c) ≡ c
flags_kept (Many []) fit = absurd fit
flags_kept (Many (v ∷ vs)) fit = ap Many (values_back (IsValueOf Boolean) number_in flag_in flag_back (v ∷ vs) (fit.0, values_each Boolean v vs fit.1))
flags_kept Absent fit = refl
flags_kept (One v) fit = absurd fit
flags_kept (Gauge p) fit = absurd fit
flags_kept (RiseCell r) fit = absurd fit

each_whole : (kind : FieldType) → ((v : Scalar) → IsValueOf kind v → IsWhole v) → (vs : List Scalar) → Each (IsValueOf kind) vs → Each IsWhole vs
each_whole kind whole [] all = tt
each_whole kind whole (v ∷ vs) all = (whole v all.0, each_whole kind whole vs all.1)

numbers_kept : (kind : FieldType) → ((v : Scalar) → IsValueOf kind v → IsWhole v) → (c : Cell) → LabelFits kind c → cell_of_numbers (numbers_in c) ≡ c
numbers_kept kind whole (Many []) fit = absurd fit
numbers_kept kind whole (Many (v ∷ vs)) fit = ap Many (values_back IsWhole number_in Whole number_back (v ∷ vs) (whole v fit.0, each_whole kind whole vs (values_each kind v vs fit.1)))
numbers_kept kind whole Absent fit = refl
numbers_kept kind whole (One v) fit = absurd fit
numbers_kept kind whole (Gauge p) fit = absurd fit
numbers_kept kind whole (RiseCell r) fit = absurd fit

date_whole : (v : Scalar) → IsValueOf Date v → IsWhole v
date_whole (Whole v) is = tt
date_whole (Word t) is = is
date_whole (Flag b) is = is

long_whole : (v : Scalar) → IsValueOf Long v → IsWhole v
long_whole (Whole v) is = tt
long_whole (Word t) is = is
long_whole (Flag b) is = is

integer_whole : (v : Scalar) → IsValueOf Integer v → IsWhole v
integer_whole (Whole v) is = tt
integer_whole (Word t) is = is
integer_whole (Flag b) is = is

short_whole : (v : Scalar) → IsValueOf Short v → IsWhole v
short_whole (Whole v) is = tt
short_whole (Word t) is = is
short_whole (Flag b) is = is

byte_whole : (v : Scalar) → IsValueOf Byte v → IsWhole v
byte_whole (Whole v) is = tt
byte_whole (Word t) is = is
byte_whole (Flag b) is = is

aggregate_whole : (v : Scalar) → IsValueOf Aggregate v → IsWhole v
aggregate_whole v is = absurd is

label_kept : (kind : FieldType) (head c : Cell) → LabelFits kind c → KeptIn (label_form kind) head c
label_kept Keyword head c fit = texts_kept c fit
label_kept Boolean head c fit = flags_kept c fit
label_kept Date head c fit = numbers_kept Date date_whole c fit
label_kept Long head c fit = numbers_kept Long long_whole c fit
label_kept Integer head c fit = numbers_kept Integer integer_whole c fit
label_kept Short head c fit = numbers_kept Short short_whole c fit
label_kept Byte head c fit = numbers_kept Byte byte_whole c fit
label_kept Aggregate head c fit = numbers_kept Aggregate aggregate_whole c fit

-- ---- gauges

folded_kept : (kind : FieldType) (n : ℕ) (c : Cell) → FoldedGaugeFits kind n c → cell_of_parts (parts_in c) ≡ c
folded_kept kind n Absent fit = refl
folded_kept kind n (Gauge p) fit = refl
folded_kept kind n (One v) fit = absurd fit
folded_kept kind n (Many vs) fit = absurd fit
folded_kept kind n (RiseCell r) fit = absurd fit

aggregate_kept : (c : Cell) → RawGaugeFits Aggregate c → cell_of_parts (parts_in c) ≡ c
aggregate_kept Absent fit = refl
aggregate_kept (Gauge p) fit = refl
aggregate_kept (One (Whole v)) fit = absurd fit
aggregate_kept (One (Word t)) fit = absurd fit
aggregate_kept (One (Flag b)) fit = absurd fit
aggregate_kept (Many vs) fit = absurd fit
aggregate_kept (RiseCell r) fit = absurd fit

whole_kept : (kind : FieldType) → (kind ≡ Aggregate → ⊥) → (c : Cell) → RawGaugeFits kind c → cell_of_whole (whole_in c) ≡ c
whole_kept kind other Absent fit = refl
whole_kept kind other (One (Whole v)) fit = refl
whole_kept kind other (One (Word t)) fit = absurd fit
whole_kept kind other (One (Flag b)) fit = absurd fit
whole_kept kind other (Gauge p) fit = absurd (other fit.0)
whole_kept kind other (Many vs) fit = absurd fit
whole_kept kind other (RiseCell r) fit = absurd fit

raw_kept : (kind : FieldType) (head c : Cell) → RawGaugeFits kind c → KeptIn (gauge_form false kind) head c
raw_kept Aggregate head c fit = aggregate_kept c fit
raw_kept Date head c fit = whole_kept Date (λ e. cc) c fit
raw_kept Keyword head c fit = whole_kept Keyword (λ e. cc) c fit
raw_kept Long head c fit = whole_kept Long (λ e. cc) c fit
raw_kept Integer head c fit = whole_kept Integer (λ e. cc) c fit
raw_kept Short head c fit = whole_kept Short (λ e. cc) c fit
raw_kept Byte head c fit = whole_kept Byte (λ e. cc) c fit
raw_kept Boolean head c fit = whole_kept Boolean (λ e. cc) c fit

-- ---- counters

plain_kept : (kind : FieldType) (c : Cell) → PlainCounterFits kind c → cell_of_whole (whole_in c) ≡ c
plain_kept kind Absent fit = refl
plain_kept kind (One (Whole v)) fit = refl
plain_kept kind (One (Word t)) fit = absurd fit
plain_kept kind (One (Flag b)) fit = absurd fit
plain_kept kind (Gauge p) fit = absurd fit
plain_kept kind (Many vs) fit = absurd fit
plain_kept kind (RiseCell r) fit = absurd fit

rise_kept : (kind : FieldType) (n : ℕ) (c : Cell) → RisenCounterFits kind n c → cell_of_rise (rise_from (first_in c) (last_in c) (high_in c) (low_in c)) ≡ c
rise_kept kind n Absent fit = refl
rise_kept kind n (RiseCell r) fit = ap (λ i. RiseCell (record { first = r.first; last = r.last; increase = i })) (joined r.increase)
rise_kept kind n (One v) fit = absurd fit
rise_kept kind n (Gauge p) fit = absurd fit
rise_kept kind n (Many vs) fit = absurd fit

-- ---- all

pub kept : (folded rises : Bool) (kind : FieldType) (role : Role) (n : ℕ) (head c : Cell) → CellFits folded rises kind role n c → (role ≡ Time → head ≡ c) → (role ≡ Dimension → head ≡ c) → KeptIn (form_of folded rises kind role) head c
kept folded rises kind Time n head c fit time dimension = time refl
kept folded rises kind Dimension n head c fit time dimension = dimension refl
kept true rises kind GaugeRole n head c fit time dimension = folded_kept kind n c fit
kept false rises kind GaugeRole n head c fit time dimension = raw_kept kind head c fit
kept true true kind Counter n head c fit time dimension = rise_kept kind n c fit
kept true false kind Counter n head c fit time dimension = plain_kept kind c fit
kept false rises kind Counter n head c fit time dimension = plain_kept kind c fit
kept folded rises kind Label n head c fit time dimension = label_kept kind head c fit
