-- The columns of a segment's rows keep the rules of columns.
use Rattle.std.specs.Prelude.{◌≡◌, ℕ, ℤ, suc, ◌+◌, ◌*◌, ◌^◌, ◌<◌, ◌≤◌, ◌≤ℤ◌, Bool, true, false, List, [], ◌∷◌, ◌++◌, map, length, Option, Some, None, IfSome}
use Rattle.std.proofs.Common.{subst, arith}
use Rattle.std.proofs.lemmas.List.{length-map}
use Rattle.std.proofs.lemmas.Int.{ints}
use Rattle.fold_law.specs.declared.measures.Parts.{Parts}
use Rattle.fold_law.specs.GaugeLaws.{within_abs}
use Rattle.row_cells.specs.Limits.{most_documents}
use Rattle.row_cells.specs.Each.{Each}
use Rattle.row_cells.specs.declared.schemas.FieldType.{FieldType}
use Rattle.row_cells.specs.declared.schemas.FieldType.TheVariants.{Date, Keyword, Long, Integer, Short, Byte, Boolean, Aggregate}
use Rattle.row_cells.specs.declared.schemas.Role.{Role}
use Rattle.row_cells.specs.declared.schemas.Role.TheVariants.{Time, Dimension, Gauge as GaugeRole, Counter, Label}
use Rattle.row_cells.specs.declared.schemas.Field.{Field}
use Rattle.row_cells.specs.declared.schemas.Schema.{Schema}
use Rattle.row_cells.specs.declared.scalars.Scalar.{Scalar}
use Rattle.row_cells.specs.declared.scalars.Scalar.TheVariants.{Whole, Flag, Word}
use Rattle.row_cells.specs.declared.rows.Cell.{Cell}
use Rattle.row_cells.specs.declared.rows.Cell.TheVariants.{Absent, One, Many, Gauge, Rise}
use Rattle.row_cells.specs.declared.rows.Row.{Row}
use Rattle.row_cells.specs.Dimensions.{IsBefore}
use Rattle.row_cells.specs.Fitting.{CellFits, FoldedGaugeFits, RawGaugeFits, PartsFit, IsAggregate, LabelFits, IsValueOf, MayFollow, AreValuesAfter}
use Rattle.column_block.specs.declared.kinds.Values.{Values}
use Rattle.column_block.specs.declared.kinds.Values.TheVariants as values
use Rattle.column_block.specs.Presence.{present}
use Rattle.column_block.specs.Rules.{AreParts, AscendAfter, TextsAscendAfter, IsText, IsNumberRow, IsTextRow}
use Rattle.index_segment.specs.Cells.{whole_in, parts_in, first_in, last_in, high_in, low_in, number_in, numbers_in, text_in, texts_in}
use Rattle.index_segment.specs.declared.forms.Form.TheVariants as forms
use Rattle.index_segment.specs.Columns.{ArePackable, cell_at, columns_from, columns_of_cells}
use Rattle.index_segment.specs.Forms.{form_of, forms_of, gauge_form, counter_form, label_form}
use Rattle.row_cells.specs.KeyedRows.{AreRowsOf, IsRowOf, IsShortList}
use Rattle.index_segment.proofs.Fit.{FitFrom, FitHere, rows_here, rows_behind, rows_first, rows_few}

-- ---- parts

folded_parts : (kind : FieldType) (n : ℕ) (p : Parts) → n ≤ most_documents → PartsFit kind n p → AreParts p
folded_parts kind n p few fit = record { counted = fit.counted; count_within = omega (arith, ints, few, fit.count_within); sum_within = omega (arith, few, fit.sum_within) }

raw_parts : (p : Parts) → IsAggregate p → AreParts p
raw_parts p fit = record { counted = fit.counted; count_within = omega (arith, ints, fit.count_fits); sum_within = within_abs p.sum (most_documents * 2 ^ 63) (omega (arith, ints, fit.sum_fits)) (omega (arith, ints, fit.sum_fits)) }

folded_cell : (kind : FieldType) (n : ℕ) (c : Cell) → n ≤ most_documents → FoldedGaugeFits kind n c → IfSome (parts_in c) AreParts
folded_cell kind n (Gauge p) few fit = folded_parts kind n p few fit
folded_cell kind n Absent few fit = tt
folded_cell kind n (One v) few fit = tt
folded_cell kind n (Many vs) few fit = tt
folded_cell kind n (Rise r) few fit = tt

raw_cell : (kind : FieldType) (c : Cell) → RawGaugeFits kind c → IfSome (parts_in c) AreParts
raw_cell kind (Gauge p) fit = raw_parts p fit.1
raw_cell kind Absent fit = tt
raw_cell kind (One v) fit = tt
raw_cell kind (Many vs) fit = tt
raw_cell kind (Rise r) fit = tt

-- ---- lists

follows : (v w : Scalar) → MayFollow v w → number_in v ≤ℤ number_in w
follows (Whole a) (Whole b) may = may
follows (Whole a) (Flag b) may = absurd may
follows (Whole a) (Word b) may = absurd may
follows (Flag true) (Flag true) may = omega (arith, ints)
follows (Flag true) (Flag false) may = absurd may
follows (Flag false) (Flag true) may = omega (arith, ints)
follows (Flag false) (Flag false) may = omega (arith, ints)
follows (Flag true) (Whole b) may = absurd may
follows (Flag true) (Word b) may = absurd may
follows (Flag false) (Whole b) may = absurd may
follows (Flag false) (Word b) may = absurd may
follows (Word a) (Word b) may = omega (arith, ints)
follows (Word a) (Whole b) may = absurd may
follows (Word a) (Flag b) may = absurd may

numbers_after : (kind : FieldType) (v : Scalar) (vs : List Scalar) → AreValuesAfter kind v vs → AscendAfter (number_in v) (map number_in vs)
numbers_after kind v [] are = tt
numbers_after kind v (w ∷ vs) are = (follows v w are.0, numbers_after kind w vs are.2)

number_row : (kind : FieldType) (c : Cell) → LabelFits kind c → IsShortList c → IsNumberRow (numbers_in c)
number_row kind (Many []) fit short = absurd fit
number_row kind (Many (v ∷ vs)) fit short = record { few = omega (arith, short, length-map vs number_in); ascend = numbers_after kind v vs fit.1 }
number_row kind Absent fit short = record { few = omega arith; ascend = tt }
number_row kind (One v) fit short = record { few = omega arith; ascend = tt }
number_row kind (Gauge p) fit short = record { few = omega arith; ascend = tt }
number_row kind (Rise r) fit short = record { few = omega arith; ascend = tt }

is_text : (v : Scalar) → IsValueOf Keyword v → IsText (text_in v)
is_text (Word t) is = record { utf8 = is.0; short = is.1 }
is_text (Whole v) is = absurd is
is_text (Flag b) is = absurd is

before : (v w : Scalar) → IsValueOf Keyword v → MayFollow v w → IsBefore (text_in v) (text_in w)
before (Word a) (Word b) is may = may
before (Word a) (Whole b) is may = absurd may
before (Word a) (Flag b) is may = absurd may
before (Whole a) w is may = absurd is
before (Flag a) w is may = absurd is

texts_after : (v : Scalar) (vs : List Scalar) → IsValueOf Keyword v → AreValuesAfter Keyword v vs → TextsAscendAfter (text_in v) (map text_in vs) × Each IsText (map text_in vs)
texts_after v [] is are = (tt, tt)
texts_after v (w ∷ vs) is are =
    let rest = texts_after w vs are.1 are.2 in
    ((before v w is are.0, rest.0), (is_text w are.1, rest.1))

text_row : (c : Cell) → LabelFits Keyword c → IsShortList c → IsTextRow (texts_in c)
text_row (Many []) fit short = absurd fit
text_row (Many (v ∷ vs)) fit short =
    let rest = texts_after v vs fit.0 fit.1 in
    record { few = omega (arith, short, length-map vs text_in); ascend = rest.0; texts = (is_text v fit.0, rest.1) }
text_row Absent fit short = record { few = omega arith; ascend = tt; texts = tt }
text_row (One v) fit short = record { few = omega arith; ascend = tt; texts = tt }
text_row (Gauge p) fit short = record { few = omega arith; ascend = tt; texts = tt }
text_row (Rise r) fit short = record { few = omega arith; ascend = tt; texts = tt }

-- ---- columns

present_keep : {B : Type 0} (P : B → Type 0) (f : Cell → Option B) (g : Row → Cell) (Q : Row → Type 0) → ((row : Row) → Q row → IfSome (f (g row)) P) → (rows : List Row) → Each Q rows → Each P (present (map f (map g rows)))
present_keep {B} P f g Q each [] all = tt
present_keep {B} P f g Q each (row ∷ rows) all = go (f (g row)) (each row all.0) (present_keep P f g Q each rows all.1)
  where
    go : (v : Option B) → IfSome v P → Each P (present (map f (map g rows))) → Each P (present (v ∷ map f (map g rows)))
    go None is rest = rest
    go (Some x) is rest = (is, rest)

lists_keep : {B : Type 0} (P : B → Type 0) (f : Cell → B) (g : Row → Cell) (Q : Row → Type 0) → ((row : Row) → Q row → P (f (g row))) → (rows : List Row) → Each Q rows → Each P (map f (map g rows))
lists_keep P f g Q each [] all = tt
lists_keep P f g Q each (row ∷ rows) all = (each row all.0, lists_keep P f g Q each rows all.1)

long : {B : Type 0} (f : Cell → B) (g : Row → Cell) (rows : List Row) → length rows ≤ most_documents → length (map f (map g rows)) < 2 ^ 32
long f g rows few = omega (arith, few, length-map (map g rows) f, length-map rows g)

-- rows that fit here, as those of a field of a type and a role
abbrev Here : Bool → Bool → FieldType → Role → ℕ → Row → Type 0
Here folded rises kind role place row = CellFits folded rises kind role row.count (cell_at place row) × IsShortList (cell_at place row) × (row.count ≤ most_documents)

whole_column : (h : Cell → Option ℤ) (place : ℕ) (rows : List Row) → length rows ≤ most_documents → ArePackable (values.Whole (map h (map (cell_at place) rows)) ∷ [])
whole_column h place rows few = (tt, long h (cell_at place) rows few, tt)

parts_column : (Q : Row → Type 0) (place : ℕ) (rows : List Row) → length rows ≤ most_documents → ((row : Row) → Q row → IfSome (parts_in (cell_at place row)) AreParts) → Each Q rows → ArePackable (values.Parts (map parts_in (map (cell_at place) rows)) ∷ [])
parts_column Q place rows few each all = (present_keep AreParts parts_in (cell_at place) Q each rows all, long parts_in (cell_at place) rows few, tt)

numbers_column : (Q : Row → Type 0) (kind : FieldType) (place : ℕ) (rows : List Row) → length rows ≤ most_documents → ((row : Row) → Q row → LabelFits kind (cell_at place row) × IsShortList (cell_at place row)) → Each Q rows → ArePackable (values.Wholes (map numbers_in (map (cell_at place) rows)) ∷ [])
numbers_column Q kind place rows few each all = (lists_keep IsNumberRow numbers_in (cell_at place) Q (λ row h. number_row kind (cell_at place row) (each row h).0 (each row h).1) rows all, long numbers_in (cell_at place) rows few, tt)

texts_column : (Q : Row → Type 0) (place : ℕ) (rows : List Row) → length rows ≤ most_documents → ((row : Row) → Q row → LabelFits Keyword (cell_at place row) × IsShortList (cell_at place row)) → Each Q rows → ArePackable (values.Words (map texts_in (map (cell_at place) rows)) ∷ [])
texts_column Q place rows few each all = (lists_keep IsTextRow texts_in (cell_at place) Q (λ row h. text_row (cell_at place row) (each row h).0 (each row h).1) rows all, long texts_in (cell_at place) rows few, tt)

rise_columns : (place : ℕ) (rows : List Row) → length rows ≤ most_documents → ArePackable (columns_of_cells forms.Rise (map (cell_at place) rows))
rise_columns place rows few = (tt, long first_in (cell_at place) rows few, (tt, long last_in (cell_at place) rows few, (tt, long high_in (cell_at place) rows few, (tt, long low_in (cell_at place) rows few, tt))))

gauge_columns : (folded rises : Bool) (kind : FieldType) (place : ℕ) (rows : List Row) → length rows ≤ most_documents → Each (Here folded rises kind GaugeRole place) rows → ArePackable (columns_of_cells (gauge_form folded kind) (map (cell_at place) rows))
gauge_columns true rises kind place rows few all = parts_column (Here true rises kind GaugeRole place) place rows few (λ row h. folded_cell kind row.count (cell_at place row) h.2 h.0) all
gauge_columns false rises Aggregate place rows few all = parts_column (Here false rises Aggregate GaugeRole place) place rows few (λ row h. raw_cell Aggregate (cell_at place row) h.0) all
gauge_columns false rises Date place rows few all = whole_column whole_in place rows few
gauge_columns false rises Keyword place rows few all = whole_column whole_in place rows few
gauge_columns false rises Long place rows few all = whole_column whole_in place rows few
gauge_columns false rises Integer place rows few all = whole_column whole_in place rows few
gauge_columns false rises Short place rows few all = whole_column whole_in place rows few
gauge_columns false rises Byte place rows few all = whole_column whole_in place rows few
gauge_columns false rises Boolean place rows few all = whole_column whole_in place rows few

counter_columns : (folded rises : Bool) (place : ℕ) (rows : List Row) → length rows ≤ most_documents → ArePackable (columns_of_cells (counter_form folded rises) (map (cell_at place) rows))
counter_columns true true place rows few = rise_columns place rows few
counter_columns true false place rows few = whole_column whole_in place rows few
counter_columns false rises place rows few = whole_column whole_in place rows few

label_columns : (folded rises : Bool) (kind : FieldType) (place : ℕ) (rows : List Row) → length rows ≤ most_documents → Each (Here folded rises kind Label place) rows → ArePackable (columns_of_cells (label_form kind) (map (cell_at place) rows))
label_columns folded rises Keyword place rows few all = texts_column (Here folded rises Keyword Label place) place rows few (λ row h. (h.0, h.1)) all
label_columns folded rises Date place rows few all = numbers_column (Here folded rises Date Label place) Date place rows few (λ row h. (h.0, h.1)) all
label_columns folded rises Long place rows few all = numbers_column (Here folded rises Long Label place) Long place rows few (λ row h. (h.0, h.1)) all
label_columns folded rises Integer place rows few all = numbers_column (Here folded rises Integer Label place) Integer place rows few (λ row h. (h.0, h.1)) all
label_columns folded rises Short place rows few all = numbers_column (Here folded rises Short Label place) Short place rows few (λ row h. (h.0, h.1)) all
label_columns folded rises Byte place rows few all = numbers_column (Here folded rises Byte Label place) Byte place rows few (λ row h. (h.0, h.1)) all
label_columns folded rises Boolean place rows few all = numbers_column (Here folded rises Boolean Label place) Boolean place rows few (λ row h. (h.0, h.1)) all
label_columns folded rises Aggregate place rows few all = numbers_column (Here folded rises Aggregate Label place) Aggregate place rows few (λ row h. (h.0, h.1)) all

field_columns : (folded rises : Bool) (kind : FieldType) (role : Role) (place : ℕ) (rows : List Row) → length rows ≤ most_documents → Each (Here folded rises kind role place) rows → ArePackable (columns_of_cells (form_of folded rises kind role) (map (cell_at place) rows))
field_columns folded rises kind Time place rows few all = tt
field_columns folded rises kind Dimension place rows few all = tt
field_columns folded rises kind GaugeRole place rows few all = gauge_columns folded rises kind place rows few all
field_columns folded rises kind Counter place rows few all = counter_columns folded rises place rows few
field_columns folded rises kind Label place rows few all = label_columns folded rises kind place rows few all

here_of : (folded rises : Bool) (f : Field) (place : ℕ) (rows : List Row) → Each (FitHere folded rises f place) rows → Each (Here folded rises f.kind f.role place) rows
here_of folded rises f place [] all = tt
here_of folded rises f place (row ∷ rows) all = ((all.0.fits, all.0.short, all.0.few), here_of folded rises f place rows all.1)

joined_packable : (a b : List Values) → ArePackable a → ArePackable b → ArePackable (a ++ b)
joined_packable [] b p q = q
joined_packable (x ∷ a) b p q = (p.0, p.1, joined_packable a b p.2 q)

columns_packable : (schema : Schema) (fs : List Field) (place : ℕ) (rows : List Row) → Each (IsRowOf schema) rows → length rows ≤ most_documents → Each (FitFrom schema.folded schema.rises fs place) rows → ArePackable (columns_from place (map (λ f. form_of schema.folded schema.rises f.kind f.role) fs) rows)
columns_packable schema [] place rows each few all = tt
columns_packable schema (f ∷ fs) place rows each few all =
    joined_packable (columns_of_cells (form_of schema.folded schema.rises f.kind f.role) (map (cell_at place) rows)) (columns_from (place + 1) (map (λ f. form_of schema.folded schema.rises f.kind f.role) fs) rows)
    (field_columns schema.folded schema.rises f.kind f.role place rows few (here_of schema.folded schema.rises f place rows (rows_here schema f fs place rows each all)))
    (columns_packable schema fs (place + 1) rows each few (subst (λ n. Each (FitFrom schema.folded schema.rises fs n) rows) next (rows_behind schema f fs place rows all)))
  where
    next : suc place ≡ place + 1
    next = omega arith

pub rows_short : (schema : Schema) (rows : List Row) → AreRowsOf schema rows → length rows ≤ most_documents
rows_short schema rows are = omega (arith, rows_few schema rows are.each, are.few)

-- the columns of a segment's rows can be packed
pub rows_packable : (schema : Schema) (rows : List Row) → AreRowsOf schema rows → ArePackable (columns_from 0 (forms_of schema) rows)
rows_packable schema rows are = columns_packable schema schema.fields 0 rows are.each (rows_short schema rows are) (rows_first schema rows are.each)
