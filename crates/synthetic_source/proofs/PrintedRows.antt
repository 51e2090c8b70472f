-- The normal form of a row prints to a text that reads back.
use Rattle.std.proofs.Common.{◌≡◌, ◌≤◌, ℕ, ℤ, pos, negsuc, Bool, true, false, List, [], ◌∷◌, ◌++◌, map, w64, FitsSigned, refl, arith}
use Rattle.std.proofs.lemmas.Int.{ints}
use Rattle.std.proofs.lemmas.Str.{IsUtf8-from_ascii}
use Rattle.std.specs.Str.{IsUtf8}
use Rattle.fold_law.specs.declared.measures.Parts.{Parts}
use Rattle.json.proofs.Printed.Utf8.{IsUtf8-are_ascii}
use Rattle.row_cells.specs.declared.scalars.Scalar.{Scalar}
use Rattle.row_cells.specs.declared.scalars.Scalar.TheVariants.{Whole, Flag, Word}
use Rattle.row_cells.specs.declared.schemas.FieldType.{FieldType}
use Rattle.row_cells.specs.declared.schemas.FieldType.TheVariants.{Date, Keyword, Long, Integer, Short, Byte, Boolean, Aggregate}
use Rattle.row_cells.specs.declared.schemas.Role.{Role}
use Rattle.row_cells.specs.declared.schemas.Role.TheVariants.{Time, Dimension, Gauge as GaugeRole, Counter, Label}
use Rattle.row_cells.specs.declared.schemas.Field.{Field}
use Rattle.row_cells.specs.declared.schemas.Schema.{Schema}
use Rattle.row_cells.specs.declared.rows.Cell.{Cell}
use Rattle.row_cells.specs.declared.rows.Cell.TheVariants.{Absent, One, Many, Gauge, Rise}
use Rattle.row_cells.specs.declared.rows.Row.{Row}
use Rattle.row_cells.specs.Fitting.{IsNumberOf, IsValueOf, AreValues, AreValuesAfter, CellFits, CellsFit, Fits}
use Rattle.row_cells.specs.KeyedLaws.{number_fits}
use Rattle.row_cells.specs.Mapped.{ArePaths}
use Rattle.serde_json.specs.Data.{depth, items_depth}
use Rattle.serde_json.specs.Find.{of_integer}
use Rattle.serde_json.specs.View.{items_of}
use Rattle.time_text.specs.Instant.{IsInstant}
use Rattle.time_text.specs.Printed.{instant_text}
use Rattle.time_text.specs.PrintedLaws.{instant_text_ascii}
use Rattle.ts_mapping.specs.Schemas.{IsTemplateSchema}
use Rattle.synthetic_source.specs.Levels.{Shown, longest, levels}
use Rattle.synthetic_source.specs.Normal.{whole_data, scalar_data, list_data, parts_data, cell_data, shown_cell, shown_as, shown_of, count_shown, shown_row, norm}
use Rattle.synthetic_source.proofs.Printable.{IsPrintableNumber, IsPrintable, ArePrintable}
use Rattle.synthetic_source.specs.Shallow.{parts_of, AreShallow, HasSmallSums, HaveSmallSums}
use Rattle.synthetic_source.proofs.PrintedLevels.{AreTexts, AreWithin, level_printable, level_depth}
use Rattle.row_cells.specs.Limits.{most_documents}

-- ---- single values

number_printable : (v : ℤ) → FitsSigned w64 v → IsPrintableNumber (of_integer v)
number_printable (pos n) h = omega (arith, ints)
number_printable (negsuc n) h = omega (arith, ints)

instant_printable : (t : ℤ) → IsInstant t → IsUtf8 (instant_text t)
instant_printable t is = IsUtf8-from_ascii (instant_text t) (instant_text_ascii t is)

whole_printable : (kind : FieldType) (v : ℤ) → IsNumberOf kind v → IsPrintable (whole_data kind v)
whole_printable Date v is = instant_printable v is
whole_printable Keyword v is = absurd is
whole_printable Long v is = number_printable v (number_fits Long v is)
whole_printable Integer v is = number_printable v (number_fits Integer v is)
whole_printable Short v is = number_printable v (number_fits Short v is)
whole_printable Byte v is = number_printable v (number_fits Byte v is)
whole_printable Boolean v is = absurd is
whole_printable Aggregate v is = number_printable v (number_fits Aggregate v is)

whole_number : (kind : FieldType) (v : ℤ) → IsValueOf kind (Whole v) → IsNumberOf kind v
whole_number Date v is = is
whole_number Keyword v is = is
whole_number Long v is = is
whole_number Integer v is = is
whole_number Short v is = is
whole_number Byte v is = is
whole_number Boolean v is = is
whole_number Aggregate v is = absurd is

word_utf8 : (kind : FieldType) (t : List ℕ) → IsValueOf kind (Word t) → IsUtf8 t
word_utf8 Date t is = absurd is
word_utf8 Keyword t is = is.0
word_utf8 Long t is = absurd is
word_utf8 Integer t is = absurd is
word_utf8 Short t is = absurd is
word_utf8 Byte t is = absurd is
word_utf8 Boolean t is = absurd is
word_utf8 Aggregate t is = absurd is

scalar_printable : (kind : FieldType) (v : Scalar) → IsValueOf kind v → IsPrintable (scalar_data kind v)
scalar_printable kind (Whole v) is = whole_printable kind v (whole_number kind v is)
scalar_printable kind (Flag b) is = tt
scalar_printable kind (Word t) is = word_utf8 kind t is

later_printable : (kind : FieldType) (first : Scalar) (vs : List Scalar) → AreValuesAfter kind first vs → ArePrintable (items_of (map (scalar_data kind) vs))
later_printable kind first [] are = tt
later_printable kind first (v ∷ vs) are = (scalar_printable kind v are.1, later_printable kind v vs are.2)

list_printable : (kind : FieldType) (vs : List Scalar) → AreValues kind vs → IsPrintable (list_data kind vs)
list_printable kind [] are = absurd are
list_printable kind (v ∷ []) are = scalar_printable kind v are.0
list_printable kind (v ∷ w ∷ vs) are = (scalar_printable kind v are.0, later_printable kind v (w ∷ vs) are.1)

parts_printable : (p : Parts) → FitsSigned w64 p.max → FitsSigned w64 p.min → FitsSigned w64 p.sum → FitsSigned w64 p.count → IsPrintable (parts_data p)
parts_printable p greatest least sum count = (
  (refl, (refl, (refl, tt))),
  (
    IsUtf8-are_ascii _ refl,
    number_printable p.max greatest,
    (
      IsUtf8-are_ascii _ refl,
      number_printable p.min least,
      (
        IsUtf8-are_ascii _ refl,
        number_printable p.sum sum,
        (IsUtf8-are_ascii _ refl, number_printable p.count count, tt),
      ),
    ),
  ),
)

-- ---- cells

cell_printable : (folded rises : Bool) (kind : FieldType) (role : Role) (n : ℕ) (cell : Cell) → CellFits folded rises kind role n cell → HasSmallSums cell → IsPrintable (cell_data kind cell)
cell_printable folded rises kind role n Absent fits small = tt
cell_printable folded rises kind Time n (One v) fits small = absurd fits
cell_printable folded rises kind Time n (Many vs) fits small = absurd fits
cell_printable folded rises kind Time n (Gauge p) fits small = absurd fits
cell_printable folded rises kind Time n (Rise r) fits small = absurd fits
cell_printable folded rises kind Dimension n (One v) fits small = scalar_printable kind v fits
cell_printable folded rises kind Dimension n (Many vs) fits small = absurd fits
cell_printable folded rises kind Dimension n (Gauge p) fits small = absurd fits
cell_printable folded rises kind Dimension n (Rise r) fits small = absurd fits
cell_printable false rises kind GaugeRole n (One (Whole v)) fits small = scalar_printable kind (Whole v) fits
cell_printable false rises kind GaugeRole n (One (Flag b)) fits small = absurd fits
cell_printable false rises kind GaugeRole n (One (Word t)) fits small = absurd fits
cell_printable false rises kind GaugeRole n (Many vs) fits small = absurd fits
cell_printable false rises kind GaugeRole n (Gauge p) fits small = parts_printable p fits.1.greatest fits.1.least small.0 small.1
cell_printable false rises kind GaugeRole n (Rise r) fits small = absurd fits
cell_printable true rises kind GaugeRole n (One v) fits small = absurd fits
cell_printable true rises kind GaugeRole n (Many vs) fits small = absurd fits
cell_printable true rises kind GaugeRole n (Gauge p) fits small = parts_printable p (number_fits kind p.max fits.greatest) (number_fits kind p.min fits.least) small.0 small.1
cell_printable true rises kind GaugeRole n (Rise r) fits small = absurd fits
cell_printable false rises kind Counter n (One (Whole v)) fits small = scalar_printable kind (Whole v) fits
cell_printable false rises kind Counter n (One (Flag b)) fits small = absurd fits
cell_printable false rises kind Counter n (One (Word t)) fits small = absurd fits
cell_printable false rises kind Counter n (Many vs) fits small = absurd fits
cell_printable false rises kind Counter n (Gauge p) fits small = absurd fits
cell_printable false rises kind Counter n (Rise r) fits small = absurd fits
cell_printable true false kind Counter n (One (Whole v)) fits small = scalar_printable kind (Whole v) fits
cell_printable true false kind Counter n (One (Flag b)) fits small = absurd fits
cell_printable true false kind Counter n (One (Word t)) fits small = absurd fits
cell_printable true false kind Counter n (Many vs) fits small = absurd fits
cell_printable true false kind Counter n (Gauge p) fits small = absurd fits
cell_printable true false kind Counter n (Rise r) fits small = absurd fits
cell_printable true true kind Counter n (One v) fits small = absurd fits
cell_printable true true kind Counter n (Many vs) fits small = absurd fits
cell_printable true true kind Counter n (Gauge p) fits small = absurd fits
cell_printable true true kind Counter n (Rise r) fits small = whole_printable kind r.last fits.last_fits
cell_printable folded rises kind Label n (One v) fits small = absurd fits
cell_printable folded rises kind Label n (Many vs) fits small = list_printable kind vs fits
cell_printable folded rises kind Label n (Gauge p) fits small = absurd fits
cell_printable folded rises kind Label n (Rise r) fits small = absurd fits

-- the sums of a raw row have 64 bits
small_raw : (rises : Bool) (kind : FieldType) (role : Role) (n : ℕ) (cell : Cell) → CellFits false rises kind role n cell → HasSmallSums cell
small_raw rises kind role n Absent fits = tt
small_raw rises kind role n (One v) fits = tt
small_raw rises kind role n (Many vs) fits = tt
small_raw rises kind role n (Rise r) fits = tt
small_raw rises kind Time n (Gauge p) fits = absurd fits
small_raw rises kind Dimension n (Gauge p) fits = absurd fits
small_raw rises kind GaugeRole n (Gauge p) fits = (fits.1.sum_fits, fits.1.count_fits)
small_raw rises kind Counter n (Gauge p) fits = absurd fits
small_raw rises kind Label n (Gauge p) fits = absurd fits

pub all_small_raw : (rises : Bool) (n : ℕ) (fs : List Field) (cs : List Cell) → CellsFit false rises n fs cs → HaveSmallSums cs
all_small_raw rises n [] [] fit = tt
all_small_raw rises n [] (c ∷ cs) fit = absurd fit
all_small_raw rises n (f ∷ fs) [] fit = absurd fit
all_small_raw rises n (f ∷ fs) (c ∷ cs) fit = (small_raw rises f.kind f.role n c fit.0, all_small_raw rises n fs cs fit.1)

-- ---- depths

whole_flat : (kind : FieldType) (v : ℤ) → depth (whole_data kind v) ≡ 0
whole_flat Date v = refl
whole_flat Keyword v = refl
whole_flat Long v = refl
whole_flat Integer v = refl
whole_flat Short v = refl
whole_flat Byte v = refl
whole_flat Boolean v = refl
whole_flat Aggregate v = refl

scalar_flat : (kind : FieldType) (v : Scalar) → depth (scalar_data kind v) ≡ 0
scalar_flat kind (Whole v) = whole_flat kind v
scalar_flat kind (Flag b) = refl
scalar_flat kind (Word t) = refl

items_flat : (kind : FieldType) (vs : List Scalar) → items_depth (items_of (map (scalar_data kind) vs)) ≡ 0
items_flat kind [] = refl
items_flat kind (v ∷ vs) = omega (arith, scalar_flat kind v, items_flat kind vs)

list_depth : (kind : FieldType) (vs : List Scalar) → depth (list_data kind vs) ≤ 1
list_depth kind [] = omega arith
list_depth kind (v ∷ []) = omega (arith, scalar_flat kind v)
list_depth kind (v ∷ w ∷ vs) = omega (arith, items_flat kind (v ∷ w ∷ vs))

cell_depth : (kind : FieldType) (cell : Cell) → depth (cell_data kind cell) ≤ 1
cell_depth kind Absent = omega arith
cell_depth kind (One v) = omega (arith, scalar_flat kind v)
cell_depth kind (Many vs) = list_depth kind vs
cell_depth kind (Gauge p) = omega arith
cell_depth kind (Rise r) = omega (arith, whole_flat kind r.last)

-- ---- rows

-- what fields show prints and reads back
cell_texts : (path : List ℕ) (kind : FieldType) (cell : Cell) (es : List Shown) → IsUtf8 path → IsPrintable (cell_data kind cell) → AreTexts es → AreTexts (shown_cell path kind cell es)
cell_texts path kind Absent es text value rest = rest
cell_texts path kind (One v) es text value rest = (text, value, rest)
cell_texts path kind (Many vs) es text value rest = (text, value, rest)
cell_texts path kind (Gauge p) es text value rest = (text, value, rest)
cell_texts path kind (Rise r) es text value rest = (text, value, rest)

role_texts : (role : Role) (time : ℤ) (f : Field) (cell : Cell) (es : List Shown) → IsInstant time → IsUtf8 f.path → IsPrintable (cell_data f.kind cell) → AreTexts es → AreTexts (shown_as role time f cell es)
role_texts Time time f cell es is text value rest = (text, instant_printable time is, rest)
role_texts Dimension time f cell es is text value rest = cell_texts f.path f.kind cell es text value rest
role_texts GaugeRole time f cell es is text value rest = cell_texts f.path f.kind cell es text value rest
role_texts Counter time f cell es is text value rest = cell_texts f.path f.kind cell es text value rest
role_texts Label time f cell es is text value rest = cell_texts f.path f.kind cell es text value rest

fields_texts : (folded rises : Bool) (n : ℕ) (time : ℤ) (fs : List Field) (cs : List Cell) → IsInstant time → ArePaths fs → CellsFit folded rises n fs cs → HaveSmallSums cs → AreTexts (shown_of time fs cs)
fields_texts folded rises n time [] [] is paths fit small = tt
fields_texts folded rises n time [] (c ∷ cs) is paths fit small = absurd fit
fields_texts folded rises n time (f ∷ fs) [] is paths fit small = absurd fit
fields_texts folded rises n time (f ∷ fs) (c ∷ cs) is paths fit small =
    role_texts f.role time f c (shown_of time fs cs) is paths.0.text (cell_printable folded rises f.kind f.role n c fit.0 small.0) (fields_texts folded rises n time fs cs is paths.1 fit.1 small.1)

count_texts : (folded : Bool) (count : ℕ) → count ≤ most_documents → AreTexts (count_shown folded count)
count_texts false count few = tt
count_texts true count few = (IsUtf8-are_ascii _ refl, omega arith, tt)

append_texts : (es ds : List Shown) → AreTexts es → AreTexts ds → AreTexts (es ++ ds)
append_texts [] ds h k = k
append_texts (e ∷ es) ds h k = (h.0, h.1, append_texts es ds h.2 k)

-- and lies few levels deep, where paths are short
cell_within : (path : List ℕ) (kind : FieldType) (cell : Cell) (es : List Shown) → parts_of path ≤ 126 → AreWithin 126 es → AreWithin 126 (shown_cell path kind cell es)
cell_within path kind Absent es parts rest = rest
cell_within path kind (One v) es parts rest = let deep = cell_depth kind (One v) in (omega arith, rest)
cell_within path kind (Many vs) es parts rest = let deep = cell_depth kind (Many vs) in (omega arith, rest)
cell_within path kind (Gauge p) es parts rest = let deep = cell_depth kind (Gauge p) in (omega arith, rest)
cell_within path kind (Rise r) es parts rest = let deep = cell_depth kind (Rise r) in (omega arith, rest)

role_within : (role : Role) (time : ℤ) (f : Field) (cell : Cell) (es : List Shown) → parts_of f.path ≤ 126 → AreWithin 126 es → AreWithin 126 (shown_as role time f cell es)
role_within Time time f cell es parts rest = (omega arith, rest)
role_within Dimension time f cell es parts rest = cell_within f.path f.kind cell es parts rest
role_within GaugeRole time f cell es parts rest = cell_within f.path f.kind cell es parts rest
role_within Counter time f cell es parts rest = cell_within f.path f.kind cell es parts rest
role_within Label time f cell es parts rest = cell_within f.path f.kind cell es parts rest

fields_within : (time : ℤ) (fs : List Field) (cs : List Cell) → AreShallow fs → AreWithin 126 (shown_of time fs cs)
fields_within time [] cs shallow = tt
fields_within time (f ∷ fs) [] shallow = tt
fields_within time (f ∷ fs) (c ∷ cs) shallow = role_within f.role time f c (shown_of time fs cs) shallow.0 (fields_within time fs cs shallow.1)

count_within : (folded : Bool) (count : ℕ) → AreWithin 126 (count_shown folded count)
count_within false count = tt
count_within true count = (omega arith, tt)

append_within : (es ds : List Shown) → AreWithin 126 es → AreWithin 126 ds → AreWithin 126 (es ++ ds)
append_within [] ds h k = k
append_within (e ∷ es) ds h k = (h.0, append_within es ds h.1 k)

row_texts : (schema : Schema) (row : Row) → IsTemplateSchema schema → Fits schema row → HaveSmallSums row.cells → AreTexts (shown_row schema row)
row_texts schema row template fits small =
    append_texts (shown_of row.time schema.fields row.cells) (count_shown schema.folded row.count)
    (fields_texts schema.folded schema.rises row.count row.time schema.fields row.cells fits.instant template.mapped.paths fits.cells_fit small)
    (count_texts schema.folded row.count fits.count_within)

row_within : (schema : Schema) (row : Row) → AreShallow schema.fields → AreWithin 126 (shown_row schema row)
row_within schema row shallow =
    append_within (shown_of row.time schema.fields row.cells) (count_shown schema.folded row.count) (fields_within row.time schema.fields row.cells shallow) (count_within schema.folded row.count)

pub norm_printable : (schema : Schema) (row : Row) → IsTemplateSchema schema → Fits schema row → HaveSmallSums row.cells → IsPrintable (norm schema row)
unfolding norm levels
norm_printable schema row template fits small = level_printable (longest (shown_row schema row)) (shown_row schema row) (row_texts schema row template fits small)

pub norm_depth : (schema : Schema) (row : Row) → AreShallow schema.fields → depth (norm schema row) ≤ 127
unfolding norm levels
norm_depth schema row shallow =
    let within = level_depth (longest (shown_row schema row)) 126 (shown_row schema row) (row_within schema row shallow) in
    omega arith
