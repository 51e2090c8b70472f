-- The gauge of a range of rows, from the column of a field.
use Rattle.std.specs.Prelude.{◌≡◌, ℕ, ℤ, zero, suc, ◌+◌, ◌<◌, ◌≤◌, Bool, true, false, Option, Some, None, List, [], ◌∷◌, ◌++◌, map, length, take, drop, slice_range}
use Rattle.std.specs.List.{slice_get}
use Rattle.std.proofs.Common.{refl, ap, sym, subst, ◌∙◌, arith}
use Rattle.std.proofs.Math.ListN.{drop_of_length-le}
use Rattle.fold_law.specs.declared.measures.Parts.{Parts}
use Rattle.fold_law.specs.declared.measures.Gauge.{Gauge}
use Rattle.fold_law.specs.Laws.{fold_of}
use Rattle.fold_law.specs.Gauges.{no_gauge, merge_gauges, gauge_of_one}
use Rattle.row_cells.specs.Each.{Each}
use Rattle.row_cells.specs.declared.schemas.FieldType.{FieldType}
use Rattle.row_cells.specs.declared.schemas.FieldType.TheVariants.{Date, Keyword, Long, Integer, Short, Byte, Boolean, Aggregate}
use Rattle.row_cells.specs.declared.schemas.Role.{Role}
use Rattle.row_cells.specs.declared.schemas.Role.TheVariants.{Time, Dimension, Gauge as GaugeRole, Counter, Label}
use Rattle.row_cells.specs.declared.schemas.Field.{Field}
use Rattle.row_cells.specs.declared.schemas.Schema.{Schema}
use Rattle.row_cells.specs.declared.scalars.Scalar.TheVariants.{Whole as WholeValue, Flag, Word}
use Rattle.row_cells.specs.declared.rows.Cell.{Cell}
use Rattle.row_cells.specs.declared.rows.Cell.TheVariants.{Absent, One, Many, Gauge as GaugeCell, Rise as RiseCell}
use Rattle.row_cells.specs.declared.rows.Row.{Row}
use Rattle.row_cells.specs.Fitting.{CellFits, FoldedGaugeFits, RawGaugeFits, GaugeFits}
use Rattle.row_cells.specs.Merging.{parts_of as cell_parts, parts_of_value}
use Rattle.column_block.specs.declared.kinds.Values.{Values}
use Rattle.column_block.specs.declared.kinds.Values.TheVariants as values
use Rattle.column_block.specs.Presence.{present}
use Rattle.column_block.specs.Ranges.{rows_between, parts_of}
use Rattle.index_segment.specs.declared.forms.Form.{Form}
use Rattle.index_segment.specs.Cells.{whole_in, parts_in}
use Rattle.index_segment.specs.Columns.{cell_at, columns_from, columns_of, columns_of_cells}
use Rattle.index_segment.specs.Forms.{form_of, forms_of, gauge_form, width_of, widths}
use Rattle.index_segment.specs.Looks.{IsGaugeAt, gauge_at, gauge_of}
use Rattle.row_cells.specs.KeyedRows.{AreRowsOf, IsRowOf}
use Rattle.index_segment.proofs.Fit.{FitFrom, FitHere, rows_here, rows_behind, rows_first}
use Rattle.index_segment.proofs.Restored.{behind, width_is}
use Rattle.index_segment.proofs.Scanned.{range_two}
use Rattle.index_segment.proofs.Lists.{some_is}
use Rattle.column_block.specs.EachLaws.{each-range}
use Rattle.std.proofs.lemmas.List.{take-map}
use Rattle.index_segment.proofs.HeldRows.{forms_in}

-- ---- the place of a field's columns

pub widths_before : (f : Field → Form) (fields items : List Field) (place index columns : ℕ) → items ≡ take place fields → length items ≤ index → columns + widths (map f (drop index items)) ≡ widths (map f items) → columns ≡ widths (take place (map f fields))
widths_before f fields items place index columns items_is end is =
    let none : widths (map f (drop index items)) ≡ 0 = ap (λ xs. widths (map f xs)) (drop_of_length-le items end) in
    let all : widths (map f items) ≡ widths (take place (map f fields)) = ap (λ xs. widths (map f xs)) items_is ∙ ap widths (sym (take-map f place fields)) in
    omega (arith, none, all, is)

-- ---- a field's column

-- what a gauge's column has
abbrev gauge_values : Bool → FieldType → List Cell → Values
gauge_values true kind cells = values.Parts (map parts_in cells)
gauge_values false Aggregate cells = values.Parts (map parts_in cells)
gauge_values false kind cells = values.Whole (map whole_in cells)

one_column : (folded : Bool) (kind : FieldType) (cells : List Cell) → columns_of_cells (gauge_form folded kind) cells ≡ gauge_values folded kind cells ∷ []
one_column true kind cells = refl
one_column false Aggregate cells = refl
one_column false Date cells = refl
one_column false Keyword cells = refl
one_column false Long cells = refl
one_column false Integer cells = refl
one_column false Short cells = refl
one_column false Byte cells = refl
one_column false Boolean cells = refl

-- the column of a gauge, and what its cells are
pub record GaugeColumn (folded rises : Bool) (rows : List Row) (field : ℕ) (column : Option Values) : Type 0 where
  pub kind : FieldType
  pub is : column ≡ Some (gauge_values folded kind (map (cell_at field) rows))
  pub fits : Each (λ row. GaugeFits folded kind row.count (cell_at field row)) rows

gauge_fits : (folded rises : Bool) (f : Field) (place : ℕ) (rows : List Row) → f.role ≡ GaugeRole → Each (FitHere folded rises f place) rows → Each (λ row. GaugeFits folded f.kind row.count (cell_at place row)) rows
gauge_fits folded rises f place [] role all = tt
gauge_fits folded rises f place (row ∷ rows) role all = (one f.role role all.0.fits, gauge_fits folded rises f place rows role all.1)
  where
    one : (r : Role) → r ≡ GaugeRole → CellFits folded rises f.kind r row.count (cell_at place row) → GaugeFits folded f.kind row.count (cell_at place row)
    one GaugeRole is fit = fit
    one Time is fit = cc
    one Dimension is fit = cc
    one Counter is fit = cc
    one Label is fit = cc

gauge_column : (schema : Schema) (fs : List Field) (p place : ℕ) (rows : List Row) → Each (IsRowOf schema) rows → IsGaugeAt fs place → Each (FitFrom schema.folded schema.rises fs p) rows → GaugeColumn schema.folded schema.rises rows (p + place) (slice_get (columns_from p (forms_in schema.folded schema.rises fs) rows) (widths (take place (forms_in schema.folded schema.rises fs))))
gauge_column schema [] p place rows each is all = absurd is
gauge_column schema (f ∷ fs) p zero rows each is all = record {
  kind = f.kind;
  is = ap (λ cs. slice_get (cs ++ columns_from (p + 1) (forms_in schema.folded schema.rises fs) rows) 0) (ap (λ r. columns_of_cells (form_of schema.folded schema.rises f.kind r) (map (cell_at p) rows)) is ∙ one_column schema.folded f.kind (map (cell_at p) rows)) ∙ ap (λ n. Some (gauge_values schema.folded f.kind (map (cell_at n) rows))) here;
  fits = subst (λ n. Each (λ row. GaugeFits schema.folded f.kind row.count (cell_at n row)) rows) here (gauge_fits schema.folded schema.rises f p rows is (rows_here schema f fs p rows each all));
}
  where
    here : p ≡ p + 0
    here = omega arith
gauge_column schema (f ∷ fs) p (suc place) rows each is all =
    let next : suc p ≡ p + 1 = omega arith in
    let rest = gauge_column schema fs (p + 1) place rows each is (subst (λ n. Each (FitFrom schema.folded schema.rises fs n) rows) next (rows_behind schema f fs p rows all)) in
    let form = form_of schema.folded schema.rises f.kind f.role in
    let cells = columns_of_cells form (map (cell_at p) rows) in
    let more = columns_from (p + 1) (forms_in schema.folded schema.rises fs) rows in
    let deep = widths (take place (forms_in schema.folded schema.rises fs)) in
    let at : slice_get (cells ++ more) (width_of form + deep) ≡ slice_get more deep = ap (λ n. slice_get (cells ++ more) (n + deep)) (sym (width_is form (map (cell_at p) rows))) ∙ behind cells more deep in
    subst (λ n. GaugeColumn schema.folded schema.rises rows n (slice_get (cells ++ more) (width_of form + deep))) over
    (record { kind = rest.kind; is = at ∙ rest.is; fits = rest.fits })
  where
    over : p + 1 + place ≡ p + suc place
    over = omega arith

pub column_there : (schema : Schema) (rows : List Row) (field : ℕ) → AreRowsOf schema rows → IsGaugeAt schema.fields field → GaugeColumn schema.folded schema.rises rows field (slice_get (columns_of schema rows) (widths (take field (forms_of schema))))
unfolding columns_of
column_there schema rows field are is =
    subst (λ n. GaugeColumn schema.folded schema.rises rows n (slice_get (columns_from 0 (forms_of schema) rows) (widths (take field (forms_of schema))))) none
    (gauge_column schema schema.fields 0 field rows are.each is (rows_first schema rows are.each))
  where
    none : 0 + field ≡ field
    none = omega arith

-- ---- folds

abbrev gauge_with : Option Parts → Gauge
gauge_with p = record { 0 = p }

abbrev folded_parts : List (Option Parts) → Gauge
folded_parts ps = fold_of no_gauge merge_gauges gauge_of_one (present ps)

-- one more that may be present
more_parts : (p : Option Parts) (ps : List (Option Parts)) → folded_parts (p ∷ ps) ≡ merge_gauges (gauge_with p) (folded_parts ps)
more_parts None ps = refl
more_parts (Some p) ps = refl

abbrev folded_wholes : List (Option ℤ) → Gauge
folded_wholes vs = fold_of no_gauge merge_gauges gauge_of_one (map parts_of_value (present vs))

whole_parts : Option ℤ → Option Parts
whole_parts None = None
whole_parts (Some v) = Some (parts_of_value v)

more_wholes : (v : Option ℤ) (vs : List (Option ℤ)) (p : Option Parts) → p ≡ whole_parts v → folded_wholes (v ∷ vs) ≡ merge_gauges (gauge_with p) (folded_wholes vs)
unfolding whole_parts
more_wholes None vs p is = ap (λ q. merge_gauges (gauge_with q) (folded_wholes vs)) (sym is)
more_wholes (Some v) vs p is = ap (λ q. merge_gauges (gauge_with q) (folded_wholes vs)) (sym is)

-- a cell's parts are those that its column has
parts_folded : (kind : FieldType) (n : ℕ) (c : Cell) → FoldedGaugeFits kind n c → parts_in c ≡ cell_parts c
parts_folded kind n Absent fit = refl
parts_folded kind n (GaugeCell p) fit = refl
parts_folded kind n (One v) fit = absurd fit
parts_folded kind n (Many vs) fit = absurd fit
parts_folded kind n (RiseCell r) fit = absurd fit

parts_aggregate : (c : Cell) → RawGaugeFits Aggregate c → parts_in c ≡ cell_parts c
parts_aggregate Absent fit = refl
parts_aggregate (GaugeCell p) fit = refl
parts_aggregate (One (WholeValue v)) fit = absurd fit
parts_aggregate (One (Word t)) fit = absurd fit
parts_aggregate (One (Flag b)) fit = absurd fit
parts_aggregate (Many vs) fit = absurd fit
parts_aggregate (RiseCell r) fit = absurd fit

parts_whole : (kind : FieldType) → (kind ≡ Aggregate → ⊥) → (c : Cell) → RawGaugeFits kind c → cell_parts c ≡ whole_parts (whole_in c)
unfolding whole_parts
parts_whole kind other Absent fit = refl
parts_whole kind other (One (WholeValue v)) fit = refl
parts_whole kind other (One (Word t)) fit = absurd fit
parts_whole kind other (One (Flag b)) fit = absurd fit
parts_whole kind other (GaugeCell p) fit = absurd (other fit.0)
parts_whole kind other (Many vs) fit = absurd fit
parts_whole kind other (RiseCell r) fit = absurd fit

module _ (field : ℕ) where
  fold_parts : (Q : Row → Type 0) → ((row : Row) → Q row → parts_in (cell_at field row) ≡ cell_parts (cell_at field row)) → (rows : List Row) → Each Q rows → folded_parts (map parts_in (map (cell_at field) rows)) ≡ gauge_of field rows
  fold_parts Q same [] all = refl
  fold_parts Q same (row ∷ rows) all =
      more_parts (parts_in (cell_at field row)) (map parts_in (map (cell_at field) rows))
      ∙ (ap (λ p. merge_gauges (gauge_with p) (folded_parts (map parts_in (map (cell_at field) rows)))) (same row all.0)
      ∙ ap (merge_gauges (gauge_at field row)) (fold_parts Q same rows all.1))

  fold_wholes : (Q : Row → Type 0) → ((row : Row) → Q row → cell_parts (cell_at field row) ≡ whole_parts (whole_in (cell_at field row))) → (rows : List Row) → Each Q rows → folded_wholes (map whole_in (map (cell_at field) rows)) ≡ gauge_of field rows
  fold_wholes Q same [] all = refl
  fold_wholes Q same (row ∷ rows) all =
      more_wholes (whole_in (cell_at field row)) (map whole_in (map (cell_at field) rows)) (cell_parts (cell_at field row)) (same row all.0)
      ∙ ap (merge_gauges (gauge_at field row)) (fold_wholes Q same rows all.1)

  raw_wholes : (kind : FieldType) → (kind ≡ Aggregate → ⊥) → (rows : List Row) (i j : ℕ) → Each (λ row. RawGaugeFits kind (cell_at field row)) (slice_range rows i j) → folded_wholes (slice_range (map whole_in (map (cell_at field) rows)) i j) ≡ gauge_of field (slice_range rows i j)
  raw_wholes kind other rows i j all = ap folded_wholes (range_two whole_in (cell_at field) rows i j) ∙ fold_wholes (λ row. RawGaugeFits kind (cell_at field row)) (λ row fit. parts_whole kind other (cell_at field row) fit) (slice_range rows i j) all

  all_parts : (Q : Row → Type 0) → ((row : Row) → Q row → parts_in (cell_at field row) ≡ cell_parts (cell_at field row)) → (rows : List Row) (i j : ℕ) → Each Q (slice_range rows i j) → folded_parts (slice_range (map parts_in (map (cell_at field) rows)) i j) ≡ gauge_of field (slice_range rows i j)
  all_parts Q same rows i j all = ap folded_parts (range_two parts_in (cell_at field) rows i j) ∙ fold_parts Q same (slice_range rows i j) all

  fold_range : (folded : Bool) (kind : FieldType) (rows : List Row) (i j : ℕ) → Each (λ row. GaugeFits folded kind row.count (cell_at field row)) (slice_range rows i j) → fold_of no_gauge merge_gauges gauge_of_one (parts_of (rows_between i j (gauge_values folded kind (map (cell_at field) rows)))) ≡ gauge_of field (slice_range rows i j)
  fold_range true kind rows i j all = all_parts (λ row. FoldedGaugeFits kind row.count (cell_at field row)) (λ row fit. parts_folded kind row.count (cell_at field row) fit) rows i j all
  fold_range false Aggregate rows i j all = all_parts (λ row. RawGaugeFits Aggregate (cell_at field row)) (λ row fit. parts_aggregate (cell_at field row) fit) rows i j all
  fold_range false Date rows i j all = raw_wholes Date (λ e. cc) rows i j all
  fold_range false Keyword rows i j all = raw_wholes Keyword (λ e. cc) rows i j all
  fold_range false Long rows i j all = raw_wholes Long (λ e. cc) rows i j all
  fold_range false Integer rows i j all = raw_wholes Integer (λ e. cc) rows i j all
  fold_range false Short rows i j all = raw_wholes Short (λ e. cc) rows i j all
  fold_range false Byte rows i j all = raw_wholes Byte (λ e. cc) rows i j all
  fold_range false Boolean rows i j all = raw_wholes Boolean (λ e. cc) rows i j all

-- the gauge of a range's values is that of the range's rows
pub gauge_is : (schema : Schema) (rows : List Row) (field i j : ℕ) (column : Values) → AreRowsOf schema rows → IsGaugeAt schema.fields field → Some column ≡ slice_get (columns_of schema rows) (widths (take field (forms_of schema))) → fold_of no_gauge merge_gauges gauge_of_one (parts_of (rows_between i j column)) ≡ gauge_of field (slice_range rows i j)
gauge_is schema rows field i j column are gauge at =
    let c = column_there schema rows field are gauge in
    let same : column ≡ gauge_values schema.folded c.kind (map (cell_at field) rows) = some_is (at ∙ c.is) in
    let Q : Row → Type 0 = λ row. GaugeFits schema.folded c.kind row.count (cell_at field row) in
    ap (λ v. fold_of no_gauge merge_gauges gauge_of_one (parts_of (rows_between i j v))) same
    ∙ fold_range field schema.folded c.kind rows i j (each-range Q rows i j c.fits)

pub no_column : (schema : Schema) (rows : List Row) (field : ℕ) → AreRowsOf schema rows → IsGaugeAt schema.fields field → None ≡ slice_get (columns_of schema rows) (widths (take field (forms_of schema))) → ⊥
no_column schema rows field are gauge at = cc ((column_there schema rows field are gauge).is)

pub gauge_field : (fields : List Field) (field : ℕ) → IsGaugeAt fields field → field < length fields
gauge_field [] field is = absurd is
gauge_field (f ∷ fields) zero is = omega arith
gauge_field (f ∷ fields) (suc field) is = omega (arith, gauge_field fields field is)
