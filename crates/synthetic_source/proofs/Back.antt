-- The document that a row stands for types as the row.
use Rattle.std.proofs.Common.{◌≡◌, ◌⊎◌, inl, inr, ℤ, ℕ, zero, suc, ◌≤◌, List, [], ◌∷◌, ◌++◌, map, Bool, true, false, cond, ◌||◌, not, bytes_eq, Some, None, refl, sym, ap, ap₂, ◌∙◌, subst, arith, append-nil}
use Rattle.std.specs.List.{list_any}
use Rattle.std.specs.Option.{is_some}
use Rattle.fold_law.specs.declared.measures.Parts.{Parts}
use Rattle.serde_json.specs.Data.{Data, string, object}
use Rattle.json_walk.specs.Path.{end, text, is_stop}
use Rattle.json_walk.specs.Leaves.{at, at_members, leaves_of}
use Rattle.time_text.specs.Instant.{IsInstant}
use Rattle.time_text.specs.Printed.{instant_text}
use Rattle.row_cells.specs.declared.scalars.Scalar.{Scalar}
use Rattle.row_cells.specs.declared.scalars.Scalar.TheVariants.{Whole, Flag, Word}
use Rattle.row_cells.specs.declared.schemas.FieldType.{FieldType}
use Rattle.row_cells.specs.declared.schemas.FieldType.TheVariants.{Date, Keyword, Long, Integer, Short, Byte, Boolean, Aggregate}
use Rattle.row_cells.specs.declared.schemas.Role.{Role}
use Rattle.row_cells.specs.declared.schemas.Role.TheVariants.{Time, Dimension, Gauge as GaugeRole, Counter, Label}
use Rattle.row_cells.specs.declared.schemas.Field.{Field}
use Rattle.row_cells.specs.declared.schemas.Schema.{Schema}
use Rattle.row_cells.specs.declared.rows.Cell.{Cell}
use Rattle.row_cells.specs.declared.rows.Cell.TheVariants.{Absent, One, Many, Gauge, Rise}
use Rattle.row_cells.specs.declared.rows.Row.{Row}
use Rattle.row_cells.specs.Dimensions.{IsBefore}
use Rattle.row_cells.specs.Fitting.{AreValues, AreValuesAfter, CellFits, CellsFit, FieldsAscendAfter, Fits, IsAggregate, IsValueOf}
use Rattle.row_cells.specs.JoinLaws.{before_chain}
use Rattle.row_cells.specs.Joining.{IsIn}
use Rattle.row_cells.specs.WidenLaws.{apart as not_same, other_bytes, same_bytes}
use Rattle.ts_mapping.specs.Paths.{is_below, timestamp}
use Rattle.ts_mapping.specs.Readings.{aggregate_of, reading_of}
use Rattle.ts_mapping.specs.Roles.{is_aggregate, may_have}
use Rattle.ts_mapping.specs.Schemas.{AreApart, AreTemplateFields, IsTemplateField, IsTemplateSchema, time_field}
use Rattle.ts_mapping.specs.RoleLaws.{date_is}
use Rattle.synthetic_source.specs.Faults.{fault_at, number_read, fault_by, fault_of, field_at, is_read, leaves_in, mapped_fault, stops_of, time_in, time_of}
use Rattle.synthetic_source.specs.Levels.{Shown, level, levels, longest, names_of, under, value_at, value_or}
use Rattle.synthetic_source.specs.Laws.{RebuiltTypes, RebuiltSettles}
use Rattle.synthetic_source.specs.Normal.{count_shown, norm, parts_data, scalar_data, shown_of}
use Rattle.synthetic_source.specs.Readings.{AllValues}
use Rattle.synthetic_source.specs.Rows.{IsTyped, cell_of, cells_of, list_cell, parts_cell, readings_of, single_cell, with_reading}
use Rattle.synthetic_source.specs.Values.{ordered}
use Rattle.synthetic_source.proofs.Grouping.{names_plain, names_rise}
use Rattle.synthetic_source.proofs.Ordered.{stay_ordered}
use Rattle.synthetic_source.proofs.Reaching.{IsClosed, IsTidy, ends, ends_of, has_or_lacks, none_at, none_longest, reached}
use Rattle.synthetic_source.proofs.ReadBack.{date_back, parts_back, reads_back}
use Rattle.synthetic_source.proofs.Shows.{Found, nothing, there, closed_content, content, found, list_ends, none_under, one_end, shown_at, stop_field, stop_there, value_shown}

-- ---- what a value shows is read, and as the value

plain_kind : (kind : FieldType) (v : Scalar) → IsValueOf kind v → is_aggregate kind ≡ false
plain_kind Date v is = refl
plain_kind Keyword v is = refl
plain_kind Long v is = refl
plain_kind Integer v is = refl
plain_kind Short v is = refl
plain_kind Byte v is = refl
plain_kind Boolean v is = refl
plain_kind Aggregate v is = absurd is

read_true : (kind : FieldType) (v : Scalar) → IsValueOf kind v → is_read kind (scalar_data kind v) ≡ true
read_true kind v is =
    ap (λ b. cond b (is_some (aggregate_of (scalar_data kind v))) (is_some (reading_of kind (scalar_data kind v)))) (plain_kind kind v is)
    ∙ ap is_some (reads_back kind v is)

all_read : (kind : FieldType) (vs : List Scalar) → AllValues kind vs → list_any (λ leaf. not (is_read kind leaf)) (map (scalar_data kind) vs) ≡ false
all_read kind [] all = refl
all_read kind (v ∷ vs) all = ap (λ b. not b || list_any (λ leaf. not (is_read kind leaf)) (map (scalar_data kind) vs)) (read_true kind v all.0) ∙ all_read kind vs all.1

all_back : (kind : FieldType) (vs : List Scalar) → AllValues kind vs → readings_of kind (map (scalar_data kind) vs) ≡ vs
all_back kind [] all = refl
all_back kind (v ∷ vs) all = ap (λ o. with_reading o (readings_of kind (map (scalar_data kind) vs))) (reads_back kind v all.0) ∙ ap (λ xs. v ∷ xs) (all_back kind vs all.1)

all_after : (kind : FieldType) (v : Scalar) (vs : List Scalar) → AreValuesAfter kind v vs → AllValues kind vs
all_after kind v [] are = tt
all_after kind v (w ∷ ws) are = (are.1, all_after kind w ws are.2)

all_values : (kind : FieldType) (vs : List Scalar) → AreValues kind vs → AllValues kind vs
all_values kind [] are = tt
all_values kind (v ∷ vs) are = (are.0, all_after kind v vs are.1)

-- a leaf that is read is no fault at a field
one_fine : (kind : FieldType) (role : Role) (d : Data) → is_read kind d ≡ true → mapped_fault kind role (d ∷ []) ≡ None
one_fine kind Time d read = rw read refl
one_fine kind Dimension d read = rw read refl
one_fine kind GaugeRole d read = rw read refl
one_fine kind Counter d read = rw read refl
one_fine kind Label d read = rw read refl

list_fine : (kind : FieldType) (leaves : List Data) → list_any (λ leaf. not (is_read kind leaf)) leaves ≡ false → mapped_fault kind Label leaves ≡ None
list_fine kind leaves none = rw none refl

value_fine : (kind : FieldType) (role : Role) (v : Scalar) → IsValueOf kind v → mapped_fault kind role (ends (scalar_data kind v)) ≡ None
value_fine kind role v is = ap (mapped_fault kind role) (one_end kind v) ∙ one_fine kind role (scalar_data kind v) (read_true kind v is)

value_cell : (kind : FieldType) (v : Scalar) → IsValueOf kind v → single_cell kind (ends (scalar_data kind v)) ≡ One v
value_cell kind v is = ap (single_cell kind) (one_end kind v) ∙ rw (plain_kind kind v is, reads_back kind v is) refl

parts_fine : (kind : FieldType) (role : Role) (p : Parts) → kind ≡ Aggregate → IsAggregate p → mapped_fault kind role (parts_data p ∷ []) ≡ None
parts_fine kind role p agg is = subst (λ k. mapped_fault k role (parts_data p ∷ []) ≡ None) (sym agg) (one_fine Aggregate role (parts_data p) (ap is_some (parts_back p is)))

parts_cell_back : (kind : FieldType) (p : Parts) → kind ≡ Aggregate → IsAggregate p → single_cell kind (parts_data p ∷ []) ≡ Gauge p
parts_cell_back kind p agg is = subst (λ k. single_cell k (parts_data p ∷ []) ≡ Gauge p) (sym agg) (ap parts_cell (parts_back p is))

time_fine : (kind : FieldType) (t : ℤ) → IsInstant t → kind ≡ Date → mapped_fault kind Time (string (instant_text t) ∷ []) ≡ None
time_fine kind t instant date = subst (λ k. mapped_fault k Time (string (instant_text t) ∷ []) ≡ None) (sym date) (one_fine Date Time (string (instant_text t)) (ap is_some (date_back t instant)))

-- what a field shows is no fault there
fine : (t : ℤ) (rises : Bool) (kind : FieldType) (role : Role) (c : Cell) → IsInstant t → may_have kind role ≡ true → CellFits false rises kind role 1 c → mapped_fault kind role (ends_of (content t role kind c)) ≡ None
fine t rises kind Time c instant may fits = time_fine kind t instant (date_is kind may)
fine t rises kind Dimension Absent instant may fits = refl
fine t rises kind Dimension (One v) instant may fits = value_fine kind Dimension v fits
fine t rises kind Dimension (Many vs) instant may fits = absurd fits
fine t rises kind Dimension (Gauge p) instant may fits = absurd fits
fine t rises kind Dimension (Rise r) instant may fits = absurd fits
fine t rises kind GaugeRole Absent instant may fits = refl
fine t rises kind GaugeRole (One (Whole v)) instant may fits = value_fine kind GaugeRole (Whole v) fits
fine t rises kind GaugeRole (One (Flag b)) instant may fits = absurd fits
fine t rises kind GaugeRole (One (Word w)) instant may fits = absurd fits
fine t rises kind GaugeRole (Many vs) instant may fits = absurd fits
fine t rises kind GaugeRole (Gauge p) instant may fits = parts_fine kind GaugeRole p fits.0 fits.1
fine t rises kind GaugeRole (Rise r) instant may fits = absurd fits
fine t rises kind Counter Absent instant may fits = refl
fine t rises kind Counter (One (Whole v)) instant may fits = value_fine kind Counter (Whole v) fits
fine t rises kind Counter (One (Flag b)) instant may fits = absurd fits
fine t rises kind Counter (One (Word w)) instant may fits = absurd fits
fine t rises kind Counter (Many vs) instant may fits = absurd fits
fine t rises kind Counter (Gauge p) instant may fits = absurd fits
fine t rises kind Counter (Rise r) instant may fits = absurd fits
fine t rises kind Label Absent instant may fits = refl
fine t rises kind Label (One v) instant may fits = absurd fits
fine t rises kind Label (Many vs) instant may fits = ap (mapped_fault kind Label) (list_ends kind vs) ∙ list_fine kind (map (scalar_data kind) vs) (all_read kind vs (all_values kind vs fits))
fine t rises kind Label (Gauge p) instant may fits = absurd fits
fine t rises kind Label (Rise r) instant may fits = absurd fits

list_back : (kind : FieldType) (vs : List Scalar) → AreValues kind vs → list_cell kind (map (scalar_data kind) vs) ≡ Many vs
list_back kind [] are = absurd are
list_back kind (v ∷ vs) are = ap (λ xs. Many (ordered xs)) (all_back kind (v ∷ vs) (all_values kind (v ∷ vs) are)) ∙ ap Many (stay_ordered kind (v ∷ vs) are)

-- and it gives the field's cell
back : (t : ℤ) (rises : Bool) (kind : FieldType) (role : Role) (c : Cell) → CellFits false rises kind role 1 c → cell_of kind role (ends_of (content t role kind c)) ≡ c
back t rises kind Time Absent fits = refl
back t rises kind Time (One v) fits = absurd fits
back t rises kind Time (Many vs) fits = absurd fits
back t rises kind Time (Gauge p) fits = absurd fits
back t rises kind Time (Rise r) fits = absurd fits
back t rises kind Dimension Absent fits = refl
back t rises kind Dimension (One v) fits = value_cell kind v fits
back t rises kind Dimension (Many vs) fits = absurd fits
back t rises kind Dimension (Gauge p) fits = absurd fits
back t rises kind Dimension (Rise r) fits = absurd fits
back t rises kind GaugeRole Absent fits = refl
back t rises kind GaugeRole (One (Whole v)) fits = value_cell kind (Whole v) fits
back t rises kind GaugeRole (One (Flag b)) fits = absurd fits
back t rises kind GaugeRole (One (Word w)) fits = absurd fits
back t rises kind GaugeRole (Many vs) fits = absurd fits
back t rises kind GaugeRole (Gauge p) fits = parts_cell_back kind p fits.0 fits.1
back t rises kind GaugeRole (Rise r) fits = absurd fits
back t rises kind Counter Absent fits = refl
back t rises kind Counter (One (Whole v)) fits = value_cell kind (Whole v) fits
back t rises kind Counter (One (Flag b)) fits = absurd fits
back t rises kind Counter (One (Word w)) fits = absurd fits
back t rises kind Counter (Many vs) fits = absurd fits
back t rises kind Counter (Gauge p) fits = absurd fits
back t rises kind Counter (Rise r) fits = absurd fits
back t rises kind Label Absent fits = refl
back t rises kind Label (One v) fits = absurd fits
back t rises kind Label (Many vs) fits = ap (list_cell kind) (list_ends kind vs) ∙ list_back kind vs fits
back t rises kind Label (Gauge p) fits = absurd fits
back t rises kind Label (Rise r) fits = absurd fits

-- ---- fields of a template

template_in : (f : Field) (fs : List Field) → IsIn f fs → AreTemplateFields fs → IsTemplateField f
template_in f [] is are = absurd is
template_in f (g ∷ gs) (inl same) are = subst IsTemplateField (sym same) are.0
template_in f (g ∷ gs) (inr is) are = template_in f gs is are.1

field_in : (f : Field) (fs : List Field) → IsIn f fs → field_at f.path fs ≡ None → ⊥
field_in f [] is none = is
field_in f (g ∷ gs) (inl same) none =
    let there : field_at f.path (g ∷ gs) ≡ Some g = ap (λ b. cond b (Some g) (field_at f.path gs)) (same_bytes f.path g.path (ap (λ (x : Field). x.path) same)) in
    let bad : Some g ≡ None = sym there ∙ none in
    cc
field_in f (g ∷ gs) (inr is) none = go (bytes_eq f.path g.path) none (field_in f gs is)
  where
    go : (b : Bool) → cond b (Some g) (field_at f.path gs) ≡ None → (field_at f.path gs ≡ None → ⊥) → ⊥
    go true none later = cc
    go false none later = later none

-- ---- a row's document

module _ (t : ℤ) (rises : Bool) (fs : List Field) (cs : List Cell) (ascend : FieldsAscendAfter [] fs) (fit : CellsFit false rises 1 fs cs) (apart : AreApart fs) where
  tidy : IsTidy (stops_of fs) None (shown_of t fs cs)
  tidy = record {
    clear = clear;
    unstopped = unstopped;
    closed = closed;
  }
    where
      clear : (s : List ℕ) → (value_at s (shown_of t fs cs) ≡ None) ⊎ (under s (shown_of t fs cs) ≡ [])
      clear s = by (found t rises s fs cs fit)
        where
          by : Found t rises s fs cs → (value_at s (shown_of t fs cs) ≡ None) ⊎ (under s (shown_of t fs cs) ≡ [])
          by (nothing none shown) = inl (value_shown t [] s fs cs ascend ∙ shown)
          by (there f c is same at_f fits shown) = inr (none_under t s fs cs (λ g in_fs. ap (is_below g.path) same ∙ apart g f in_fs is))

      unstopped : (s : List ℕ) → (is_stop (stops_of fs) (Some s) ≡ false) ⊎ (under s (shown_of t fs cs) ≡ [])
      unstopped s = by (is_stop (stops_of fs) (Some s)) refl
        where
          by : (b : Bool) → is_stop (stops_of fs) (Some s) ≡ b → (is_stop (stops_of fs) (Some s) ≡ false) ⊎ (under s (shown_of t fs cs) ≡ [])
          by true is = let f = stop_field s fs is in inr (none_under t s fs cs (λ g in_fs. ap (is_below g.path) (sym f.2) ∙ apart g f.0 in_fs f.1))
          by false is = inl is

      closed : (s : List ℕ) (d : Data) → value_at s (shown_of t fs cs) ≡ Some d → IsClosed (stops_of fs) s d
      closed s d is = by (found t rises s fs cs fit)
        where
          by : Found t rises s fs cs → IsClosed (stops_of fs) s d
          by (nothing none shown) = let bad : Some d ≡ None = sym is ∙ (value_shown t [] s fs cs ascend ∙ shown) in cc
          by (there f c in_fs same at_f fits shown) =
              closed_content (stops_of fs) s t rises f.kind f.role c d fits
              (λ agg. ap (λ q. is_stop (stops_of fs) (Some q)) same ∙ stop_there f fs in_fs (ap is_aggregate agg))
              (sym shown ∙ (sym (value_shown t [] s fs cs ascend) ∙ is))

  -- the leaves of the document at a path are those of what the field there shows
  pub leaves_at : (p : List ℕ) → at (stops_of fs) None (object (levels (shown_of t fs cs))) (text p) ≡ ends_of (shown_at t p fs cs)
  unfolding levels
  leaves_at p = reached (stops_of fs) (longest (shown_of t fs cs)) None (shown_of t fs cs) p (omega arith) tidy ∙ ap ends_of (value_shown t [] p fs cs ascend)

  -- no path is at fault
  pub no_fault : (strict : Bool) (p : List ℕ) (leaves : List Data) → AreTemplateFields fs → IsInstant t → leaves ≡ ends_of (shown_at t p fs cs) → fault_of strict fs p leaves ≡ None
  no_fault strict p leaves are instant same = by (found t rises p fs cs fit)
    where
      clean : (ds : List Data) (f : Field) → field_at p fs ≡ Some f → mapped_fault f.kind f.role ds ≡ None → fault_of strict fs p ds ≡ None
      clean [] f at_f none = refl
      clean (d ∷ ds) f at_f none = ap (fault_by strict fs p (d ∷ ds)) at_f ∙ none

      by : Found t rises p fs cs → fault_of strict fs p leaves ≡ None
      by (nothing none shown) = ap (fault_of strict fs p) (same ∙ ap ends_of shown)
      by (there f c in_fs here at_f fits shown) =
          let leaves_are = same ∙ ap ends_of shown in
          clean leaves f at_f (ap (mapped_fault f.kind f.role) leaves_are ∙ fine t rises f.kind f.role c instant (template_in f fs in_fs are).role fits)

  -- the time is shown
  pub time_shown : AreTemplateFields fs → IsIn time_field fs → shown_at t timestamp fs cs ≡ Some (string (instant_text t))
  time_shown are timed = by (found t rises timestamp fs cs fit)
    where
      by : Found t rises timestamp fs cs → shown_at t timestamp fs cs ≡ Some (string (instant_text t))
      by (nothing none shown) = absurd (field_in time_field fs timed none)
      by (there f c in_fs here at_f fits shown) =
          let role : f.role ≡ Time = (template_in f fs in_fs are).time.1 (sym here) in
          shown ∙ ap (λ r. content t r f.kind c) role

  pub timed_value : AreTemplateFields fs → IsIn time_field fs → value_at timestamp (shown_of t fs cs) ≡ Some (string (instant_text t))
  timed_value are timed = value_shown t [] timestamp fs cs ascend ∙ time_shown are timed

-- the leaf of the time
time_leaf : (n : ℕ) (es : List Shown) (x : List ℕ) → longest es ≤ n → value_at timestamp es ≡ Some (string x) → at_members [] None (level n es) (text timestamp) ≡ string x ∷ []
time_leaf zero es x short is = let bad : None ≡ Some (string x) = sym (ap (value_at timestamp) (none_longest es short)) ∙ is in cc
time_leaf (suc m) es x short is =
    elim (has_or_lacks timestamp (names_of es) (names_rise [] es tt) (names_plain [] es tt)) [
      | inl lacks ↦ absurd (lost (none_at timestamp [] es lacks).1)
      | inr has ↦ has (λ s. value_or (value_at s es) (level m (under s es))) [] None timestamp refl ∙ ap (λ o. at [] (Some timestamp) (value_or o (level m (under timestamp es))) end) is
    ]
  where
    lost : value_at timestamp es ≡ None → ⊥
    lost none = let bad : None ≡ Some (string x) = sym none ∙ is in cc

cells_back : (g : List ℕ → List Data) (t : ℤ) (rises : Bool) (lo : List ℕ) (fs : List Field) (cs : List Cell) → FieldsAscendAfter lo fs → CellsFit false rises 1 fs cs
    → ((p : List ℕ) → IsBefore lo p → g p ≡ ends_of (shown_at t p fs cs)) → cs ≡ map (λ f. cell_of f.kind f.role (g f.path)) fs
cells_back g t rises lo [] [] ascend fit leaves = refl
cells_back g t rises lo [] (c ∷ cs) ascend fit leaves = absurd fit
cells_back g t rises lo (f ∷ fs) [] ascend fit leaves = absurd fit
cells_back g t rises lo (f ∷ fs) (c ∷ cs) ascend fit leaves =
    ap₂ (λ x xs. x ∷ xs)
    (sym (ap (cell_of f.kind f.role) (leaves f.path ascend.0 ∙ ap (λ b. ends_of (cond b (content t f.role f.kind c) (shown_at t f.path fs cs))) (same_bytes f.path f.path refl)) ∙ back t rises f.kind f.role c fit.0))
    (cells_back g t rises f.path fs cs ascend.1 fit.1 (λ p after. leaves p (before_chain lo f.path p ascend.0 after) ∙ ap (λ b. ends_of (cond b (content t f.role f.kind c) (shown_at t p fs cs))) (other_bytes p f.path (λ same. not_same f.path p after (sym same)))))

-- a raw row shows no count
norm_is : (schema : Schema) (row : Row) → schema.folded ≡ false → norm schema row ≡ object (levels (shown_of row.time schema.fields row.cells))
unfolding norm
norm_is schema row raw = ap (λ b. object (levels (shown_of row.time schema.fields row.cells ++ count_shown b row.count))) raw ∙ ap (λ es. object (levels es)) (append-nil (shown_of row.time schema.fields row.cells))

fit_one : (schema : Schema) (row : Row) → schema.folded ≡ false → Fits schema row → CellsFit false schema.rises 1 schema.fields row.cells
fit_one schema row raw fits = subst (λ b. CellsFit b schema.rises 1 schema.fields row.cells) raw (subst (λ n. CellsFit schema.folded schema.rises n schema.fields row.cells) (fits.alone raw) fits.cells_fit)

sound : (schema : Schema) (row : Row) (strict : Bool) → IsTemplateSchema schema → schema.folded ≡ false → Fits schema row → (p : List ℕ) → fault_at schema strict (object (levels (shown_of row.time schema.fields row.cells))) p ≡ None
unfolding fault_at leaves_of
sound schema row strict template raw fits p =
    let fit = fit_one schema row raw fits in
    no_fault row.time schema.rises schema.fields row.cells template.mapped.ascending fit template.apart strict p _ template.fields fits.instant
    (leaves_at row.time schema.rises schema.fields row.cells template.mapped.ascending fit template.apart p)

timed : (schema : Schema) (row : Row) → IsTemplateSchema schema → schema.folded ≡ false → Fits schema row → time_of (object (levels (shown_of row.time schema.fields row.cells))) ≡ Some row.time
unfolding time_of leaves_of levels
timed schema row template raw fits =
    let fit = fit_one schema row raw fits in
    ap time_in (time_leaf (longest (shown_of row.time schema.fields row.cells)) (shown_of row.time schema.fields row.cells) (instant_text row.time) (omega arith)
    (timed_value row.time schema.rises schema.fields row.cells template.mapped.ascending fit template.apart template.fields template.timed))
    ∙ ap number_read (date_back row.time fits.instant)

celled : (schema : Schema) (row : Row) → IsTemplateSchema schema → schema.folded ≡ false → Fits schema row → row.cells ≡ cells_of schema (object (levels (shown_of row.time schema.fields row.cells)))
unfolding leaves_of
celled schema row template raw fits =
    let fit = fit_one schema row raw fits in
    cells_back (leaves_in schema (object (levels (shown_of row.time schema.fields row.cells)))) row.time schema.rises [] schema.fields row.cells template.mapped.ascending fit
    (λ p after. leaves_at row.time schema.rises schema.fields row.cells template.mapped.ascending fit template.apart p)

pub rebuilt_types : RebuiltTypes
rebuilt_types schema row strict template raw fits =
    subst (λ d. IsTyped schema strict d (record { time = row.time; cells = row.cells })) (sym (norm_is schema row raw)) (record {
      sound = sound schema row strict template raw fits;
      time = timed schema row template raw fits;
      cells = celled schema row template raw fits;
    })

pub rebuilt_settles : RebuiltSettles
rebuilt_settles schema row again strict template raw fits typed =
    let first = rebuilt_types schema row strict template raw fits in
    let times : Some again.time ≡ Some row.time = sym typed.time ∙ first.time in
    let time : again.time ≡ row.time = cc in
    let cells : again.cells ≡ row.cells = typed.cells ∙ sym first.cells in
    norm_is schema again raw ∙ (ap₂ (λ t cs. object (levels (shown_of t schema.fields cs))) time cells ∙ sym (norm_is schema row raw))
