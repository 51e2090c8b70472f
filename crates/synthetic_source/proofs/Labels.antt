-- The cells of a document without fault fit the schema, and its labels are short.
use Rattle.std.proofs.Common.{◌≡◌, ◌+◌, ◌≤◌, ℕ, suc, List, [], ◌∷◌, ◌++◌, map, length, Bool, true, false, cond, not, ◌||◌, ◌&&◌, nat_lt, Option, Some, None, refl, sym, ap, ◌∙◌, subst, inl, inr, arith}
use Rattle.std.specs.Option.{is_some}
use Rattle.std.specs.Ordering.{match_ordering}
use Rattle.std.specs.declared.cmp.Ordering.{Ordering}
use Rattle.std.specs.declared.cmp.Ordering.TheVariants.{Less, Equal, Greater}
use Rattle.std.specs.declared.result.Result.TheVariants.{Ok}
use Rattle.fold_law.specs.declared.measures.Parts.{Parts}
use Rattle.row_cells.specs.Dimensions.{IsBefore}
use Rattle.row_cells.specs.JoinLaws.{before_chain}
use Rattle.row_cells.specs.Each.{Each}
use Rattle.row_cells.specs.Fitting.{AreValues, CellFits, CellsFit, IsValueOf}
use Rattle.row_cells.specs.KeyedRows.{IsShortList}
use Rattle.row_cells.specs.Limits.{longest_list}
use Rattle.row_cells.specs.declared.rows.Cell.{Cell}
use Rattle.row_cells.specs.declared.rows.Cell.TheVariants.{Absent}
use Rattle.row_cells.specs.declared.scalars.Scalar.{Scalar}
use Rattle.row_cells.specs.declared.scalars.Scalar.TheVariants.{Whole, Flag, Word}
use Rattle.row_cells.specs.declared.schemas.Field.{Field}
use Rattle.row_cells.specs.declared.schemas.FieldType.{FieldType}
use Rattle.row_cells.specs.declared.schemas.FieldType.TheVariants.{Date, Keyword, Long, Integer, Short, Byte, Boolean, Aggregate}
use Rattle.row_cells.specs.declared.schemas.Role.{Role}
use Rattle.row_cells.specs.declared.schemas.Role.TheVariants.{Time, Dimension, Gauge as GaugeRole, Counter, Label}
use Rattle.row_cells.specs.declared.schemas.Schema.{Schema}
use Rattle.row_cells.specs.WidenLaws.{apart, other_bytes, same_bytes}
use Rattle.serde_json.specs.Data.{Data, null, boolean, number, string, array, object, Items, no_items, item, Members, no_members, member}
use Rattle.json_walk.specs.Counted.{leaf_count, items_leaves, members_leaves}
use Rattle.json_walk.specs.Leaves.{at, at_items, at_members, given, leaf, leaves_of, whole_object}
use Rattle.json_walk.specs.Path.{Path, behind, below, end, is_stop, text}
use Rattle.ts_mapping.specs.Readings.{aggregate_of, reading_of}
use Rattle.ts_mapping.specs.ReadingLaws.{parts_fit, reading_fits}
use Rattle.ts_mapping.specs.Roles.{is_aggregate, may_have}
use Rattle.ts_mapping.specs.Schemas.{AreTemplateFields}
use Rattle.synthetic_source.specs.Document.{cells_unless, document_cells, first_fault, leaf_paths, or_next}
use Rattle.synthetic_source.specs.Faults.{fault_at, fault_by, fault_of, field_at, is_read, leaves_in, mapped_fault, stops_of, takes_one}
use Rattle.synthetic_source.specs.Gathered.{IsAmong, paths_of}
use Rattle.synthetic_source.specs.Laws.{CellsOfDocumentsFit}
use Rattle.synthetic_source.specs.Places.{Rise, RiseAfter}
use Rattle.synthetic_source.specs.Readings.{AllValues, FitsOne, any_unread, wrong_kind}
use Rattle.synthetic_source.specs.Rows.{cell_of, cells_of, list_cell, one_cell, parts_cell, readings_of, single_cell, with_reading}
use Rattle.synthetic_source.specs.Values.{again, ordered, ordered_after, scalar_cmp, with_value}
use Rattle.synthetic_source.specs.declared.errors.DocKind.{DocKind}
use Rattle.synthetic_source.specs.declared.errors.DocKind.TheVariants.{ManyValues}
use Rattle.synthetic_source.proofs.Cells.{one_fits}
use Rattle.synthetic_source.proofs.Decided.{fault_among}
use Rattle.synthetic_source.proofs.Documents.{fits_rising, tail_rise}
use Rattle.synthetic_source.proofs.Search.{fields_rise}
use Rattle.synthetic_source.proofs.Values.{ordered_fits}

-- ---- single values among leaves are few

abbrev one_unless : Data → ℕ
one_unless null = 1
one_unless (boolean b) = 1
one_unless (number n) = 1
one_unless (string s) = 1
one_unless (array ds) = 0
one_unless (object ms) = 0

-- how many leaves are single values
abbrev singles : List Data → ℕ
singles [] = 0
singles (d ∷ ds) = one_unless d + singles ds

singles_append : (xs ys : List Data) → singles (xs ++ ys) ≡ singles xs + singles ys
singles_append [] ys = omega arith
singles_append (x ∷ xs) ys = omega (arith, singles_append xs ys)

leaf_few : (d : Data) (p : Path) → one_unless d ≤ leaf_count d → singles (leaf d p) ≤ leaf_count d
leaf_few d end few = omega (arith, few)
leaf_few d (text t) few = omega arith

whole_none : (ms : Members) (p : Path) (n : ℕ) → singles (whole_object ms p) ≤ n
whole_none no_members p n = omega arith
whole_none (member k d ms) end n = omega arith
whole_none (member k d ms) (text t) n = omega arith

either_few : (v : Bool) (xs ys : List Data) (n : ℕ) → singles xs ≤ n → singles ys ≤ n → singles (cond v xs ys) ≤ n
either_few true xs ys n a b = a
either_few false xs ys n a b = b

given_few : (f : Path → List Data) (n : ℕ) → ((p : Path) → singles (f p) ≤ n) → (o : Option Path) → singles (given f o) ≤ n
given_few f n few None = omega arith
given_few f n few (Some p) = few p

mutual
  at_few : (stops : List (List ℕ)) (here : Option (List ℕ)) (d : Data) (p : Path) → singles (at stops here d p) ≤ leaf_count d
  at_few stops here null p = omega arith
  at_few stops here (boolean b) p = leaf_few (boolean b) p (omega arith)
  at_few stops here (number n) p = leaf_few (number n) p (omega arith)
  at_few stops here (string s) p = leaf_few (string s) p (omega arith)
  at_few stops here (array ds) p = items_few stops here ds p
  at_few stops here (object ms) p = either_few (is_stop stops here) (whole_object ms p) (at_members stops here ms p) (members_leaves ms) (whole_none ms p (members_leaves ms)) (members_few stops here ms p)

  items_few : (stops : List (List ℕ)) (here : Option (List ℕ)) (ds : Items) (p : Path) → singles (at_items stops here ds p) ≤ items_leaves ds
  items_few stops here no_items p = omega arith
  items_few stops here (item d ds) p = omega (arith, singles_append (at stops here d p) (at_items stops here ds p), at_few stops here d p, items_few stops here ds p)

  members_few : (stops : List (List ℕ)) (here : Option (List ℕ)) (ms : Members) (p : Path) → singles (at_members stops here ms p) ≤ members_leaves ms
  members_few stops here no_members p = omega arith
  members_few stops here (member s d ms) p =
      let first = given_few (λ r. at stops (Some (below here s)) d r) (leaf_count d) (λ r. at_few stops (Some (below here s)) d r) (behind s p) in
      omega (arith, singles_append (given (λ r. at stops (Some (below here s)) d r) (behind s p)) (at_members stops here ms p), first, members_few stops here ms p)

leaves_few : (stops : List (List ℕ)) (d : Data) (p : List ℕ) → singles (leaves_of stops d p) ≤ leaf_count d
unfolding leaves_of
leaves_few stops d p = at_few stops None d (text p)

-- ---- the fields of a document without fault

first_none : (schema : Schema) (strict : Bool) (d : Data) (p : List ℕ) (ps : List (List ℕ)) → first_fault schema strict d ps ≡ None → IsAmong p ps → fault_at schema strict d p ≡ None
first_none schema strict d p [] none is = absurd is
first_none schema strict d p (q ∷ qs) none is = go (fault_at schema strict d q) refl none (first_none schema strict d p qs)
  where
    go : (o : Option DocKind) → fault_at schema strict d q ≡ o → or_next o q (first_fault schema strict d qs) ≡ None → (first_fault schema strict d qs ≡ None → IsAmong p qs → fault_at schema strict d p ≡ None) → fault_at schema strict d p ≡ None
    go None here none rest = elim is [ inl same ↦ subst (λ r. fault_at schema strict d r ≡ None) same here | inr later ↦ rest none later ]
    go (Some kind) here none rest = cc

-- where no path with leaves has a fault, none has
none_faulty : (schema : Schema) (strict : Bool) (d : Data) (p : List ℕ) → first_fault schema strict d (leaf_paths (stops_of schema.fields) d) ≡ None → fault_at schema strict d p ≡ None
none_faulty schema strict d p none = go (fault_at schema strict d p) refl
  where
    go : (o : Option DocKind) → fault_at schema strict d p ≡ o → o ≡ None
    go None is = refl
    go (Some kind) is = sym is ∙ first_none schema strict d p (leaf_paths (stops_of schema.fields) d) none (fault_among schema strict d kind p is)

told_cells : (schema : Schema) (strict : Bool) (d : Data) (cells : List Cell) → document_cells schema strict d ≡ Ok cells → (first_fault schema strict d (leaf_paths (stops_of schema.fields) d) ≡ None) × (cells ≡ cells_of schema d)
unfolding document_cells
told_cells schema strict d cells is = go (first_fault schema strict d (leaf_paths (stops_of schema.fields) d)) refl is
  where
    go : (o : Option (DocKind × List ℕ)) → first_fault schema strict d (leaf_paths (stops_of schema.fields) d) ≡ o → cells_unless o (cells_of schema d) ≡ Ok cells → (o ≡ None) × (cells ≡ cells_of schema d)
    go None found is = let same : cells_of schema d ≡ cells = cc in (refl, sym same)
    go (Some fault) found is = cc

-- ---- one cell

-- each leaf of a field without fault has a reading
all_sound : (kind : FieldType) (role : Role) (leaves : List Data) → mapped_fault kind role leaves ≡ None → any_unread kind leaves ≡ false
all_sound kind role leaves none = go (any_unread kind leaves) refl none
  where
    go : (v : Bool) → any_unread kind leaves ≡ v → cond v (Some (wrong_kind kind)) (cond (takes_one role && nat_lt 1 (length leaves)) (Some ManyValues) None) ≡ None → v ≡ false
    go true is none = cc
    go false is none = refl

parts_single : (kind : FieldType) (o : Option Parts) (leaf : Data) → is_aggregate kind ≡ true → aggregate_of leaf ≡ o → is_some o ≡ true → FitsOne kind (parts_cell o)
parts_single kind None leaf aggregate is some = cc
parts_single kind (Some p) leaf aggregate is some = (aggregate, parts_fit leaf p is)

one_single : (kind : FieldType) (o : Option Scalar) (leaf : Data) → is_aggregate kind ≡ false → reading_of kind leaf ≡ o → is_some o ≡ true → FitsOne kind (one_cell o)
one_single kind None leaf plain is some = cc
one_single kind (Some v) leaf plain is some = (plain, reading_fits kind leaf v is)

single_fits : (kind : FieldType) (leaf : Data) (leaves : List Data) → is_read kind leaf ≡ true → FitsOne kind (single_cell kind (leaf ∷ leaves))
single_fits kind leaf leaves read = go (is_aggregate kind) refl read
  where
    go : (v : Bool) → is_aggregate kind ≡ v → cond v (is_some (aggregate_of leaf)) (is_some (reading_of kind leaf)) ≡ true → FitsOne kind (cond v (parts_cell (aggregate_of leaf)) (one_cell (reading_of kind leaf)))
    go true aggregate read = parts_single kind (aggregate_of leaf) leaf aggregate refl read
    go false plain read = one_single kind (reading_of kind leaf) leaf plain refl read

first_read : (kind : FieldType) (leaf : Data) (leaves : List Data) → any_unread kind (leaf ∷ leaves) ≡ false → (is_read kind leaf ≡ true) × (any_unread kind leaves ≡ false)
first_read kind leaf leaves none = go (is_read kind leaf) refl none
  where
    go : (v : Bool) → is_read kind leaf ≡ v → (not v || any_unread kind leaves) ≡ false → (v ≡ true) × (any_unread kind leaves ≡ false)
    go true is none = (refl, none)
    go false is none = cc

-- a leaf of a label with its reading
abbrev FitsIf : FieldType → Option Scalar → Type 0
FitsIf kind None = ⊥
FitsIf kind (Some v) = IsValueOf kind v

reading_some : (kind : FieldType) (leaf : Data) → is_aggregate kind ≡ false → is_read kind leaf ≡ true → FitsIf kind (reading_of kind leaf)
reading_some kind leaf plain read = go (reading_of kind leaf) refl (ap (λ v. cond v (is_some (aggregate_of leaf)) (is_some (reading_of kind leaf))) (sym plain) ∙ read)
  where
    go : (o : Option Scalar) → reading_of kind leaf ≡ o → is_some o ≡ true → FitsIf kind o
    go None is some = cc
    go (Some v) is some = reading_fits kind leaf v is

with_value_of : (kind : FieldType) (o : Option Scalar) (vs : List Scalar) → FitsIf kind o → AllValues kind vs → AllValues kind (with_reading o vs)
with_value_of kind None vs is all = absurd is
with_value_of kind (Some v) vs is all = (is, all)

all_read : (kind : FieldType) (leaves : List Data) → is_aggregate kind ≡ false → any_unread kind leaves ≡ false → AllValues kind (readings_of kind leaves)
all_read kind [] plain none = tt
all_read kind (leaf ∷ leaves) plain none =
    let read = first_read kind leaf leaves none in
    with_value_of kind (reading_of kind leaf) (readings_of kind leaves) (reading_some kind leaf plain read.0) (all_read kind leaves plain read.1)

label_plain : (kind : FieldType) → may_have kind Label ≡ true → is_aggregate kind ≡ false
label_plain kind may = go (is_aggregate kind) may
  where
    go : (v : Bool) → not v ≡ true → v ≡ false
    go true may = cc
    go false may = refl

ordered_some : (kind : FieldType) (o : Option Scalar) (vs : List Scalar) → FitsIf kind o → AllValues kind (with_reading o vs) → AreValues kind (ordered (with_reading o vs))
ordered_some kind None vs is all = absurd is
ordered_some kind (Some v) vs is all = ordered_fits kind v vs all

label_fits : (kind : FieldType) (leaves : List Data) → may_have kind Label ≡ true → any_unread kind leaves ≡ false → CellFits false true kind Label 1 (list_cell kind leaves)
label_fits kind [] may none = tt
label_fits kind (leaf ∷ leaves) may none =
    let plain = label_plain kind may in
    let read = first_read kind leaf leaves none in
    ordered_some kind (reading_of kind leaf) (readings_of kind leaves) (reading_some kind leaf plain read.0) (all_read kind (leaf ∷ leaves) plain none)

absent_fits : (kind : FieldType) (role : Role) → CellFits false true kind role 1 Absent
absent_fits kind Time = tt
absent_fits kind Dimension = tt
absent_fits kind GaugeRole = tt
absent_fits kind Counter = tt
absent_fits kind Label = tt

taken_fits : (kind : FieldType) (role : Role) (leaves : List Data) → takes_one role ≡ true → may_have kind role ≡ true → any_unread kind leaves ≡ false → CellFits false true kind role 1 (single_cell kind leaves)
taken_fits kind role [] taken may none = absent_fits kind role
taken_fits kind role (leaf ∷ leaves) taken may none = one_fits kind role (single_cell kind (leaf ∷ leaves)) taken may (single_fits kind leaf leaves (first_read kind leaf leaves none).0)

cell_fits : (kind : FieldType) (role : Role) (leaves : List Data) → may_have kind role ≡ true → any_unread kind leaves ≡ false → CellFits false true kind role 1 (cell_of kind role leaves)
cell_fits kind Time leaves may none = tt
cell_fits kind Dimension leaves may none = taken_fits kind Dimension leaves refl may none
cell_fits kind GaugeRole leaves may none = taken_fits kind GaugeRole leaves refl may none
cell_fits kind Counter leaves may none = taken_fits kind Counter leaves refl may none
cell_fits kind Label leaves may none = label_fits kind leaves may none

-- ---- labels are short

put_longer : (v : Scalar) (vs : List Scalar) → length (with_value v vs) ≤ suc (length vs)
put_longer v [] = omega arith
put_longer v (w ∷ ws) = go (scalar_cmp v w) (put_longer v ws)
  where
    again_longer : (v : Scalar) → length (again v (w ∷ ws)) ≤ suc (suc (length ws))
    again_longer (Whole a) = omega arith
    again_longer (Flag a) = omega arith
    again_longer (Word a) = omega arith

    go : (o : Ordering) → length (with_value v ws) ≤ suc (length ws) → length (match_ordering o (v ∷ w ∷ ws) (again v (w ∷ ws)) (w ∷ with_value v ws)) ≤ suc (suc (length ws))
    go Less later = omega arith
    go Equal later = again_longer v
    go Greater later = omega (arith, later)

ordered_longer : (vs ws : List Scalar) → length (ordered_after vs ws) ≤ length vs + length ws
ordered_longer vs [] = omega arith
ordered_longer vs (w ∷ ws) = omega (arith, ordered_longer (with_value w vs) ws, put_longer w vs)

reading_longer : (o : Option Scalar) (vs : List Scalar) → length (with_reading o vs) ≤ suc (length vs)
reading_longer None vs = omega arith
reading_longer (Some v) vs = omega arith

-- a leaf that a label reads is a single value
read_single : (kind : FieldType) (leaf : Data) → is_aggregate kind ≡ false → is_read kind leaf ≡ true → one_unless leaf ≡ 1
read_single kind leaf plain read = go leaf (ap (λ v. cond v (is_some (aggregate_of leaf)) (is_some (reading_of kind leaf))) (sym plain) ∙ read)
  where
    go : (leaf : Data) → is_some (reading_of kind leaf) ≡ true → one_unless leaf ≡ 1
    go null some = refl
    go (boolean b) some = refl
    go (number n) some = refl
    go (string s) some = refl
    go (array ds) some = absurd (by kind some)
      where
        by : (kind : FieldType) → is_some (reading_of kind (array ds)) ≡ true → ⊥
        by Date some = cc
        by Keyword some = cc
        by Long some = cc
        by Integer some = cc
        by Short some = cc
        by Byte some = cc
        by Boolean some = cc
        by Aggregate some = cc
    go (object ms) some = absurd (by kind some)
      where
        by : (kind : FieldType) → is_some (reading_of kind (object ms)) ≡ true → ⊥
        by Date some = cc
        by Keyword some = cc
        by Long some = cc
        by Integer some = cc
        by Short some = cc
        by Byte some = cc
        by Boolean some = cc
        by Aggregate some = cc

readings_few : (kind : FieldType) (leaves : List Data) → is_aggregate kind ≡ false → any_unread kind leaves ≡ false → length (readings_of kind leaves) ≤ singles leaves
readings_few kind [] plain none = omega arith
readings_few kind (leaf ∷ leaves) plain none =
    let read = first_read kind leaf leaves none in
    omega (arith, reading_longer (reading_of kind leaf) (readings_of kind leaves), read_single kind leaf plain read.0, readings_few kind leaves plain read.1)

single_short : (kind : FieldType) (leaves : List Data) → IsShortList (single_cell kind leaves)
single_short kind [] = tt
single_short kind (leaf ∷ leaves) = go (is_aggregate kind)
  where
    parts : (o : Option Parts) → IsShortList (parts_cell o)
    parts None = tt
    parts (Some p) = tt

    one : (o : Option Scalar) → IsShortList (one_cell o)
    one None = tt
    one (Some v) = tt

    go : (v : Bool) → IsShortList (cond v (parts_cell (aggregate_of leaf)) (one_cell (reading_of kind leaf)))
    go true = parts (aggregate_of leaf)
    go false = one (reading_of kind leaf)

cell_short : (kind : FieldType) (role : Role) (leaves : List Data) → may_have kind role ≡ true → any_unread kind leaves ≡ false → singles leaves ≤ longest_list → IsShortList (cell_of kind role leaves)
cell_short kind Time leaves may none few = tt
cell_short kind Dimension leaves may none few = single_short kind leaves
cell_short kind GaugeRole leaves may none few = single_short kind leaves
cell_short kind Counter leaves may none few = single_short kind leaves
cell_short kind Label [] may none few = tt
cell_short kind Label (leaf ∷ leaves) may none few =
    omega (arith, ordered_longer [] (readings_of kind (leaf ∷ leaves)), readings_few kind (leaf ∷ leaves) (label_plain kind may) none, few)

-- ---- all cells

after_all : (p q : List ℕ) (ps : List (List ℕ)) → IsBefore p q → RiseAfter q ps → RiseAfter p ps
after_all p q [] before rise = tt
after_all p q (r ∷ rs) before rise = (before_chain p q r before rise.0, rise.1)

later_there : (f : Field) (all gs : List Field) → RiseAfter f.path (paths_of gs) → Each (λ (g : Field). field_at g.path all ≡ Some g) gs → Each (λ (g : Field). field_at g.path (f ∷ all) ≡ Some g) gs
later_there f all [] rise each = tt
later_there f all (g ∷ gs) rise each = (
  ap (λ b. cond b (Some f) (field_at g.path all)) (other_bytes g.path f.path (λ same. apart f.path g.path rise.0 (sym same))) ∙ each.0,
  later_there f all gs (after_all f.path g.path (paths_of gs) rise.0 rise.1) each.1,
)

-- each field is the one at its path
each_there : (fs : List Field) → Rise (paths_of fs) → Each (λ (f : Field). field_at f.path fs ≡ Some f) fs
each_there [] rise = tt
each_there (f ∷ fs) rise = (ap (λ b. cond b (Some f) (field_at f.path fs)) (same_bytes f.path f.path refl), later_there f fs fs rise (each_there fs (tail_rise f.path fs rise)))

field_sound : (schema : Schema) (strict : Bool) (d : Data) (f : Field) → field_at f.path schema.fields ≡ Some f → fault_at schema strict d f.path ≡ None → any_unread f.kind (leaves_in schema d f.path) ≡ false
unfolding fault_at
field_sound schema strict d f there none = go (leaves_in schema d f.path) none
  where
    go : (leaves : List Data) → fault_of strict schema.fields f.path leaves ≡ None → any_unread f.kind leaves ≡ false
    go [] none = refl
    go (leaf ∷ leaves) none = all_sound f.kind f.role (leaf ∷ leaves) (sym (ap (fault_by strict schema.fields f.path (leaf ∷ leaves)) there) ∙ none)

abbrev IsReadAt : Schema → Data → Field → Type 0
IsReadAt schema d f = any_unread f.kind (leaves_in schema d f.path) ≡ false

all_read_at : (schema : Schema) (strict : Bool) (d : Data) (fs : List Field) → ((p : List ℕ) → fault_at schema strict d p ≡ None) → Each (λ (f : Field). field_at f.path schema.fields ≡ Some f) fs → Each (IsReadAt schema d) fs
all_read_at schema strict d [] none there = tt
all_read_at schema strict d (f ∷ fs) none there = (field_sound schema strict d f there.0 (none f.path), all_read_at schema strict d fs none there.1)

all_fit : (schema : Schema) (d : Data) (fs : List Field) → AreTemplateFields fs → Each (IsReadAt schema d) fs → CellsFit false schema.rises 1 fs (map (λ (f : Field). cell_of f.kind f.role (leaves_in schema d f.path)) fs)
all_fit schema d [] are read = tt
all_fit schema d (f ∷ fs) are read = (
  fits_rising schema.rises f.kind f.role (cell_of f.kind f.role (leaves_in schema d f.path)) (cell_fits f.kind f.role (leaves_in schema d f.path) are.0.role read.0),
  all_fit schema d fs are.1 read.1,
)

all_short : (schema : Schema) (d : Data) (fs : List Field) → AreTemplateFields fs → leaf_count d ≤ longest_list → Each (IsReadAt schema d) fs → Each IsShortList (map (λ (f : Field). cell_of f.kind f.role (leaves_in schema d f.path)) fs)
all_short schema d [] are few read = tt
all_short schema d (f ∷ fs) are few read =
    (cell_short f.kind f.role (leaves_in schema d f.path) are.0.role read.0 (omega (arith, leaves_few (stops_of schema.fields) d f.path, few)), all_short schema d fs are.1 few read.1)

pub cells_of_documents_fit : CellsOfDocumentsFit
cells_of_documents_fit schema strict d cells template few is =
    let told = told_cells schema strict d cells is in
    let rise = fields_rise schema.fields template.mapped.ascending in
    let read = all_read_at schema strict d schema.fields (λ p. none_faulty schema strict d p told.0) (each_there schema.fields rise) in
    subst (λ cs. CellsFit false schema.rises 1 schema.fields cs × Each IsShortList cs) (sym told.1)
    (all_fit schema d schema.fields template.fields read, all_short schema d schema.fields template.fields few read)
