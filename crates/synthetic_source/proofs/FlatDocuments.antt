-- What a flat document's members are: the leaves of its fields, and nothing else.
use Rattle.std.proofs.Common.{◌≡◌, ◌⊎◌, inl, inr, ℕ, ℤ, List, [], ◌∷◌, ◌++◌, map, filter, Bool, true, false, true≢false, cond, bytes_eq, Option, Some, None, refl, sym, ap, ap₂, ◌∙◌, subst}
use Rattle.std.specs.Prelude.{IfSome}
use Rattle.std.specs.Option.{is_some}
use Rattle.std.proofs.lemmas.Slice.Eq.{bytes_eq-Decides}
use Rattle.row_cells.specs.Dimensions.{IsBefore}
use Rattle.row_cells.specs.JoinLaws.{before_chain}
use Rattle.row_cells.specs.Fitting.{IsValueOf}
use Rattle.row_cells.specs.WidenLaws.{apart, other_bytes, same_bytes}
use Rattle.row_cells.specs.declared.scalars.Scalar.{Scalar}
use Rattle.row_cells.specs.declared.scalars.Scalar.TheVariants.{Whole, Flag, Word}
use Rattle.row_cells.specs.declared.schemas.FieldType.{FieldType}
use Rattle.row_cells.specs.declared.schemas.FieldType.TheVariants.{Date, Keyword, Long, Integer, Short, Byte, Boolean, Aggregate}
use Rattle.row_cells.specs.declared.schemas.Role.{Role}
use Rattle.row_cells.specs.declared.schemas.Role.TheVariants.{Time, Dimension, Gauge as GaugeRole, Counter, Label}
use Rattle.row_cells.specs.declared.schemas.Field.{Field}
use Rattle.row_cells.specs.declared.schemas.Schema.{Schema}
use Rattle.row_cells.specs.declared.rows.Cell.{Cell}
use Rattle.row_cells.specs.declared.rows.Cell.TheVariants.{Absent, One, Many}
use Rattle.serde_json.specs.Data.{Data, null, boolean, number, string, array, object, Members, no_members, member}
use Rattle.json_walk.specs.Leaves.{placed_at}
use Rattle.json_walk.specs.Listed.{listed, listed_members}
use Rattle.json_walk.specs.WalkLaws.{listed_are_leaves}
use Rattle.time_text.specs.Instant.{IsInstant}
use Rattle.ts_mapping.specs.Paths.{timestamp}
use Rattle.ts_mapping.specs.Readings.{aggregate_of, reading_of}
use Rattle.ts_mapping.specs.RoleLaws.{date_is}
use Rattle.ts_mapping.specs.Roles.{is_aggregate, may_have}
use Rattle.ts_mapping.specs.Schemas.{AreTemplateFields, IsTemplateSchema, time_field}
use Rattle.synthetic_source.specs.Faults.{field_at, is_read, number_read, stops_of, takes_one, time_in, time_of}
use Rattle.synthetic_source.specs.Flat.{AreFlat, IsSoundRow, time_after, value_cell}
use Rattle.synthetic_source.specs.Gathered.{AllSound, AreRead, IsAmong, IsReadAs, by_field, paths_of, place_of, strays_of, with_stray}
use Rattle.synthetic_source.specs.Outcomes.{IsOutcome}
use Rattle.synthetic_source.specs.Places.{Rise, RiseAfter}
use Rattle.synthetic_source.specs.Rows.{one_cell, parts_cell, with_reading}
use Rattle.synthetic_source.specs.Values.{ordered}
use Rattle.synthetic_source.specs.declared.flat.Flat.{Flat}
use Rattle.synthetic_source.specs.declared.reading.Cells.TheVariants.{All}
use Rattle.synthetic_source.specs.declared.reading.Read.TheVariants.{Good}
use Rattle.synthetic_source.specs.declared.typing.Outcome.TheVariants.{Row}
use Rattle.synthetic_source.specs.declared.typing.Typed.{Typed}
use Rattle.synthetic_source.proofs.Cells.{one_as, read_alone}
use Rattle.synthetic_source.proofs.Documents.{no_field, outcome_from, tail_rise}
use Rattle.synthetic_source.proofs.Search.{fields_rise}
use Rattle.synthetic_source.proofs.Timed.{listed_time}

-- ---- single leaves

-- what has a reading is a leaf wherever it stands
single_leaf : (stops : List (List ℕ)) (q : List ℕ) (kind : FieldType) (d : Data) (v : Scalar) → reading_of kind d ≡ Some v → listed stops (Some q) d ≡ (q, d) ∷ []
single_leaf stops q kind (boolean b) v some = refl
single_leaf stops q kind (number n) v some = refl
single_leaf stops q kind (string s) v some = refl
single_leaf stops q Date null v some = cc
single_leaf stops q Keyword null v some = cc
single_leaf stops q Long null v some = cc
single_leaf stops q Integer null v some = cc
single_leaf stops q Short null v some = cc
single_leaf stops q Byte null v some = cc
single_leaf stops q Boolean null v some = cc
single_leaf stops q Aggregate null v some = cc
single_leaf stops q Date (array ds) v some = cc
single_leaf stops q Keyword (array ds) v some = cc
single_leaf stops q Long (array ds) v some = cc
single_leaf stops q Integer (array ds) v some = cc
single_leaf stops q Short (array ds) v some = cc
single_leaf stops q Byte (array ds) v some = cc
single_leaf stops q Boolean (array ds) v some = cc
single_leaf stops q Aggregate (array ds) v some = cc
single_leaf stops q Date (object ms) v some = cc
single_leaf stops q Keyword (object ms) v some = cc
single_leaf stops q Long (object ms) v some = cc
single_leaf stops q Integer (object ms) v some = cc
single_leaf stops q Short (object ms) v some = cc
single_leaf stops q Byte (object ms) v some = cc
single_leaf stops q Boolean (object ms) v some = cc
single_leaf stops q Aggregate (object ms) v some = cc

-- a value is none of an aggregate
plain_kind : (kind : FieldType) (v : Scalar) → IsValueOf kind v → is_aggregate kind ≡ false
plain_kind Date v is = refl
plain_kind Keyword v is = refl
plain_kind Long v is = refl
plain_kind Integer v is = refl
plain_kind Short v is = refl
plain_kind Byte v is = refl
plain_kind Boolean v is = refl
plain_kind Aggregate v is = absurd is

-- the reading of a leaf, by its cell
module _ (kind : FieldType) (d : Data) (v : Scalar) (some : reading_of kind d ≡ Some v) (is : IsValueOf kind v) where
  plain : is_aggregate kind ≡ false
  plain = plain_kind kind v is

  has_reading : is_read kind d ≡ true
  has_reading = ap (λ b. cond b (is_some (aggregate_of d)) (is_some (reading_of kind d))) plain ∙ ap is_some some

  one_value : (role : Role) → takes_one role ≡ true → may_have kind role ≡ true → IsReadAs kind role (d ∷ []) (Good (One v))
  one_value role taken may = one_as kind role d (Good (One v)) taken may (has_reading, sym (ap (λ b. cond b (parts_cell (aggregate_of d)) (one_cell (reading_of kind d))) plain ∙ ap one_cell some), (plain, is))

  value_read : (role : Role) → may_have kind role ≡ true → IsReadAs kind role (d ∷ []) (Good (value_cell role v))
  value_read Time may = (read_alone kind Time d has_reading, refl, tt)
  value_read Dimension may = one_value Dimension refl may
  value_read GaugeRole may = one_value GaugeRole refl may
  value_read Counter may = one_value Counter refl may
  value_read Label may = (read_alone kind Label d has_reading, ap (λ o. Many (ordered (with_reading o []))) (sym some), (is, tt))

none_read : (kind : FieldType) (role : Role) → IsReadAs kind role [] (Good Absent)
none_read kind Time = (refl, refl, tt)
none_read kind Dimension = (refl, refl, tt)
none_read kind GaugeRole = (refl, refl, tt)
none_read kind Counter = (refl, refl, tt)
none_read kind Label = (refl, refl, tt)

-- ---- leaves that stand at fields alone

abbrev AllAmong : List (List ℕ) → List (List ℕ × Data) → Type 0
AllAmong ps [] = Unit {0}
AllAmong ps (e ∷ es) = IsAmong e.0 ps × AllAmong ps es

among_more : (q : List ℕ) (ps : List (List ℕ)) (es : List (List ℕ × Data)) → AllAmong ps es → AllAmong (q ∷ ps) es
among_more q ps [] all = tt
among_more q ps (e ∷ es) all = (inr all.0, among_more q ps es all.1)

later_among : (q p : List ℕ) (ps : List (List ℕ)) → RiseAfter q ps → IsAmong p ps → IsBefore q p
later_among q p [] rise is = absurd is
later_among q p (r ∷ rs) rise is = elim is [ inl here ↦ subst (IsBefore q) here rise.0 | inr there ↦ before_chain q r p rise.0 (later_among r p rs rise.1 there) ]

-- a path before all of them has none of these leaves
none_placed : (q : List ℕ) (ps : List (List ℕ)) (es : List (List ℕ × Data)) → RiseAfter q ps → AllAmong ps es → placed_at q es ≡ []
none_placed q ps [] rise all = refl
none_placed q ps (e ∷ es) rise all =
    ap (λ b. map (λ (x : List ℕ × Data). x.1) (cond b (e ∷ filter (λ x. bytes_eq x.0 q) es) (filter (λ x. bytes_eq x.0 q) es))) (other_bytes e.0 q (λ same. apart q e.0 (later_among q e.0 ps rise all.0) (sym same)))
    ∙ none_placed q ps es rise all.1

placed_first : (q : List ℕ) (d : Data) (es : List (List ℕ × Data)) → placed_at q ((q, d) ∷ es) ≡ d ∷ placed_at q es
placed_first q d es = ap (λ b. map (λ (x : List ℕ × Data). x.1) (cond b ((q, d) ∷ filter (λ x. bytes_eq x.0 q) es) (filter (λ x. bytes_eq x.0 q) es))) (same_bytes q q refl)

placed_other : (p q : List ℕ) (d : Data) (es : List (List ℕ × Data)) → (q ≡ p → ⊥) → placed_at p ((q, d) ∷ es) ≡ placed_at p es
placed_other p q d es other = ap (λ b. map (λ (x : List ℕ × Data). x.1) (cond b ((q, d) ∷ filter (λ x. bytes_eq x.0 p) es) (filter (λ x. bytes_eq x.0 p) es))) (other_bytes q p other)

-- a leaf before all fields is none of theirs
fields_later : (q : List ℕ) (d : Data) (es : List (List ℕ × Data)) (fs : List Field) → RiseAfter q (paths_of fs) → by_field fs ((q, d) ∷ es) ≡ by_field fs es
fields_later q d es [] rise = refl
fields_later q d es (f ∷ fs) rise = ap₂ (λ ls lss. ls ∷ lss) (placed_other f.path q d es (apart q f.path rise.0)) (fields_later q d es fs (lower fs rise.0 rise.1))
  where
    lower : (gs : List Field) → IsBefore q f.path → RiseAfter f.path (paths_of gs) → RiseAfter q (paths_of gs)
    lower [] before rise = tt
    lower (g ∷ gs) before rise = (before_chain q f.path g.path before rise.0, rise.1)

-- none of them is where no field is
has_field : (p : List ℕ) (fs : List Field) → IsAmong p (paths_of fs) → field_at p fs ≡ None → ⊥
has_field p [] is none = is
has_field p (f ∷ fs) is none = go (bytes_eq p f.path) refl none (has_field p fs)
  where
    go : (b : Bool) → bytes_eq p f.path ≡ b → cond b (Some f) (field_at p fs) ≡ None → (IsAmong p (paths_of fs) → field_at p fs ≡ None → ⊥) → ⊥
    go true same none later = cc
    go false differ none later = elim is [ inl here ↦ true≢false (sym (same_bytes p f.path (sym here)) ∙ differ) | inr there ↦ later there none ]

no_strays : (strict : Bool) (fs : List Field) (es : List (List ℕ × Data)) → Rise (paths_of fs) → AllAmong (paths_of fs) es → AllSound strict fs (strays_of fs es)
no_strays strict fs [] rise all = tt
no_strays strict fs (e ∷ es) rise all = go (place_of e.0 fs) refl (no_strays strict fs es rise all.1)
  where
    go : (o : Option ℕ) → place_of e.0 fs ≡ o → AllSound strict fs (strays_of fs es) → AllSound strict fs (with_stray o e.0 (strays_of fs es))
    go None none rest = absurd (has_field e.0 fs all.0 (no_field e.0 fs rise none))
    go (Some at) some rest = rest

-- ---- the time

abbrev IsTimeIn : List (List ℕ × Data) → ℤ → Type 0
IsTimeIn es t = (time_in (placed_at timestamp es) ≡ Some t) × IsInstant t

abbrev IsTimeBy : Option ℤ → List (List ℕ × Data) → Option ℤ → Type 0
IsTimeBy before es after = (t : ℤ) → after ≡ Some t → (before ≡ Some t) ⊎ IsTimeIn es t

-- ---- all members

pub record AreHeld (fs : List Field) (es : List (List ℕ × Data)) (before after : Option ℤ) (cs : List Cell) : Type 0 where
  pub read : AreRead fs (by_field fs es) cs
  pub among : AllAmong (paths_of fs) es
  pub time : IsTimeBy before es after

module _ (stops : List (List ℕ)) where
  -- a field without leaf
  passed : (f : Field) (fs : List Field) (es : List (List ℕ × Data)) (before after : Option ℤ) (c : Cell) (cs : List Cell) → RiseAfter f.path (paths_of fs) → c ≡ Absent → AreHeld fs es before after cs
      → AreHeld (f ∷ fs) es before after (c ∷ cs)
  passed f fs es before after c cs rise absent held = record {
    read = (subst (λ x. IsReadAs f.kind f.role (placed_at f.path es) (Good x)) (sym absent) (subst (λ ls. IsReadAs f.kind f.role ls (Good Absent)) (sym (none_placed f.path (paths_of fs) es rise held.among)) (none_read f.kind f.role)), held.read);
    among = among_more f.path (paths_of fs) es held.among;
    time = held.time;
  }

  -- a field with one leaf, and leaves of later fields
  taken : (f : Field) (fs : List Field) (es : List (List ℕ × Data)) (d : Data) (v : Scalar) (before after : Option ℤ) (c : Cell) (cs : List Cell) → RiseAfter f.path (paths_of fs) → AreTemplateFields (f ∷ fs)
      → reading_of f.kind d ≡ Some v → IsValueOf f.kind v → c ≡ value_cell f.role v → AreHeld fs es (time_after f.role v before) after cs → AreHeld (f ∷ fs) ((f.path, d) ∷ es) before after (c ∷ cs)
  taken f fs es d v before after c cs rise are some is same held =
      let alone : placed_at f.path ((f.path, d) ∷ es) ≡ d ∷ [] = placed_first f.path d es ∙ ap (λ ls. d ∷ ls) (none_placed f.path (paths_of fs) es rise held.among) in
      record {
        read = (
          subst (λ x. IsReadAs f.kind f.role (placed_at f.path ((f.path, d) ∷ es)) (Good x)) (sym same) (subst (λ ls. IsReadAs f.kind f.role ls (Good (value_cell f.role v))) (sym alone) (value_read f.kind d v some is f.role are.0.role)),
          subst (λ lss. AreRead fs lss cs) (sym (fields_later f.path d es fs rise)) held.read,
        );
        among = (inl refl, among_more f.path (paths_of fs) es held.among);
        time = λ t known. elim (held.time t known) [ inl told ↦ by f.role v refl refl t told | inr later ↦ inr (still t later) ];
      }
    where
      still : (t : ℤ) → IsTimeIn es t → IsTimeIn ((f.path, d) ∷ es) t
      still t later = go (bytes_eq f.path timestamp) refl
        where
          go : (b : Bool) → bytes_eq f.path timestamp ≡ b → IsTimeIn ((f.path, d) ∷ es) t
          go true here =
              let none : placed_at timestamp es ≡ [] = subst (λ q. placed_at q es ≡ []) ((bytes_eq-Decides f.path timestamp).0 here) (none_placed f.path (paths_of fs) es rise held.among) in
              let bad : None ≡ Some t = sym (ap time_in none) ∙ later.0 in
              cc
          go false other = (ap time_in (ap (λ b. map (λ (x : List ℕ × Data). x.1) (cond b ((f.path, d) ∷ filter (λ x. bytes_eq x.0 timestamp) es) (filter (λ x. bytes_eq x.0 timestamp) es))) other) ∙ later.0, later.1)

      here_time : (w t : ℤ) → f.role ≡ Time → v ≡ Whole w → w ≡ t → IsTimeIn ((f.path, d) ∷ es) t
      here_time w t role whole told =
          let kind : f.kind ≡ Date = date_is f.kind (subst (λ r. may_have f.kind r ≡ true) role are.0.role) in
          let path : f.path ≡ timestamp = are.0.time.0 role in
          let reading : reading_of Date d ≡ Some (Whole t) = subst (λ k. reading_of k d ≡ Some (Whole t)) kind (some ∙ ap (λ x. Some x) (whole ∙ ap Whole told)) in
          let alone : placed_at timestamp ((f.path, d) ∷ es) ≡ d ∷ [] =
          subst (λ q. placed_at q ((f.path, d) ∷ es) ≡ d ∷ []) path (placed_first f.path d es ∙ ap (λ ls. d ∷ ls) (none_placed f.path (paths_of fs) es rise held.among)) in
          (ap time_in alone ∙ ap number_read reading, subst (λ k. IsValueOf k (Whole t)) kind (subst (IsValueOf f.kind) (whole ∙ ap Whole told) is))

      by : (role : Role) (x : Scalar) → f.role ≡ role → v ≡ x → (t : ℤ) → time_after role x before ≡ Some t → (before ≡ Some t) ⊎ IsTimeIn ((f.path, d) ∷ es) t
      by Time (Whole w) role whole t told = let same : w ≡ t = cc in inr (here_time w t role whole same)
      by Time (Flag b) role whole t told = inl told
      by Time (Word s) role whole t told = inl told
      by Dimension x role whole t told = inl told
      by GaugeRole x role whole t told = inl told
      by Counter x role whole t told = inl told
      by Label x role whole t told = inl told

  pub held_by_fields : (fs : List Field) (ms : Members) (before after : Option ℤ) (cs : List Cell) → Rise (paths_of fs) → AreTemplateFields fs → AreFlat fs ms before after cs → AreHeld fs (listed_members stops None ms) before after cs
  held_by_fields [] no_members before after [] rise are flat = record { read = tt; among = tt; time = λ t known. inl (sym flat ∙ known) }
  held_by_fields [] no_members before after (c ∷ cs) rise are flat = absurd flat
  held_by_fields [] (member k d ms) before after cs rise are flat = absurd flat
  held_by_fields (f ∷ fs) ms before after [] rise are flat = absurd flat
  held_by_fields (f ∷ fs) no_members before after (c ∷ cs) rise are flat = passed f fs [] before after c cs rise flat.0 (held_by_fields fs no_members before after cs (tail_rise f.path fs rise) are.1 flat.1)
  held_by_fields (f ∷ fs) (member k d ms) before after (c ∷ cs) rise are flat =
      elim flat [
        | inl pass ↦ passed f fs (listed_members stops None (member k d ms)) before after c cs rise pass.0 (held_by_fields fs (member k d ms) before after cs (tail_rise f.path fs rise) are.1 pass.1)
        | inr take ↦
            let es = listed_members stops None ms in
            let opens : listed_members stops None (member k d ms) ≡ (f.path, d) ∷ es = ap (λ xs. xs ++ es) (single_leaf stops k f.kind d take.0 take.2) ∙ ap (λ q. (q, d) ∷ es) take.1 in
            subst (λ xs. AreHeld (f ∷ fs) xs before after (c ∷ cs)) (sym opens)
            (taken f fs es d take.0 before after c cs rise are take.2 take.3 take.4 (held_by_fields fs ms (time_after f.role take.0 before) after cs (tail_rise f.path fs rise) are.1 take.5))
      ]

-- the row of a flat document
flat_row : (schema : Schema) (strict : Bool) (fields : List Field) (ms : Members) (t : ℤ) (typed : Typed) → IsTemplateSchema schema → fields ≡ schema.fields → typed.time ≡ t → AreFlat fields ms None (Some t) typed.cells
    → IsSoundRow schema strict (object ms) typed
unfolding time_of
flat_row schema strict fields ms t typed is same is_time flat =
    let rise = fields_rise schema.fields is.mapped.ascending in
    let flat_here : AreFlat schema.fields ms None (Some t) typed.cells = subst (λ fs. AreFlat fs ms None (Some t) typed.cells) same flat in
    let stops = stops_of schema.fields in
    let held = held_by_fields stops schema.fields ms None (Some t) typed.cells rise is.fields flat_here in
    let es = listed_members stops None ms in
    let outcome : IsOutcome schema strict (object ms) (Row typed.cells) =
    outcome_from schema strict (object ms) schema.fields stops es (by_field schema.fields es) (strays_of schema.fields es) None (All typed.cells) (Row typed.cells) time_field is.mapped.ascending refl refl (listed_are_leaves stops (object ms)) refl refl (no_strays strict schema.fields es rise held.among) held.read refl in
    let timed : IsTimeIn es t = elim (held.time t refl) [ inl none ↦ absurd (none_some none) | inr some ↦ some ] in
    let time : time_of (object ms) ≡ Some t = ap time_in (sym (listed_time schema.fields (object ms) is.fields)) ∙ timed.0 in (
      record { sound = outcome.0; time = time ∙ ap (λ x. Some x) (sym is_time); cells = outcome.1 },
      subst IsInstant (sym is_time) timed.1,
      outcome.2,
    )
  where
    none_some : {v : ℤ} → None ≡ Some v → ⊥
    none_some bad = cc

-- it has one where it has a time
pub timed_row : (schema : Schema) (strict : Bool) (fields : List Field) (ms : Members) (flat : Flat) (row : Option Typed) → IsTemplateSchema schema → fields ≡ schema.fields → AreFlat fields ms None flat.time flat.cells
    → IfSome row (λ typed. (flat.time ≡ Some typed.time) × (flat.cells ≡ typed.cells)) → IfSome row (IsSoundRow schema strict (object ms))
timed_row schema strict fields ms flat None is same flats row = tt
timed_row schema strict fields ms flat (Some typed) is same flats row =
    flat_row schema strict fields ms typed.time typed is same refl (subst (AreFlat fields ms None (Some typed.time)) row.1 (subst (λ o. AreFlat fields ms None o flat.cells) row.0 flats))
