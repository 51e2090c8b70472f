-- The first fault of a document, and the cells of one without fault.
use Rattle.std.proofs.Common.{◌≡◌, ℤ, ℕ, zero, suc, ◌<◌, List, [], ◌∷◌, map, filter, length, get_or, Bool, true, false, cond, bytes_eq, Option, Some, None, refl, sym, ap, ap₂, ◌∙◌, subst, inl, inr, arith}
use Rattle.std.specs.Cmp.Lexicographic.{slice_cmp}
use Rattle.std.specs.Ordering.{nat_cmp, match_ordering, is_lt}
use Rattle.std.specs.declared.cmp.Ordering.{Ordering}
use Rattle.std.specs.declared.cmp.Ordering.TheVariants.{Less, Equal, Greater}
use Rattle.std.proofs.lemmas.Map.Lookups.{exact_bytes}
use Rattle.std.proofs.lemmas.Slice.Eq.{bytes_eq-Decides}
use Rattle.row_cells.specs.Dimensions.{IsBefore}
use Rattle.row_cells.specs.JoinLaws.{before_chain, before_of_after}
use Rattle.row_cells.specs.Fitting.{CellFits, CellsFit, FieldsAscend}
use Rattle.row_cells.specs.declared.schemas.Field.{Field}
use Rattle.row_cells.specs.declared.schemas.Schema.{Schema}
use Rattle.row_cells.specs.declared.rows.Cell.{Cell}
use Rattle.row_cells.specs.declared.schemas.FieldType.{FieldType}
use Rattle.row_cells.specs.declared.schemas.Role.{Role}
use Rattle.row_cells.specs.declared.schemas.Role.TheVariants.{Time, Dimension, Gauge as GaugeRole, Counter, Label}
use Rattle.row_cells.specs.WidenLaws.{apart, other_bytes, same_bytes}
use Rattle.serde_json.specs.Data.{Data}
use Rattle.json_walk.specs.Leaves.{AreLeaves, leaves_of, placed_at}
use Rattle.ts_mapping.specs.Paths.{timestamp}
use Rattle.synthetic_source.specs.Faults.{HasNoFault, IsCellFault, IsFault, IsFirstFault, time_in, time_fault_in, time_of, time_fault, unless_time, fault_at, fault_by, fault_of, field_at, leaves_in, mapped_fault, stops_of, stray_fault}
use Rattle.synthetic_source.specs.Gathered.{AllSound, AreRead, AreReadAs, IsAmong, IsFaultyAt, IsLeastStray, NoneBefore, by_field, paths_of, place_of, strays_of, with_stray}
use Rattle.synthetic_source.specs.Places.{Place, RiseAfter, Rise, found_if, later_place, place_among}
use Rattle.synthetic_source.specs.Rows.{cell_of}
use Rattle.synthetic_source.specs.declared.errors.DocKind.{DocKind}
use Rattle.synthetic_source.specs.Outcomes.{IsDecided, IsOutcome, IsWithin}
use Rattle.synthetic_source.specs.Times.{IsRefusal, IsRefusalBy}
use Rattle.synthetic_source.specs.declared.errors.DocError.{DocError}
use Rattle.synthetic_source.specs.declared.errors.DocError.TheVariants.{Refused, NoMemory}
use Rattle.synthetic_source.specs.declared.reading.Cells.{Cells}
use Rattle.synthetic_source.specs.declared.reading.Cells.TheVariants.{FaultAt, All}
use Rattle.synthetic_source.specs.declared.typing.Stray.{Stray}
use Rattle.synthetic_source.specs.declared.typing.Outcome.{Outcome}
use Rattle.synthetic_source.specs.declared.typing.Outcome.TheVariants.{Row, Fault}
use Rattle.synthetic_source.proofs.LeastPath.{is_less}
use Rattle.synthetic_source.proofs.Search.{fields_rise, same_element}

pub tail_rise : (q : List ℕ) (fs : List Field) → RiseAfter q (paths_of fs) → Rise (paths_of fs)
tail_rise q [] rise = tt
tail_rise q (f ∷ fs) rise = rise.1

pub field_later : (p q : List ℕ) (fs : List Field) → IsBefore p q → RiseAfter q (paths_of fs) → field_at p fs ≡ None
field_later p q [] before rise = refl
field_later p q (f ∷ fs) before rise =
    let on = before_chain p q f.path before rise.0 in
    ap (λ b. cond b (Some f) (field_at p fs)) (other_bytes p f.path (apart p f.path on)) ∙ field_later p f.path fs on rise.1

none_later : (q : Place) → found_if q.found q.at ≡ None → found_if q.found (suc q.at) ≡ None
none_later q none = by q.found none
  where
    by : (b : Bool) → found_if b q.at ≡ None → found_if b (suc q.at) ≡ None
    by true none = cc
    by false none = refl

none_earlier : (q : Place) → found_if q.found (suc q.at) ≡ None → found_if q.found q.at ≡ None
none_earlier q none = by q.found none
  where
    by : (b : Bool) → found_if b (suc q.at) ≡ None → found_if b q.at ≡ None
    by true none = cc
    by false none = refl

-- a path has no field where it has no place, and the other way round
pub no_field : (p : List ℕ) (fs : List Field) → Rise (paths_of fs) → place_of p fs ≡ None → field_at p fs ≡ None
no_field p [] rise none = refl
no_field p (f ∷ fs) rise none = go (slice_cmp nat_cmp p f.path) refl none (no_field p fs (tail_rise f.path fs rise))
  where
    go : (o : Ordering) → slice_cmp nat_cmp p f.path ≡ o
        → found_if (match_ordering o (record { at = 0; found = false }) (record { at = 0; found = true }) (later_place (place_among p (paths_of fs)))).found (match_ordering o (record { at = 0; found = false }) (record { at = 0; found = true }) (later_place (place_among p (paths_of fs)))).at ≡ None
        → (place_of p fs ≡ None → field_at p fs ≡ None) → field_at p (f ∷ fs) ≡ None
    go Less is none later = ap (λ b. cond b (Some f) (field_at p fs)) (other_bytes p f.path (apart p f.path is)) ∙ field_later p f.path fs is rise
    go Equal is none later = cc
    go Greater is none later =
        ap (λ b. cond b (Some f) (field_at p fs)) (other_bytes p f.path (λ same. apart f.path p (before_of_after p f.path is) (sym same))) ∙ later (none_earlier (place_among p (paths_of fs)) none)

no_place : (p : List ℕ) (fs : List Field) → Rise (paths_of fs) → field_at p fs ≡ None → place_of p fs ≡ None
no_place p [] rise none = refl
no_place p (f ∷ fs) rise none = go (slice_cmp nat_cmp p f.path) refl (no_place p fs (tail_rise f.path fs rise))
  where
    rest : bytes_eq p f.path ≡ false → field_at p fs ≡ None
    rest differ = sym (ap (λ b. cond b (Some f) (field_at p fs)) differ) ∙ none

    go : (o : Ordering) → slice_cmp nat_cmp p f.path ≡ o → (field_at p fs ≡ None → place_of p fs ≡ None)
        → found_if (match_ordering o (record { at = 0; found = false }) (record { at = 0; found = true }) (later_place (place_among p (paths_of fs)))).found (match_ordering o (record { at = 0; found = false }) (record { at = 0; found = true }) (later_place (place_among p (paths_of fs)))).at ≡ None
    go Less is later = refl
    go Equal is later =
        let some : Some f ≡ None = sym (ap (λ b. cond b (Some f) (field_at p fs)) (same_bytes p f.path (exact_bytes p f.path is))) ∙ none in
        cc
    go Greater is later =
        none_later (place_among p (paths_of fs)) (later (rest (other_bytes p f.path (λ same. apart f.path p (before_of_after p f.path is) (sym same)))))

-- ---- leaves where no field is

stray_there : (p : List ℕ) (fs : List Field) (es : List (List ℕ × Data)) (d : Data) (ds : List Data) → place_of p fs ≡ None → placed_at p es ≡ d ∷ ds → IsAmong p (strays_of fs es)
stray_there p fs [] d ds none some = cc
stray_there p fs (e ∷ es) d ds none some = go (bytes_eq e.0 p) refl some (stray_there p fs es d ds none)
  where
    later : (o : Option ℕ) → IsAmong p (strays_of fs es) → IsAmong p (with_stray o e.0 (strays_of fs es))
    later None is = inr is
    later (Some at) is = is

    go : (v : Bool) → bytes_eq e.0 p ≡ v → map (λ (x : List ℕ × Data). x.1) (cond v (e ∷ filter (λ x. bytes_eq x.0 p) es) (filter (λ x. bytes_eq x.0 p) es)) ≡ d ∷ ds → (placed_at p es ≡ d ∷ ds → IsAmong p (strays_of fs es)) → IsAmong p (with_stray (place_of e.0 fs) e.0 (strays_of fs es))
    go true is some rest =
        let same = (bytes_eq-Decides e.0 p).0 is in
        subst (λ o. IsAmong p (with_stray o e.0 (strays_of fs es))) (sym (ap (λ q. place_of q fs) same ∙ none)) (inl same)
    go false is some rest = later (place_of e.0 fs) (rest some)

-- a stray path has no field, and it has leaves
stray_place : (p : List ℕ) (fs : List Field) (es : List (List ℕ × Data)) → IsAmong p (strays_of fs es) → (place_of p fs ≡ None) × ((placed_at p es ≡ []) → ⊥)
stray_place p fs [] is = absurd is
stray_place p fs (e ∷ es) is = go (place_of e.0 fs) refl is (stray_place p fs es)
  where
    some_later : (placed_at p es ≡ [] → ⊥) → placed_at p (e ∷ es) ≡ [] → ⊥
    some_later some none = by (bytes_eq e.0 p) none
      where
        by : (v : Bool) → map (λ (x : List ℕ × Data). x.1) (cond v (e ∷ filter (λ x. bytes_eq x.0 p) es) (filter (λ x. bytes_eq x.0 p) es)) ≡ [] → ⊥
        by true none = cc
        by false none = some none

    some_here : e.0 ≡ p → placed_at p (e ∷ es) ≡ [] → ⊥
    some_here same none =
        let shown : e.1 ∷ placed_at p es ≡ [] = sym (ap (λ b. map (λ (x : List ℕ × Data). x.1) (cond b (e ∷ filter (λ x. bytes_eq x.0 p) es) (filter (λ x. bytes_eq x.0 p) es))) (same_bytes e.0 p same)) ∙ none in
        cc

    go : (o : Option ℕ) → place_of e.0 fs ≡ o → IsAmong p (with_stray o e.0 (strays_of fs es)) → (IsAmong p (strays_of fs es) → (place_of p fs ≡ None) × ((placed_at p es ≡ []) → ⊥)) → (place_of p fs ≡ None) × ((placed_at p (e ∷ es) ≡ []) → ⊥)
    go None nowhere is later =
        elim is [
          | inl here ↦ (subst (λ q. place_of q fs ≡ None) here nowhere, some_here here)
          | inr there ↦ (let rest = later there in (rest.0, some_later rest.1))
        ]
    go (Some at) nowhere is later = let rest = later is in (rest.0, some_later rest.1)

sound_there : (strict : Bool) (fs : List Field) (p : List ℕ) (ps : List (List ℕ)) → AllSound strict fs ps → IsAmong p ps → stray_fault strict fs p ≡ None
sound_there strict fs p [] all is = absurd is
sound_there strict fs p (q ∷ qs) all is = elim is [ inl here ↦ subst (λ r. stray_fault strict fs r ≡ None) here all.0 | inr there ↦ sound_there strict fs p qs all.1 there ]

before_there : (strict : Bool) (fs : List Field) (s p : List ℕ) (ps : List (List ℕ)) → NoneBefore strict fs s ps → IsAmong p ps → IsBefore p s → stray_fault strict fs p ≡ None
before_there strict fs s p [] none is before = absurd is
before_there strict fs s p (q ∷ qs) none is before = elim is [ inl here ↦ subst (λ r. stray_fault strict fs r ≡ None) here (none.0 (subst (λ r. IsBefore r s) (sym here) before)) | inr there ↦ before_there strict fs s p qs none.1 there before ]

-- ---- leaves of fields

read_there : (p : List ℕ) (fs : List Field) (es : List (List ℕ × Data)) (cs : List Cell) (f : Field) → AreRead fs (by_field fs es) cs → field_at p fs ≡ Some f → mapped_fault f.kind f.role (placed_at p es) ≡ None
read_there p [] es cs f read some = cc
read_there p (g ∷ gs) es [] f read some = absurd read
read_there p (g ∷ gs) es (c ∷ cs) f read some = go (bytes_eq p g.path) refl some (read_there p gs es cs f read.1)
  where
    go : (v : Bool) → bytes_eq p g.path ≡ v → cond v (Some g) (field_at p gs) ≡ Some f → (field_at p gs ≡ Some f → mapped_fault f.kind f.role (placed_at p es) ≡ None) → mapped_fault f.kind f.role (placed_at p es) ≡ None
    go true is some later =
        let same : g ≡ f = cc in
        let path = (bytes_eq-Decides p g.path).0 is in
        subst (λ h. mapped_fault h.kind h.role (placed_at p es) ≡ None) same (subst (λ q. mapped_fault g.kind g.role (placed_at q es) ≡ None) (sym path) read.0.0)
    go false is some later = later some

pub read_cells_are : (schema : Schema) (d : Data) (es : List (List ℕ × Data)) (fs : List Field) (cs : List Cell) → ((p : List ℕ) → placed_at p es ≡ leaves_in schema d p) → AreRead fs (by_field fs es) cs → cs ≡ map (λ f. cell_of f.kind f.role (leaves_in schema d f.path)) fs
read_cells_are schema d es [] [] leaves read = refl
read_cells_are schema d es [] (c ∷ cs) leaves read = absurd read
read_cells_are schema d es (f ∷ fs) [] leaves read = absurd read
read_cells_are schema d es (f ∷ fs) (c ∷ cs) leaves read = ap₂ (λ x xs. x ∷ xs) (read.0.1 ∙ ap (cell_of f.kind f.role) (leaves f.path)) (read_cells_are schema d es fs cs leaves read.1)

pub fits_rising : (rises : Bool) (kind : FieldType) (role : Role) (c : Cell) → CellFits false true kind role 1 c → CellFits false rises kind role 1 c
fits_rising rises kind Time c fits = fits
fits_rising rises kind Dimension c fits = fits
fits_rising rises kind GaugeRole c fits = fits
fits_rising rises kind Counter c fits = fits
fits_rising rises kind Label c fits = fits

pub read_cells_fit : (rises : Bool) (fs : List Field) (lss : List (List Data)) (cs : List Cell) → AreRead fs lss cs → CellsFit false rises 1 fs cs
read_cells_fit rises [] [] [] read = tt
read_cells_fit rises [] [] (c ∷ cs) read = absurd read
read_cells_fit rises [] (ls ∷ lss) cs read = absurd read
read_cells_fit rises (f ∷ fs) [] cs read = absurd read
read_cells_fit rises (f ∷ fs) (ls ∷ lss) [] read = absurd read
read_cells_fit rises (f ∷ fs) (ls ∷ lss) (c ∷ cs) read = (fits_rising rises f.kind f.role c read.0.2, read_cells_fit rises fs lss cs read.1)

-- a field before the first that has a fault has none
sound_field : (p : List ℕ) (fs : List Field) (es : List (List ℕ × Data)) (n : ℕ) (k : DocKind) (d f : Field) → Rise (paths_of fs) → IsFaultyAt n k fs (by_field fs es) → IsBefore p (get_or fs n d).path → field_at p fs ≡ Some f → mapped_fault f.kind f.role (placed_at p es) ≡ None
sound_field p [] es n k d f rise faulty before some = cc
sound_field p (g ∷ gs) es zero k d f rise faulty before some =
    let none = ap (λ b. cond b (Some g) (field_at p gs)) (other_bytes p g.path (apart p g.path before)) ∙ field_later p g.path gs before rise in
    let bad : None ≡ Some f = sym none ∙ some in
    cc
sound_field p (g ∷ gs) es (suc n) k d f rise faulty before some = go (bytes_eq p g.path) refl some (λ s. sound_field p gs es n k d f (tail_rise g.path gs rise) faulty.1 before s)
  where
    go : (v : Bool) → bytes_eq p g.path ≡ v → cond v (Some g) (field_at p gs) ≡ Some f → (field_at p gs ≡ Some f → mapped_fault f.kind f.role (placed_at p es) ≡ None) → mapped_fault f.kind f.role (placed_at p es) ≡ None
    go true is some later =
        let same : g ≡ f = cc in
        let path = (bytes_eq-Decides p g.path).0 is in
        subst (λ h. mapped_fault h.kind h.role (placed_at p es) ≡ None) same (subst (λ q. mapped_fault g.kind g.role (placed_at q es) ≡ None) (sym path) faulty.0)
    go false is some later = later some

-- the field that has the fault
faulty_field : (fs : List Field) (es : List (List ℕ × Data)) (n : ℕ) (k : DocKind) (d : Field) → Rise (paths_of fs) → IsFaultyAt n k fs (by_field fs es) → (field_at (get_or fs n d).path fs ≡ Some (get_or fs n d)) × (mapped_fault (get_or fs n d).kind (get_or fs n d).role (placed_at (get_or fs n d).path es) ≡ Some k) × (n < length fs)
faulty_field [] es n k d rise faulty = absurd (none_faulty n faulty)
  where
    none_faulty : (n : ℕ) → IsFaultyAt n k [] [] → ⊥
    none_faulty zero is = is
    none_faulty (suc n) is = is
faulty_field (g ∷ gs) es zero k d rise faulty = (ap (λ b. cond b (Some g) (field_at g.path gs)) (same_bytes g.path g.path refl), faulty, omega arith)
faulty_field (g ∷ gs) es (suc n) k d rise faulty =
    let rest = faulty_field gs es n k d (tail_rise g.path gs rise) faulty.1 in
    let after = path_after g.path gs n d rise rest.2 in
    (ap (λ b. cond b (Some g) (field_at (get_or gs n d).path gs)) (other_bytes (get_or gs n d).path g.path (λ same. apart g.path (get_or gs n d).path after (sym same))) ∙ rest.0, rest.1, omega (arith, rest.2))
  where
    path_after : (p : List ℕ) (fs : List Field) (n : ℕ) (d : Field) → RiseAfter p (paths_of fs) → n < length fs → IsBefore p (get_or fs n d).path
    path_after p [] n d rise below = absurd (omega arith)
    path_after p (f ∷ fs) zero d rise below = rise.0
    path_after p (f ∷ fs) (suc n) d rise below = before_chain p f.path (get_or fs n d).path rise.0 (path_after f.path fs n d rise.1 (omega arith))

none_of_none : (kind : FieldType) (role : Role) → mapped_fault kind role [] ≡ None
none_of_none kind Time = refl
none_of_none kind Dimension = refl
none_of_none kind GaugeRole = refl
none_of_none kind Counter = refl
none_of_none kind Label = refl

module _ (schema : Schema) (strict : Bool) (d : Data) (es : List (List ℕ × Data)) (leaves : (p : List ℕ) → placed_at p es ≡ leaves_in schema d p) (rise : Rise (paths_of schema.fields)) where
  -- a path has no fault where neither its field nor a stray leaf has one
  sound_at : (p : List ℕ) → ((f : Field) → field_at p schema.fields ≡ Some f → mapped_fault f.kind f.role (placed_at p es) ≡ None) → (IsAmong p (strays_of schema.fields es) → stray_fault strict schema.fields p ≡ None) → fault_at schema strict d p ≡ None
  unfolding fault_at
  sound_at p mapped stray = ap (fault_of strict schema.fields p) (sym (leaves p)) ∙ by_leaves (placed_at p es) refl
    where
      by_leaves : (ls : List Data) → placed_at p es ≡ ls → fault_of strict schema.fields p ls ≡ None
      by_leaves [] is = refl
      by_leaves (l ∷ ls) is = by_field_at (field_at p schema.fields) refl
        where
          by_field_at : (o : Option Field) → field_at p schema.fields ≡ o → fault_by strict schema.fields p (l ∷ ls) o ≡ None
          by_field_at None none = stray (stray_there p schema.fields es l ls (no_place p schema.fields rise none) is)
          by_field_at (Some f) some = subst (λ xs. mapped_fault f.kind f.role xs ≡ None) is (mapped f some)

  pub all_sound : (cs : List Cell) → AreRead schema.fields (by_field schema.fields es) cs → AllSound strict schema.fields (strays_of schema.fields es) → HasNoFault schema strict d
  all_sound cs read sound p = sound_at p (λ f some. read_there p schema.fields es cs f read some) (λ is. sound_there strict schema.fields p (strays_of schema.fields es) sound is)

  mapped_at : (p : List ℕ) (f : Field) (k : DocKind) → field_at p schema.fields ≡ Some f → mapped_fault f.kind f.role (placed_at p es) ≡ Some k → fault_at schema strict d p ≡ Some k
  unfolding fault_at
  mapped_at p f k some fault = ap (fault_of strict schema.fields p) (sym (leaves p)) ∙ by_leaves (placed_at p es) fault
    where
      by_leaves : (ls : List Data) → mapped_fault f.kind f.role ls ≡ Some k → fault_of strict schema.fields p ls ≡ Some k
      by_leaves [] fault = let bad : None ≡ Some k = sym (none_of_none f.kind f.role) ∙ fault in cc
      by_leaves (l ∷ ls) fault = ap (fault_by strict schema.fields p (l ∷ ls)) some ∙ fault

  stray_at : (p : List ℕ) (k : DocKind) → IsAmong p (strays_of schema.fields es) → stray_fault strict schema.fields p ≡ Some k → fault_at schema strict d p ≡ Some k
  unfolding fault_at
  stray_at p k is fault = ap (fault_of strict schema.fields p) (sym (leaves p)) ∙ by_leaves (placed_at p es) refl
    where
      by_leaves : (ls : List Data) → placed_at p es ≡ ls → fault_of strict schema.fields p ls ≡ Some k
      by_leaves [] none = absurd ((stray_place p schema.fields es is).1 none)
      by_leaves (l ∷ ls) some = ap (fault_by strict schema.fields p (l ∷ ls)) (no_field p schema.fields rise (stray_place p schema.fields es is).0) ∙ fault

  -- a field's fault is the first where no stray leaf before it has one
  pub first_mapped : (n : ℕ) (k : DocKind) (f : Field) → IsFaultyAt n k schema.fields (by_field schema.fields es) → f ≡ get_or schema.fields n f → ((p : List ℕ) → IsBefore p f.path → IsAmong p (strays_of schema.fields es) → stray_fault strict schema.fields p ≡ None) → IsFirstFault schema strict d k f.path
  first_mapped n k f faulty is_f strays =
      let field = faulty_field schema.fields es n k f rise faulty in
      record {
        here = subst (λ g. fault_at schema strict d g.path ≡ Some k) (sym is_f) (mapped_at (get_or schema.fields n f).path (get_or schema.fields n f) k field.0 field.1);
        before = λ p before. sound_at p (λ g some. sound_field p schema.fields es n k f g rise faulty (subst (λ h. IsBefore p h.path) is_f before) some) (λ is. strays p before is);
      }

  -- a stray leaf's fault is the first where no field before it has one
  pub first_stray_fault : (p : List ℕ) (k : DocKind) → IsAmong p (strays_of schema.fields es) → stray_fault strict schema.fields p ≡ Some k → NoneBefore strict schema.fields p (strays_of schema.fields es) → ((q : List ℕ) (f : Field) → IsBefore q p → field_at q schema.fields ≡ Some f → mapped_fault f.kind f.role (placed_at q es) ≡ None) → IsFirstFault schema strict d k p
  first_stray_fault p k is fault none mapped = record {
    here = stray_at p k is fault;
    before = λ q before. sound_at q (λ f some. mapped q f before some) (λ among. before_there strict schema.fields p q (strays_of schema.fields es) none among before);
  }

  not_before : (s f p : List ℕ) → is_lt (slice_cmp nat_cmp s f) ≡ false → IsBefore p f → IsBefore p s
  not_before s f p after before = go (slice_cmp nat_cmp s f) refl after
    where
      go : (o : Ordering) → slice_cmp nat_cmp s f ≡ o → is_lt o ≡ false → IsBefore p s
      go Less is after = cc
      go Equal is after = subst (λ q. IsBefore p q) (sym (exact_bytes s f is)) before
      go Greater is after = before_chain p f s before (before_of_after s f is)

  mapped_first : (n : ℕ) (k : DocKind) (e : DocError) (f : Field) → IsFaultyAt n k schema.fields (by_field schema.fields es) → IsRefusal k (get_or schema.fields n f).path e → ((p : List ℕ) → IsBefore p (get_or schema.fields n f).path → IsAmong p (strays_of schema.fields es) → stray_fault strict schema.fields p ≡ None) → IsCellFault schema strict d e
  mapped_first n k NoMemory f faulty is strays = tt
  mapped_first n k (Refused kind path) f faulty is strays =
      let field = faulty_field schema.fields es n k f rise faulty in
      let same : get_or schema.fields n f ≡ get_or schema.fields n (get_or schema.fields n f) = same_element (λ (g : Field). g.path) schema.fields n f (get_or schema.fields n f) field.2 in
      let first = first_mapped n k (get_or schema.fields n f) faulty same strays in
      subst (λ q. IsFirstFault schema strict d kind q) (sym is.1) (subst (λ j. IsFirstFault schema strict d j (get_or schema.fields n f).path) (sym is.0) first)

  stray_first : (s : Stray) (e : DocError) → IsLeastStray strict schema.fields (strays_of schema.fields es) (Some s) → IsRefusal s.kind s.path.now e → ((q : List ℕ) (f : Field) → IsBefore q s.path.now → field_at q schema.fields ≡ Some f → mapped_fault f.kind f.role (placed_at q es) ≡ None) → IsCellFault schema strict d e
  stray_first s NoMemory least is mapped = tt
  stray_first s (Refused kind path) least is mapped =
      let first = first_stray_fault s.path.now s.kind least.1 least.0 least.2 mapped in
      subst (λ q. IsFirstFault schema strict d kind q) (sym is.1) (subst (λ j. IsFirstFault schema strict d j s.path.now) (sym is.0) first)

  -- what is decided of a document is its cells or its first fault
  pub outcome_is : (cells : Cells) (stray : Option Stray) (o : Outcome) (any : Field) → IsLeastStray strict schema.fields (strays_of schema.fields es) stray → AreReadAs schema.fields (by_field schema.fields es) cells → IsDecided schema.fields cells stray o → IsOutcome schema strict d o
  outcome_is (All cs) None (Row cells) any least read is =
      (all_sound cs read least, is ∙ read_cells_are schema d es schema.fields cs leaves read, subst (CellsFit false schema.rises 1 schema.fields) (sym is) (read_cells_fit schema.rises schema.fields (by_field schema.fields es) cs read))
  outcome_is (All cs) None (Fault e) any least read is = absurd is
  outcome_is (All cs) (Some s) (Row cells) any least read is = absurd is
  outcome_is (All cs) (Some s) (Fault e) any least read is = stray_first s e least is (λ q f before some. read_there q schema.fields es cs f read some)
  outcome_is (FaultAt n k) None (Row cells) any least read is = absurd is
  outcome_is (FaultAt n k) (Some s) (Row cells) any least read is = absurd is
  outcome_is (FaultAt n k) None (Fault e) any least read is = mapped_first n k e any read (is any) (λ p before among. sound_there strict schema.fields p (strays_of schema.fields es) least among)
  outcome_is (FaultAt n k) (Some s) (Fault e) any least read is = go (is_lt (slice_cmp nat_cmp s.path.now (get_or schema.fields n any).path)) refl (is any)
    where
      go : (b : Bool) → is_lt (slice_cmp nat_cmp s.path.now (get_or schema.fields n any).path) ≡ b → IsRefusalBy b s k (get_or schema.fields n any).path e → IsCellFault schema strict d e
      go true less refusal = stray_first s e least refusal (λ q f before some. sound_field q schema.fields es n k any f rise read (before_chain q s.path.now (get_or schema.fields n any).path before (is_less _ less)) some)
      go false after refusal = mapped_first n k e any read refusal (λ p before among. before_there strict schema.fields s.path.now p (strays_of schema.fields es) least.2 among (not_before s.path.now (get_or schema.fields n any).path p after before))

pub faulty_within : (fs : List Field) (lss : List (List Data)) (cells : Cells) → AreReadAs fs lss cells → IsWithin fs cells
faulty_within fs lss (All cs) read = tt
faulty_within fs lss (FaultAt n k) read = by fs lss n read
  where
    by : (fs : List Field) (lss : List (List Data)) (n : ℕ) → IsFaultyAt n k fs lss → n < length fs
    by [] lss zero is = absurd is
    by [] lss (suc n) is = absurd is
    by (f ∷ fs) [] zero is = absurd is
    by (f ∷ fs) [] (suc n) is = absurd is
    by (f ∷ fs) (ls ∷ lss) zero is = omega arith
    by (f ∷ fs) (ls ∷ lss) (suc n) is = let rest = by fs lss n is.1 in omega arith

pub no_time_fault : (ls : List Data) (t : ℤ) → time_in ls ≡ Some t → time_fault_in ls ≡ None
no_time_fault [] t is = cc
no_time_fault (l ∷ ls) t is = ap unless_time is

-- a fault of a document whose time has none
pub later_fault : (schema : Schema) (strict : Bool) (d : Data) (t : ℤ) (e : DocError) → time_of d ≡ Some t → IsCellFault schema strict d e → IsFault schema strict d e
unfolding time_of time_fault
later_fault schema strict d t NoMemory timed is = tt
later_fault schema strict d t (Refused kind path) timed is = inr (no_time_fault (leaves_of [] d timestamp) t timed, is)

pub outcome_from : (schema : Schema) (strict : Bool) (d : Data) (fields : List Field) (stops : List (List ℕ)) (es : List (List ℕ × Data)) (lss : List (List Data)) (paths : List (List ℕ)) (stray : Option Stray) (cells : Cells) (o : Outcome) (any : Field)
    → FieldsAscend schema.fields → fields ≡ schema.fields → stops ≡ stops_of fields → AreLeaves stops d es → lss ≡ by_field fields es → paths ≡ strays_of fields es
    → IsLeastStray strict fields paths stray → AreReadAs fields lss cells → IsDecided fields cells stray o → IsOutcome schema strict d o
unfolding AreLeaves
outcome_from schema strict d fields stops es lss paths stray cells o any ascend is_fields is_stops are is_lss is_paths least read decided =
    outcome_is schema strict d es (subst (λ ss. AreLeaves ss d es) (is_stops ∙ ap stops_of is_fields) are) (fields_rise schema.fields ascend) cells stray o any
    (subst (λ fs. IsLeastStray strict fs (strays_of fs es) stray) is_fields (subst (λ ps. IsLeastStray strict fields ps stray) is_paths least))
    (subst (λ fs. AreReadAs fs (by_field fs es) cells) is_fields (subst (λ xs. AreReadAs fields xs cells) is_lss read))
    (subst (λ fs. IsDecided fs cells stray o) is_fields decided)
