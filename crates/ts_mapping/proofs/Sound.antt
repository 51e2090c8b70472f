-- The fields of properties that no look refuses.
use Rattle.std.proofs.Common.{◌≡◌, ◌↔◌, ℕ, List, [], ◌∷◌, Bool, true, false, ◌||◌, ◌&&◌, not, if◌then◌else◌, Option, Some, None, bytes_eq, refl, sym, ap, ◌∙◌, subst}
use Rattle.std.specs.Prelude.{is_some, option_and_then}
use Rattle.serde_json.specs.Data.{Data}
use Rattle.row_cells.specs.declared.schemas.FieldType.{FieldType}
use Rattle.row_cells.specs.declared.schemas.Role.{Role}
use Rattle.row_cells.specs.declared.schemas.Role.TheVariants.{Time, Dimension, Gauge, Counter, Label}
use Rattle.row_cells.specs.declared.schemas.Field.{Field}
use Rattle.std.proofs.lemmas.Bool.{or_right}
use Rattle.ts_mapping.specs.Faults.{fails, has_role}
use Rattle.ts_mapping.specs.Fields.{field_by, field_of, field_with, is_dimension, kind_of, metric_named, metric_of, paths_of, plain_role, role_at, role_by, role_if_had, role_of, time_role}
use Rattle.ts_mapping.specs.Least.{all_faults, fault_unless}
use Rattle.ts_mapping.specs.Paths.{is_among, is_field_path, timestamp}
use Rattle.ts_mapping.specs.Properties.{Placed, Property, is_level, leaves_in}
use Rattle.ts_mapping.specs.Roles.{is_aggregate, is_date, is_whole, may_have}
use Rattle.ts_mapping.specs.Schemas.{IsTemplateField}
use Rattle.ts_mapping.specs.Shapes.{property_faults, value_faults}
use Rattle.ts_mapping.specs.Trees.{is_text}
use Rattle.ts_mapping.proofs.Nothing.{first_nothing, holds, second_nothing}
use Rattle.ts_mapping.proofs.Placing.{AllBy, AreAllFields}
use Rattle.ts_mapping.specs.PathLaws.{exact, itself}

-- ---- properties whose paths fields may have

abbrev pub AreSound : List Property → Type 0
AreSound [] = Unit {0}
AreSound (p ∷ ps) = (is_field_path p.path ≡ true) × AreSound ps

pub sound_leaves : (ps : List Placed) → all_faults property_faults ps ≡ [] → AreSound (leaves_in ps)
unfolding property_faults
sound_leaves [] none = tt
sound_leaves (p ∷ ps) none = go (is_level p.property) (sound_leaves ps (second_nothing (property_faults p) (all_faults property_faults ps) none))
  where
    here : is_field_path p.property.path ≡ true
    here =
        holds (is_field_path p.property.path) p.place
        (first_nothing (fault_unless (is_field_path p.property.path) p.place) (value_faults p.place p.property.value)
        (first_nothing (property_faults p) (all_faults property_faults ps) none))

    go : (v : Bool) → AreSound (leaves_in ps) → AreSound (if v then leaves_in ps else p.property ∷ leaves_in ps)
    go true later = later
    go false later = (here, later)

-- ---- the role of a property

record HasRole (path : List ℕ) (kind : FieldType) (role : Role) : Type 0 where
  had : may_have kind role ≡ true
  time : (role ≡ Time) ↔ (path ≡ timestamp)

record Had (kind : FieldType) (asked role : Role) : Type 0 where
  same : asked ≡ role
  had : may_have kind asked ≡ true

had_if : (kind : FieldType) (asked role : Role) → role_if_had kind asked ≡ Some role → Had kind asked role
had_if kind asked role is = go (may_have kind asked) refl is
  where
    go : (v : Bool) → may_have kind asked ≡ v → (if v then Some asked else None) ≡ Some role → Had kind asked role
    go true had is = record { same = cc; had = had }
    go false had is = cc

-- a role that isn't the time's, at another path
other : (path : List ℕ) (kind : FieldType) (asked role : Role) → (path ≡ timestamp → ⊥) → (asked ≡ Time → ⊥) → asked ≡ role → may_have kind asked ≡ true → HasRole path kind role
other path kind asked role elsewhere untimed same had = record {
  had = subst (λ r. may_have kind r ≡ true) same had;
  time = ((λ is. absurd (untimed (same ∙ is))), (λ is. absurd (elsewhere is)));
}

other_if : (path : List ℕ) (kind : FieldType) (asked role : Role) → (path ≡ timestamp → ⊥) → (asked ≡ Time → ⊥) → role_if_had kind asked ≡ Some role → HasRole path kind role
other_if path kind asked role elsewhere untimed is =
    let one = had_if kind asked role is in
    other path kind asked role elsewhere untimed one.same one.had

dimension_untimed : Dimension ≡ Time → ⊥
dimension_untimed e = cc

gauge_untimed : Gauge ≡ Time → ⊥
gauge_untimed e = cc

counter_untimed : Counter ≡ Time → ⊥
counter_untimed e = cc

label_untimed : Label ≡ Time → ⊥
label_untimed e = cc

plain : (path : List ℕ) (kind : FieldType) (dimension : Bool) (role : Role) → (path ≡ timestamp → ⊥) → plain_role kind dimension ≡ Some role → HasRole path kind role
plain path kind true role elsewhere is = other_if path kind Dimension role elsewhere dimension_untimed is
plain path kind false role elsewhere is = go (is_aggregate kind) refl is
  where
    gauge_had : is_aggregate kind ≡ true → may_have kind Gauge ≡ true
    gauge_had e = or_right (is_whole kind) (is_aggregate kind) e

    go : (v : Bool) → is_aggregate kind ≡ v → Some (if v then Gauge else Label) ≡ Some role → HasRole path kind role
    go true e is = other path kind Gauge role elsewhere gauge_untimed (cc) (gauge_had e)
    go false e is = other path kind Label role elsewhere label_untimed (cc) (ap not e)

metric : (path : List ℕ) (kind : FieldType) (d : Data) (role : Role) → (path ≡ timestamp → ⊥) → option_and_then (role_if_had kind) (metric_named d) ≡ Some role → HasRole path kind role
metric path kind d role elsewhere is = go (is_text _ d) (is_text _ d) is
  where
    go : (gauge counter : Bool) → option_and_then (role_if_had kind) (if gauge then Some Gauge else (if counter then Some Counter else None)) ≡ Some role → HasRole path kind role
    go true counter is = other_if path kind Gauge role elsewhere gauge_untimed is
    go false true is = other_if path kind Counter role elsewhere counter_untimed is
    go false false is = cc

by_role : (path : List ℕ) (kind : FieldType) (dimension : Bool) (d : Option Data) (role : Role) → (path ≡ timestamp → ⊥) → role_by kind dimension d ≡ Some role → HasRole path kind role
by_role path kind dimension None role elsewhere is = plain path kind dimension role elsewhere is
by_role path kind true (Some d) role elsewhere is = cc
by_role path kind false (Some d) role elsewhere is = metric path kind d role elsewhere is

at_time : (path : List ℕ) (kind : FieldType) (dimension : Bool) (d : Option Data) (role : Role) → path ≡ timestamp → time_role kind dimension d ≡ Some role → HasRole path kind role
at_time path kind dimension (Some d) role here is = cc
at_time path kind dimension None role here is = go (is_date kind) refl (not dimension) is
  where
    go : (v : Bool) → is_date kind ≡ v → (w : Bool) → (if v && w then Some Time else None) ≡ Some role → HasRole path kind role
    go true date true is = let same : Time ≡ role = cc in record { had = subst (λ r. may_have kind r ≡ true) same date; time = ((λ _. here), (λ _. sym same)) }
    go true date false is = cc
    go false date w is = cc

has_role_at : (path : List ℕ) (kind : FieldType) (dimension : Bool) (d : Option Data) (role : Role) → role_at path kind dimension d ≡ Some role → HasRole path kind role
has_role_at path kind dimension d role is = go (bytes_eq path timestamp) refl is
  where
    go : (v : Bool) → bytes_eq path timestamp ≡ v → (if v then time_role kind dimension d else role_by kind dimension d) ≡ Some role → HasRole path kind role
    go true here is = at_time path kind dimension d role (exact path timestamp here) is
    go false here is = by_role path kind dimension d role (λ e. false_true (sym here ∙ (ap (λ p. bytes_eq p timestamp) e ∙ itself timestamp))) is
      where
        false_true : false ≡ true → ⊥
        false_true e = cc

-- ---- the field of a property

record IsFieldOf (p : Property) (f : Field) : Type 0 where
  template : IsTemplateField f
  path : p.path ≡ f.path

field_is : (p : Property) (f : Field) → is_field_path p.path ≡ true → field_of p ≡ Some f → IsFieldOf p f
unfolding field_of role_of
field_is p f good is = go (kind_of p.value) is
  where
    of_role : (kind : FieldType) (o : Option Role) → role_at p.path kind (is_dimension p.value) (metric_of p.value) ≡ o → field_with p.path kind o ≡ Some f → IsFieldOf p f
    of_role kind None e is = cc
    of_role kind (Some role) e is =
        let same : record { path = p.path; kind = kind; role = role } ≡ f = cc in
        let facts = has_role_at p.path kind (is_dimension p.value) (metric_of p.value) role e in
        subst (IsFieldOf p) same (record { template = record { path = good; role = facts.had; time = facts.time }; path = refl })

    go : (o : Option FieldType) → field_by p o ≡ Some f → IsFieldOf p f
    go None is = cc
    go (Some kind) is = of_role kind (role_at p.path kind (is_dimension p.value) (metric_of p.value)) refl is

pub all_template : (ps : List Property) → AreSound ps → AllBy IsTemplateField ps
all_template [] are = tt
all_template (p ∷ ps) are = ((λ f is. (field_is p f are.0 is).template), all_template ps are.1)

-- the paths of fields are those of properties
pub all_sent : (all : List (List ℕ)) (ps : List Property) → AreSound ps → ((q : List ℕ) → is_among q (paths_of ps) ≡ true → is_among q all ≡ true) → AllBy (λ f. is_among f.path all ≡ true) ps
all_sent all [] are within = tt
all_sent all (p ∷ ps) are within = (
  (λ f is. within f.path (here p f ps (field_is p f are.0 is).path)),
  all_sent all ps are.1 (λ q is. within q (or_right (bytes_eq q p.path) (is_among q (paths_of ps)) is)),
)
  where
    here : (p : Property) (f : Field) (ps : List Property) → p.path ≡ f.path → is_among f.path (paths_of (p ∷ ps)) ≡ true
    here p f ps same = ap (λ b. b || is_among f.path (paths_of ps)) (ap (bytes_eq f.path) same ∙ itself f.path)

-- where each property has a role, each is a field
pub all_fields : (ps : List Property) → AreSound ps → all_faults (fails has_role) ps ≡ [] → AreAllFields ps
unfolding field_of
all_fields [] are none = tt
all_fields (p ∷ ps) are none = (
  go (kind_of p.value) refl (holds (has_role p) p.path (first_nothing (fails has_role p) (all_faults (fails has_role) ps) none)),
  all_fields ps are.1 (second_nothing (fails has_role p) (all_faults (fails has_role) ps) none),
)
  where
    of_role : (kind : FieldType) → (o : Option Role) → is_some o ≡ true → (f : Field) × (field_with p.path kind o ≡ Some f) × (f.path ≡ p.path)
    of_role kind None is = cc
    of_role kind (Some role) is = (record { path = p.path; kind = kind; role = role }, refl, refl)

    go : (o : Option FieldType) → kind_of p.value ≡ o → is_some (option_and_then (λ kind. role_of kind p) o) ≡ true → (f : Field) × (field_by p (kind_of p.value) ≡ Some f) × (f.path ≡ p.path)
    go None e is = cc
    go (Some kind) e is =
        let one = of_role kind (role_of kind p) is in
        (one.0, ap (field_by p) e ∙ one.1, one.2)
