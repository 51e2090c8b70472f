-- A body that shows a template: what it is, and what each of its fields shows.
use Rattle.std.proofs.Common.{◌≡◌, ℕ, List, [], ◌∷◌, Bool, true, false, Some, refl, ap}
use Rattle.std.specs.Prelude.{codes, is_some}
use Rattle.serde_json.specs.Data.{Data, boolean, string, array, object, Items, no_items, item, Members, no_members, member}
use Rattle.serde_json.specs.Find.{get}
use Rattle.row_cells.specs.declared.schemas.FieldType.{FieldType}
use Rattle.row_cells.specs.declared.schemas.FieldType.TheVariants.{Date, Keyword, Long, Integer, Short, Byte, Boolean, Aggregate}
use Rattle.row_cells.specs.declared.schemas.Role.{Role}
use Rattle.row_cells.specs.declared.schemas.Role.TheVariants.{Time, Dimension, Gauge, Counter, Label}
use Rattle.row_cells.specs.declared.schemas.Field.{Field}
use Rattle.time_text.specs.Interval.{interval_text}
use Rattle.time_text.specs.declared.units.Unit.TheVariants.{Ms}
use Rattle.json_walk.specs.Shapes.{texts_in, with_text}
use Rattle.ts_mapping.specs.Faults.{is_time}
use Rattle.ts_mapping.specs.Fields.{is_dimension, kind_of, metric_of, role_by, time_role}
use Rattle.ts_mapping.specs.Least.{under}
use Rattle.ts_mapping.specs.Properties.{Placed, Property, property_at, single}
use Rattle.ts_mapping.specs.Roles.{may_have}
use Rattle.ts_mapping.specs.Shapes.{aggregate_faults, level_faults, member_faults, value_faults}

-- ---- texts

abbrev pub shown_texts : List (List ℕ) → Items
shown_texts [] = no_items
shown_texts (t ∷ ts) = item (string t) (shown_texts ts)

pub texts_back : (ts : List (List ℕ)) → texts_in (shown_texts ts) ≡ Some ts
texts_back [] = refl
texts_back (t ∷ ts) = ap (with_text (Some t)) (texts_back ts)

-- ---- fields

abbrev pub kind_name : FieldType → List ℕ
kind_name Date = codes "date"
kind_name Keyword = codes "keyword"
kind_name Long = codes "long"
kind_name Integer = codes "integer"
kind_name Short = codes "short"
kind_name Byte = codes "byte"
kind_name Boolean = codes "boolean"
kind_name Aggregate = codes "aggregate_metric_double"

-- the members of an aggregate's property but for its type
abbrev pub aggregate_members : Members
aggregate_members =
    member (codes "default_metric") (string (codes "max"))
    (member (codes "metrics") (array (shown_texts (codes "max" ∷ codes "min" ∷ codes "sum" ∷ codes "value_count" ∷ []))) no_members)

-- those that a role needs of another type
abbrev pub role_members : Role → Members
role_members Time = no_members
role_members Dimension = member (codes "time_series_dimension") (boolean true) no_members
role_members Gauge = member (codes "time_series_metric") (string (codes "gauge")) no_members
role_members Counter = member (codes "time_series_metric") (string (codes "counter")) no_members
role_members Label = no_members

abbrev pub members_of_kind : FieldType → Role → Members
members_of_kind Date role = role_members role
members_of_kind Keyword role = role_members role
members_of_kind Long role = role_members role
members_of_kind Integer role = role_members role
members_of_kind Short role = role_members role
members_of_kind Byte role = role_members role
members_of_kind Boolean role = role_members role
members_of_kind Aggregate role = aggregate_members

abbrev pub shown_field : FieldType → Role → Data
shown_field kind role = object (member (codes "type") (string (kind_name kind)) (members_of_kind kind role))

-- the role is that of the time, or that of another field
abbrev pub HasShownRole : FieldType → Role → Data → Type 0
HasShownRole kind Time d = time_role kind (is_dimension d) (metric_of d) ≡ Some Time
HasShownRole kind Dimension d = role_by kind (is_dimension d) (metric_of d) ≡ Some Dimension
HasShownRole kind Gauge d = role_by kind (is_dimension d) (metric_of d) ≡ Some Gauge
HasShownRole kind Counter d = role_by kind (is_dimension d) (metric_of d) ≡ Some Counter
HasShownRole kind Label d = role_by kind (is_dimension d) (metric_of d) ≡ Some Label

abbrev pub IsShownTime : Role → Data → Type 0
IsShownTime Time d = is_time d ≡ true
IsShownTime Dimension d = Unit {0}
IsShownTime Gauge d = Unit {0}
IsShownTime Counter d = Unit {0}
IsShownTime Label d = Unit {0}

pub record IsShown (kind : FieldType) (role : Role) (d : Data) : Type 0 where
  pub typed : kind_of d ≡ Some kind
  pub formed : (place : List ℕ) → value_faults place d ≡ []
  pub leaf : is_some (get (codes "properties") d) ≡ false
  pub alone : (place path : List ℕ) → property_at place path d ≡ single place path d
  pub had : HasShownRole kind role d
  pub timely : IsShownTime role d

pub field_shown : (kind : FieldType) (role : Role) → may_have kind role ≡ true → IsShown kind role (shown_field kind role)
unfolding kind_of is_dimension member_faults aggregate_faults level_faults
field_shown Date Time is = record { typed = refl; formed = λ place. refl; leaf = refl; alone = λ place path. refl; had = refl; timely = refl }
field_shown Date Dimension is = cc
field_shown Date Gauge is = cc
field_shown Date Counter is = cc
field_shown Date Label is = record { typed = refl; formed = λ place. refl; leaf = refl; alone = λ place path. refl; had = refl; timely = tt }
field_shown Keyword Time is = cc
field_shown Keyword Dimension is = record { typed = refl; formed = λ place. refl; leaf = refl; alone = λ place path. refl; had = refl; timely = tt }
field_shown Keyword Gauge is = cc
field_shown Keyword Counter is = cc
field_shown Keyword Label is = record { typed = refl; formed = λ place. refl; leaf = refl; alone = λ place path. refl; had = refl; timely = tt }
field_shown Boolean Time is = cc
field_shown Boolean Dimension is = record { typed = refl; formed = λ place. refl; leaf = refl; alone = λ place path. refl; had = refl; timely = tt }
field_shown Boolean Gauge is = cc
field_shown Boolean Counter is = cc
field_shown Boolean Label is = record { typed = refl; formed = λ place. refl; leaf = refl; alone = λ place path. refl; had = refl; timely = tt }
field_shown Aggregate Time is = cc
field_shown Aggregate Dimension is = cc
field_shown Aggregate Gauge is = record { typed = refl; formed = λ place. refl; leaf = refl; alone = λ place path. refl; had = refl; timely = tt }
field_shown Aggregate Counter is = cc
field_shown Aggregate Label is = cc
field_shown Long Time is = cc
field_shown Long Dimension is = record { typed = refl; formed = λ place. refl; leaf = refl; alone = λ place path. refl; had = refl; timely = tt }
field_shown Long Gauge is = record { typed = refl; formed = λ place. refl; leaf = refl; alone = λ place path. refl; had = refl; timely = tt }
field_shown Long Counter is = record { typed = refl; formed = λ place. refl; leaf = refl; alone = λ place path. refl; had = refl; timely = tt }
field_shown Long Label is = record { typed = refl; formed = λ place. refl; leaf = refl; alone = λ place path. refl; had = refl; timely = tt }
field_shown Integer Time is = cc
field_shown Integer Dimension is = record { typed = refl; formed = λ place. refl; leaf = refl; alone = λ place path. refl; had = refl; timely = tt }
field_shown Integer Gauge is = record { typed = refl; formed = λ place. refl; leaf = refl; alone = λ place path. refl; had = refl; timely = tt }
field_shown Integer Counter is = record { typed = refl; formed = λ place. refl; leaf = refl; alone = λ place path. refl; had = refl; timely = tt }
field_shown Integer Label is = record { typed = refl; formed = λ place. refl; leaf = refl; alone = λ place path. refl; had = refl; timely = tt }
field_shown Short Time is = cc
field_shown Short Dimension is = record { typed = refl; formed = λ place. refl; leaf = refl; alone = λ place path. refl; had = refl; timely = tt }
field_shown Short Gauge is = record { typed = refl; formed = λ place. refl; leaf = refl; alone = λ place path. refl; had = refl; timely = tt }
field_shown Short Counter is = record { typed = refl; formed = λ place. refl; leaf = refl; alone = λ place path. refl; had = refl; timely = tt }
field_shown Short Label is = record { typed = refl; formed = λ place. refl; leaf = refl; alone = λ place path. refl; had = refl; timely = tt }
field_shown Byte Time is = cc
field_shown Byte Dimension is = record { typed = refl; formed = λ place. refl; leaf = refl; alone = λ place path. refl; had = refl; timely = tt }
field_shown Byte Gauge is = record { typed = refl; formed = λ place. refl; leaf = refl; alone = λ place path. refl; had = refl; timely = tt }
field_shown Byte Counter is = record { typed = refl; formed = λ place. refl; leaf = refl; alone = λ place path. refl; had = refl; timely = tt }
field_shown Byte Label is = record { typed = refl; formed = λ place. refl; leaf = refl; alone = λ place path. refl; had = refl; timely = tt }

abbrev pub field_data : Field → Data
field_data f = shown_field f.kind f.role

-- the properties of some fields, each by its whole path
abbrev pub shown_fields : List Field → Members
shown_fields [] = no_members
shown_fields (f ∷ fs) = member f.path (field_data f) (shown_fields fs)

abbrev pub leaf_of : Field → Property
leaf_of f = record { path = f.path; value = field_data f }

abbrev pub placed_at : List ℕ → Field → Placed
placed_at place f = record { place = under place f.path; property = leaf_of f }

-- ---- the body

abbrev pub look_text : ℕ → Data
look_text ms = string (interval_text ms Ms)

abbrev pub shown_strict : Bool → Data
shown_strict true = string (codes "strict")
shown_strict false = boolean false

-- settings with their routing path, their number of shards, and their times to look back and ahead
abbrev pub shown_settings : Data → Data → Data → Data → Data
shown_settings routing shards back ahead =
    object (member (codes "mode") (string (codes "time_series"))
    (member (codes "routing_path") routing
    (member (codes "number_of_shards") shards
    (member (codes "look_back_time") back
    (member (codes "look_ahead_time") ahead no_members)))))

abbrev pub shown_body : Data → Data → Data → Data → Data → Data
shown_body patterns priority settings strict properties =
    object (member (codes "index_patterns") patterns
    (member (codes "priority") priority
    (member (codes "data_stream") (object no_members)
    (member (codes "template") (object (member (codes "settings") settings
    (member (codes "mappings") (object (member (codes "dynamic") strict (member (codes "properties") properties no_members))) no_members)))
    no_members))))
