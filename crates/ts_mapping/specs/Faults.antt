-- Why a body is no template: ten looks at it, one after the other.
use Rattle.std.specs.Prelude.{ℕ, ◌+◌, Bool, true, false, ◌&&◌, ◌||◌, not, nat_le, List, [], ◌∷◌, ◌++◌, length, codes, bytes_eq, if◌then◌else◌, Option, Some, None, option_and_then, is_some}
use Rattle.std.specs.List.{list_any}
use Rattle.serde_json.specs.Data.{Data, null, boolean, number, string, array, object}
use Rattle.row_cells.specs.declared.schemas.FieldType.{FieldType}
use Rattle.row_cells.specs.declared.schemas.Field.{Field}
use Rattle.json_walk.specs.Shapes.{texts_of}
use Rattle.ts_mapping.specs.Fields.{dimension_paths, fields_of, has_time, is_dimension, kind_of, metric_named, metric_of, paths_of, role_of}
use Rattle.ts_mapping.specs.Least.{all_faults, fault_unless, least}
use Rattle.ts_mapping.specs.Limits.{most_fields}
use Rattle.ts_mapping.specs.Paths.{is_among, is_below, timestamp}
use Rattle.ts_mapping.specs.Properties.{Property, leaves_in, mappings_of, properties_of}
use Rattle.ts_mapping.specs.Roles.{is_date}
use Rattle.ts_mapping.specs.Settings.{settings_of, shards_of, value_of}
use Rattle.ts_mapping.specs.Shapes.{shape_faults}
use Rattle.ts_mapping.specs.Trees.{member_of}
use Rattle.ts_mapping.specs.declared.settings.Key.TheVariants.{RoutingPath, Shards}
use Rattle.ts_mapping.specs.declared.faults.Fault.{Fault}
use Rattle.ts_mapping.specs.declared.kinds.MapKind.{MapKind}
use Rattle.ts_mapping.specs.declared.kinds.MapKind.TheVariants.{Shape, BadShards, BadDynamic, UnknownType, TooManyFields, PathClash, BadTimestamp, BadRole, NoDimension, BadRouting}

-- ---- number of shards, and what becomes of paths that aren't mapped

-- the number of shards that is given, 1 where none is
abbrev pub given_shards : Option Data → Option ℕ
given_shards None = Some 1
given_shards (Some d) = shards_of d

-- the number of shards of a body
unfoldable pub shards_in : Data → Option ℕ
shards_in body = given_shards (value_of Shards (settings_of body))

abbrev pub shards_faults : Option ℕ → List (List ℕ)
shards_faults shards = fault_unless (is_some shards) (codes "number_of_shards")

-- `"strict"` or `false`
abbrev pub strictness : Data → Option Bool
strictness null = None
strictness (boolean b) = if b then None else Some false
strictness (number n) = None
strictness (string s) = if bytes_eq s (codes "strict") then Some true else None
strictness (array ds) = None
strictness (object ms) = None

-- strict where nothing is said
abbrev pub given_strictness : Option Data → Option Bool
given_strictness None = Some true
given_strictness (Some d) = strictness d

-- whether a path that isn't mapped is refused
unfoldable pub strict_of : Data → Option Bool
strict_of body = given_strictness (member_of (codes "dynamic") (mappings_of body))

abbrev pub dynamic_faults : Option Bool → List (List ℕ)
dynamic_faults strict = fault_unless (is_some strict) (codes "dynamic")

-- ---- types, number and paths of the fields

-- the path of a property that fails a test
abbrev pub fails : (Property → Bool) → Property → List (List ℕ)
fails test p = fault_unless (test p) p.path

abbrev pub is_typed : Property → Bool
is_typed p = is_some (kind_of p.value)

unfoldable pub type_faults : List Property → List (List ℕ)
type_faults ps = all_faults (fails is_typed) ps

-- how many fields there are with `@timestamp`
abbrev pub number_of_fields : List Property → ℕ
number_of_fields ps = if has_time ps then length ps else length ps + 1

unfoldable pub count_faults : List Property → List (List ℕ)
count_faults ps = fault_unless (nat_le (number_of_fields ps) most_fields) []

-- the paths that stand in the list before, or among those that stand before the list
abbrev pub repeated : List (List ℕ) → List (List ℕ) → List (List ℕ)
repeated before [] = []
repeated before (p ∷ ps) = fault_unless (not (is_among p before)) p ++ repeated (p ∷ before) ps

-- a path lies below one of a list
abbrev pub is_below_any : List ℕ → List (List ℕ) → Bool
is_below_any p qs = list_any (is_below p) qs

abbrev pub below_fault : List (List ℕ) → List ℕ → List (List ℕ)
below_fault qs p = fault_unless (not (is_below_any p qs)) p

-- a path twice, or a field below a field, which may be `@timestamp`
unfoldable pub clash_faults : List Property → List (List ℕ)
clash_faults ps = repeated [] (paths_of ps) ++ all_faults (below_fault (timestamp ∷ paths_of ps)) (paths_of ps)

-- ---- roles

abbrev pub is_date_type : Option FieldType → Bool
is_date_type None = false
is_date_type (Some kind) = is_date kind

abbrev pub names_metric : Option Data → Bool
names_metric None = false
names_metric (Some d) = is_some (metric_named d)

-- `@timestamp` is a date, no dimension, and neither gauge nor counter
abbrev pub is_time : Data → Bool
is_time d = is_date_type (kind_of d) && (not (is_dimension d) && not (names_metric (metric_of d)))

abbrev pub may_be_time : Property → Bool
may_be_time p = not (bytes_eq p.path timestamp) || is_time p.value

unfoldable pub timestamp_faults : List Property → List (List ℕ)
timestamp_faults ps = all_faults (fails may_be_time) ps

abbrev pub has_role : Property → Bool
has_role p = is_some (option_and_then (λ kind. role_of kind p) (kind_of p.value))

unfoldable pub role_faults : List Property → List (List ℕ)
role_faults ps = all_faults (fails has_role) ps

-- ---- routing

unfoldable pub dimension_faults : List Field → List (List ℕ)
dimension_faults fs = fault_unless (nat_le 1 (length (dimension_paths fs))) []

-- the entries of the routing path of a body, if it has one
unfoldable pub entries_of : Data → Option (List (List ℕ))
entries_of body = option_and_then texts_of (value_of RoutingPath (settings_of body))

-- the entries that are no dimension, or stand in the list before or in `before`
abbrev pub bad_entries : List (List ℕ) → List (List ℕ) → List (List ℕ) → List (List ℕ)
bad_entries dimensions before [] = []
bad_entries dimensions before (e ∷ es) =
    fault_unless (is_among e dimensions && not (is_among e before)) e ++ bad_entries dimensions (e ∷ before) es

abbrev pub entry_faults : List (List ℕ) → Option (List (List ℕ)) → List (List ℕ)
entry_faults dimensions None = []
entry_faults dimensions (Some entries) = fault_unless (nat_le 1 (length entries)) [] ++ bad_entries dimensions [] entries

unfoldable pub routing_faults : List Field → Option (List (List ℕ)) → List (List ℕ)
routing_faults fs entries = entry_faults (dimension_paths fs) entries

-- ---- the refusal

-- the properties of a body that are fields
unfoldable pub leaves_of : Data → List Property
leaves_of body = leaves_in (properties_of body)

abbrev pub fault_at : MapKind → Option (List ℕ) → Option Fault
fault_at kind None = None
fault_at kind (Some path) = Some (record { kind = kind; path = path })

-- a look at the body: its least path at fault, where there is one
abbrev pub look : MapKind → List (List ℕ) → Option Fault
look kind faults = fault_at kind (least faults)

-- what the first look finds that finds something
abbrev pub first_of : List (Option Fault) → Option Fault
first_of [] = None
first_of (None ∷ looks) = first_of looks
first_of (Some fault ∷ looks) = Some fault

-- the ten looks at a body, in order
abbrev pub looks : Data → List (Option Fault)
looks body =
    look Shape (shape_faults body)
    ∷ look BadShards (shards_faults (shards_in body))
    ∷ look BadDynamic (dynamic_faults (strict_of body))
    ∷ look UnknownType (type_faults (leaves_of body))
    ∷ look TooManyFields (count_faults (leaves_of body))
    ∷ look PathClash (clash_faults (leaves_of body))
    ∷ look BadTimestamp (timestamp_faults (leaves_of body))
    ∷ look BadRole (role_faults (leaves_of body))
    ∷ look NoDimension (dimension_faults (fields_of (leaves_of body)))
    ∷ look BadRouting (routing_faults (fields_of (leaves_of body)) (entries_of body))
    ∷ []

-- Why a body is no template, if it is none: the first kind of fault that it has, with the least path in byte order.
unfoldable pub refusal_of : Data → Option Fault
refusal_of body = first_of (looks body)
