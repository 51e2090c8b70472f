-- The fields of a template.
use Rattle.std.specs.Prelude.{ℕ, suc, Bool, true, false, ◌&&◌, not, List, [], ◌∷◌, ◌++◌, map, codes, bytes_eq, if◌then◌else◌, Option, Some, None, option_and_then}
use Rattle.std.specs.Cmp.Lexicographic.{slice_cmp}
use Rattle.std.specs.Ordering.{nat_cmp, match_ordering}
use Rattle.serde_json.specs.Data.{Data}
use Rattle.serde_json.specs.Find.{get, as_str, as_bool}
use Rattle.row_cells.specs.declared.schemas.FieldType.{FieldType}
use Rattle.row_cells.specs.declared.schemas.FieldType.TheVariants.{Date, Keyword, Long, Integer, Short, Byte, Boolean, Aggregate}
use Rattle.row_cells.specs.declared.schemas.Role.{Role}
use Rattle.row_cells.specs.declared.schemas.Role.TheVariants.{Time, Dimension, Gauge, Counter, Label}
use Rattle.row_cells.specs.declared.schemas.Field.{Field}
use Rattle.ts_mapping.specs.Paths.{is_among, timestamp}
use Rattle.ts_mapping.specs.Roles.{is_aggregate, is_date, may_have}
use Rattle.ts_mapping.specs.Properties.{Property}
use Rattle.ts_mapping.specs.Schemas.{time_field}
use Rattle.ts_mapping.specs.Trees.{is_text}

abbrev pub kind_named : List ℕ → Option FieldType
kind_named name =
    if bytes_eq name (codes "date") then Some Date
    else (if bytes_eq name (codes "keyword") then Some Keyword
    else (if bytes_eq name (codes "long") then Some Long
    else (if bytes_eq name (codes "integer") then Some Integer
    else (if bytes_eq name (codes "short") then Some Short
    else (if bytes_eq name (codes "byte") then Some Byte
    else (if bytes_eq name (codes "boolean") then Some Boolean
    else (if bytes_eq name (codes "aggregate_metric_double") then Some Aggregate
    else None)))))))

-- the type of a property
unfoldable pub kind_of : Data → Option FieldType
kind_of d = option_and_then kind_named (option_and_then as_str (get (codes "type") d))

abbrev pub is_true : Option Bool → Bool
is_true None = false
is_true (Some b) = b

-- the property is to be a dimension
unfoldable pub is_dimension : Data → Bool
is_dimension d = is_true (option_and_then as_bool (get (codes "time_series_dimension") d))

-- the metric that a value of `time_series_metric` names
abbrev pub metric_named : Data → Option Role
metric_named d =
    if is_text (codes "gauge") d then Some Gauge
    else (if is_text (codes "counter") d then Some Counter else None)

abbrev pub metric_of : Data → Option Data
metric_of d = get (codes "time_series_metric") d

-- a role, where the type has it
abbrev pub role_if_had : FieldType → Role → Option Role
role_if_had kind role = if may_have kind role then Some role else None

-- without `time_series_metric`: a dimension where that is asked, else a label; an aggregate is always a gauge
abbrev pub plain_role : FieldType → Bool → Option Role
plain_role kind true = role_if_had kind Dimension
plain_role kind false = Some (if is_aggregate kind then Gauge else Label)

-- what a property is for, if it may be that: a dimension is no metric
abbrev pub role_by : FieldType → Bool → Option Data → Option Role
role_by kind dimension None = plain_role kind dimension
role_by kind true (Some metric) = None
role_by kind false (Some metric) = option_and_then (role_if_had kind) (metric_named metric)

-- the time is a date without any role else
abbrev pub time_role : FieldType → Bool → Option Data → Option Role
time_role kind dimension (Some metric) = None
time_role kind dimension None = if is_date kind && not dimension then Some Time else None

abbrev pub role_at : List ℕ → FieldType → Bool → Option Data → Option Role
role_at path kind dimension metric = if bytes_eq path timestamp then time_role kind dimension metric else role_by kind dimension metric

-- the role of a property of a type
unfoldable pub role_of : FieldType → Property → Option Role
role_of kind p = role_at p.path kind (is_dimension p.value) (metric_of p.value)

abbrev pub field_with : List ℕ → FieldType → Option Role → Option Field
field_with path kind None = None
field_with path kind (Some role) = Some (record { path = path; kind = kind; role = role })

abbrev pub field_by : Property → Option FieldType → Option Field
field_by p None = None
field_by p (Some kind) = field_with p.path kind (role_of kind p)

-- the field that a property is, if its type and its role are such
unfoldable pub field_of : Property → Option Field
field_of p = field_by p (kind_of p.value)

-- a field in its place by path, where it takes the place of one with its path
abbrev pub put_field : Field → List Field → List Field
put_field f [] = f ∷ []
put_field f (g ∷ gs) = match_ordering (slice_cmp nat_cmp f.path g.path) (f ∷ g ∷ gs) (f ∷ gs) (g ∷ put_field f gs)

abbrev pub put_if : Option Field → List Field → List Field
put_if None fs = fs
put_if (Some f) fs = put_field f fs

-- fields with those of some properties, ascending by path
abbrev pub with_fields : List Field → List Property → List Field
with_fields fs [] = fs
with_fields fs (p ∷ ps) = with_fields (put_if (field_of p) fs) ps

abbrev pub paths_of : List Property → List (List ℕ)
paths_of ps = map (λ p. p.path) ps

-- whether `@timestamp` is mapped
abbrev pub has_time : List Property → Bool
has_time ps = is_among timestamp (paths_of ps)

-- the field of the time, where it isn't mapped
abbrev pub added_time : List Property → List Field
added_time ps = if has_time ps then [] else time_field ∷ []

-- the fields of some properties, with `@timestamp`
unfoldable pub fields_of : List Property → List Field
fields_of ps = with_fields (added_time ps) ps

-- ---- routing

abbrev pub is_dimension_role : Role → Bool
is_dimension_role Time = false
is_dimension_role Dimension = true
is_dimension_role Gauge = false
is_dimension_role Counter = false
is_dimension_role Label = false

-- the paths of the dimensions
abbrev pub dimension_paths : List Field → List (List ℕ)
dimension_paths [] = []
dimension_paths (f ∷ fs) = (if is_dimension_role f.role then f.path ∷ [] else []) ++ dimension_paths fs

-- whether a path is among the entries of a routing path, or there are none
abbrev pub is_listed : Option (List (List ℕ)) → List ℕ → Bool
is_listed None path = true
is_listed (Some entries) path = is_among path entries

-- the places of the dimensions that are listed, counted from `place` on
abbrev pub routing_from : Option (List (List ℕ)) → ℕ → List Field → List ℕ
routing_from entries place [] = []
routing_from entries place (f ∷ fs) =
    (if is_dimension_role f.role && is_listed entries f.path then place ∷ [] else []) ++ routing_from entries (suc place) fs
