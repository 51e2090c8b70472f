-- The looks at a body as the code groups them; for private clauses.
use Rattle.std.specs.Prelude.{ℕ, Bool, List, [], ◌∷◌, ◌++◌, Option}
use Rattle.serde_json.specs.Data.{Data}
use Rattle.row_cells.specs.declared.schemas.Field.{Field}
use Rattle.ts_mapping.specs.Faults.{clash_faults, count_faults, dimension_faults, dynamic_faults, entries_of, has_role, is_typed, leaves_of, look, may_be_time, role_faults, routing_faults, shards_faults, shards_in, strict_of, timestamp_faults, type_faults}
use Rattle.ts_mapping.specs.Fields.{fields_of}
use Rattle.ts_mapping.specs.Properties.{Property}
use Rattle.ts_mapping.specs.declared.faults.Fault.{Fault}
use Rattle.ts_mapping.specs.declared.kinds.MapKind.TheVariants.{BadShards, BadDynamic, UnknownType, TooManyFields, PathClash, BadTimestamp, BadRole, NoDimension, BadRouting}
use Rattle.ts_mapping.specs.declared.looks.Demand.{Demand}
use Rattle.ts_mapping.specs.declared.looks.Demand.TheVariants.{IsTyped, MayBeTime, HasRole}

abbrev pub passes : Demand → Property → Bool
passes IsTyped p = is_typed p
passes MayBeTime p = may_be_time p
passes HasRole p = has_role p

-- the looks at the number of shards, at `dynamic`, and at the types and the number of the fields
abbrev pub type_looks : Option ℕ → Option Bool → List Property → List (Option Fault)
type_looks shards strict ps =
    look BadShards (shards_faults shards) ∷ look BadDynamic (dynamic_faults strict) ∷ look UnknownType (type_faults ps)
    ∷ look TooManyFields (count_faults ps) ∷ []

-- the looks at paths and roles
abbrev pub field_looks : List Property → List (Option Fault)
field_looks ps =
    look PathClash (clash_faults ps) ∷ look BadTimestamp (timestamp_faults ps) ∷ look BadRole (role_faults ps) ∷ []

-- the looks at dimensions and routing
abbrev pub routing_looks : List Field → Option (List (List ℕ)) → List (Option Fault)
routing_looks fs entries = look NoDimension (dimension_faults fs) ∷ look BadRouting (routing_faults fs entries) ∷ []

-- the looks after that at the shape, early and late
abbrev pub early_looks : Data → List (Option Fault)
early_looks body = type_looks (shards_in body) (strict_of body) (leaves_of body)

abbrev pub late_looks : Data → List (Option Fault)
late_looks body = field_looks (leaves_of body) ++ routing_looks (fields_of (leaves_of body)) (entries_of body)
