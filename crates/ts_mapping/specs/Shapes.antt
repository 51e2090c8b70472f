-- The shape of a template's body.
use Rattle.std.specs.Prelude.{ℕ, ◌==◌, Bool, true, false, ◌&&◌, nat_le, List, [], ◌∷◌, ◌++◌, length, codes, if◌then◌else◌, Option, Some, None, option_and_then, is_some, is_none}
use Rattle.std.specs.List.{list_all}
use Rattle.serde_json.specs.Data.{Data}
use Rattle.serde_json.specs.Find.{get, as_u64, as_number}
use Rattle.index_names.specs.Patterns.{is_pattern}
use Rattle.row_cells.specs.declared.schemas.FieldType.{FieldType}
use Rattle.json_walk.specs.Shapes.{is_object, texts_of}
use Rattle.ts_mapping.specs.Fields.{kind_of}
use Rattle.ts_mapping.specs.Least.{all_faults, fault_unless, under}
use Rattle.ts_mapping.specs.Limits.{greatest_priority, most_patterns}
use Rattle.ts_mapping.specs.Paths.{is_among, is_field_path}
use Rattle.ts_mapping.specs.Properties.{Placed, mappings_of, properties_of}
use Rattle.ts_mapping.specs.Roles.{is_aggregate}
use Rattle.ts_mapping.specs.Settings.{settings_faults, settings_of}
use Rattle.ts_mapping.specs.Trees.{has_to_be, is_empty_list, is_flag, is_text, may_be, member_of, unknown_in}

-- ---- the members of the body

abbrev pub checked_patterns : List (List ℕ) → Option (List (List ℕ))
checked_patterns ps = if nat_le 1 (length ps) && (nat_le (length ps) most_patterns && list_all is_pattern ps) then Some ps else None

-- the patterns of a body: a pattern or a list of 1 to 16
unfoldable pub patterns_of : Data → Option (List (List ℕ))
patterns_of body = option_and_then checked_patterns (option_and_then texts_of (get (codes "index_patterns") body))

abbrev pub in_priority : ℕ → Option ℕ
in_priority n = if nat_le n greatest_priority then Some n else None

abbrev pub given_priority : Option Data → Option ℕ
given_priority None = Some 0
given_priority (Some d) = option_and_then in_priority (option_and_then as_u64 (as_number d))

-- the priority of a body: 0 where it isn't given, a whole number below 2^31
unfoldable pub priority_of : Data → Option ℕ
priority_of body = given_priority (get (codes "priority") body)

abbrev pub body_names : List (List ℕ)
body_names =
    codes "_meta" ∷ codes "composed_of" ∷ codes "data_stream" ∷ codes "index_patterns" ∷ codes "priority" ∷ codes "template"
    ∷ codes "version" ∷ []

unfoldable pub names_faults : Data → List (List ℕ)
names_faults body = fault_unless (is_object body) [] ++ unknown_in body_names None body

unfoldable pub stream_faults : Data → List (List ℕ)
stream_faults body =
    fault_unless (is_some (patterns_of body)) (codes "index_patterns")
    ++ fault_unless (has_to_be is_object (get (codes "data_stream") body)) (codes "data_stream")

unfoldable pub choice_faults : Data → List (List ℕ)
choice_faults body =
    fault_unless (is_some (priority_of body)) (codes "priority")
    ++ fault_unless (may_be is_empty_list (get (codes "composed_of") body)) (codes "composed_of")

-- the members of the body at fault, but for what is inside `template`
abbrev pub body_faults : Data → List (List ℕ)
body_faults body = names_faults body ++ stream_faults body ++ choice_faults body

-- ---- the members of `template` and of `mappings`

abbrev pub unknown_at : List (List ℕ) → List ℕ → Option Data → List (List ℕ)
unknown_at known place None = []
unknown_at known place (Some d) = unknown_in known (Some place) d

abbrev pub template_names : List (List ℕ)
template_names = codes "mappings" ∷ codes "settings" ∷ []

abbrev pub mappings_names : List (List ℕ)
mappings_names = codes "dynamic" ∷ codes "properties" ∷ []

unfoldable pub template_member_faults : Data → List (List ℕ)
template_member_faults body =
    fault_unless (has_to_be is_object (get (codes "template") body)) (codes "template")
    ++ unknown_at template_names (codes "template") (get (codes "template") body)
    ++ fault_unless (has_to_be is_object (member_of (codes "settings") (get (codes "template") body))) (codes "template.settings")

unfoldable pub mappings_faults : Data → List (List ℕ)
mappings_faults body =
    fault_unless (may_be is_object (mappings_of body)) (codes "template.mappings")
    ++ unknown_at mappings_names (codes "template.mappings") (mappings_of body)
    ++ fault_unless (may_be is_object (member_of (codes "properties") (mappings_of body))) (codes "template.mappings.properties")

-- the members of `template` and `mappings` at fault, but for settings and properties
abbrev pub template_faults : Data → List (List ℕ)
template_faults body = template_member_faults body ++ mappings_faults body

-- ---- properties

abbrev pub level_names : List (List ℕ)
level_names = codes "properties" ∷ codes "type" ∷ []

-- a level of properties, whose type, if it has one, is `object`
unfoldable pub level_faults : List ℕ → Data → List (List ℕ)
level_faults place d =
    unknown_in level_names (Some place) d
    ++ fault_unless (may_be (is_text (codes "object")) (get (codes "type") d)) (under place (codes "type"))
    ++ fault_unless (may_be is_object (get (codes "properties") d)) (under place (codes "properties"))

abbrev pub field_names : List (List ℕ)
field_names =
    codes "default_metric" ∷ codes "meta" ∷ codes "metrics" ∷ codes "time_series_dimension" ∷ codes "time_series_metric"
    ∷ codes "type" ∷ []

abbrev pub are_all_metrics : Option (List (List ℕ)) → Bool
are_all_metrics None = false
are_all_metrics (Some names) =
    (length names == 4) && (is_among (codes "max") names && (is_among (codes "min") names
    && (is_among (codes "sum") names && is_among (codes "value_count") names)))

abbrev pub is_aggregate_type : Option FieldType → Bool
is_aggregate_type None = false
is_aggregate_type (Some kind) = is_aggregate kind

-- `metrics` and `default_metric` stand in aggregates, and only there: all four metrics in any order, and `max`
abbrev pub metrics_formed : Bool → Option Data → Bool
metrics_formed true metrics = are_all_metrics (option_and_then texts_of metrics)
metrics_formed false metrics = is_none metrics

abbrev pub default_formed : Bool → Option Data → Bool
default_formed true metric = has_to_be (is_text (codes "max")) metric
default_formed false metric = is_none metric

unfoldable pub member_faults : List ℕ → Data → List (List ℕ)
member_faults place d =
    unknown_in field_names (Some place) d
    ++ fault_unless (is_some (get (codes "type") d)) (under place (codes "type"))
    ++ fault_unless (may_be is_flag (get (codes "time_series_dimension") d)) (under place (codes "time_series_dimension"))

unfoldable pub aggregate_faults : List ℕ → Data → List (List ℕ)
aggregate_faults place d =
    fault_unless (metrics_formed (is_aggregate_type (kind_of d)) (get (codes "metrics") d)) (under place (codes "metrics"))
    ++ fault_unless (default_formed (is_aggregate_type (kind_of d)) (get (codes "default_metric") d)) (under place (codes "default_metric"))

-- a field, of whatever type
abbrev pub field_faults : List ℕ → Data → List (List ℕ)
field_faults place d = member_faults place d ++ aggregate_faults place d

abbrev pub value_faults : List ℕ → Data → List (List ℕ)
value_faults place d =
    if is_object d
    then (if is_some (get (codes "properties") d) then level_faults place d else field_faults place d)
    else place ∷ []

-- a property is at fault where its path is one that no field may have, or its value is ill-formed
unfoldable pub property_faults : Placed → List (List ℕ)
property_faults p = fault_unless (is_field_path p.property.path) p.place ++ value_faults p.place p.property.value

-- all places of a body that are ill-formed
unfoldable pub shape_faults : Data → List (List ℕ)
shape_faults body =
    body_faults body ++ template_faults body ++ settings_faults (settings_of body) ++ all_faults property_faults (properties_of body)
