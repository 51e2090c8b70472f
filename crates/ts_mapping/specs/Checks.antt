-- What a template or a mapping in memory may be, as tests; for private clauses.
use Rattle.std.specs.Prelude.{ℕ, zero, suc, ℤ, pos, int_le, Bool, true, false, ◌&&◌, not, nat_le, nat_lt, List, [], ◌∷◌, length, map, bytes_eq, if◌then◌else◌}
use Rattle.std.specs.Cmp.Lexicographic.{slice_cmp}
use Rattle.std.specs.List.{list_all, list_any}
use Rattle.std.specs.Ordering.{nat_cmp, is_lt}
use Rattle.index_names.specs.Patterns.{is_pattern}
use Rattle.row_cells.specs.declared.schemas.Role.{Role}
use Rattle.row_cells.specs.declared.schemas.Role.TheVariants.{Time, Dimension, Gauge, Counter, Label}
use Rattle.row_cells.specs.declared.schemas.Field.{Field}
use Rattle.row_cells.specs.declared.schemas.Schema.{Schema}
use Rattle.ts_mapping.specs.Fields.{is_dimension_role}
use Rattle.ts_mapping.specs.Limits.{greatest_priority, longest_look, most_fields, most_patterns, most_shards, shortest_look}
use Rattle.ts_mapping.specs.Paths.{is_below, is_field_path, timestamp}
use Rattle.ts_mapping.specs.Roles.{is_date, may_have}
use Rattle.ts_mapping.specs.declared.templates.Mapping.{Mapping}
use Rattle.ts_mapping.specs.declared.templates.Template.{Template}

-- ---- fields

abbrev pub ascend_after : List ℕ → List Field → Bool
ascend_after below [] = true
ascend_after below (f ∷ fs) = is_lt (slice_cmp nat_cmp below f.path) && ascend_after f.path fs

abbrev pub is_time_role : Role → Bool
is_time_role Time = true
is_time_role Dimension = false
is_time_role Gauge = false
is_time_role Counter = false
is_time_role Label = false

abbrev pub are_same : Bool → Bool → Bool
are_same a b = if a then b else not b

abbrev pub is_sound_field : Field → Bool
is_sound_field f = is_field_path f.path && (may_have f.kind f.role && are_same (is_time_role f.role) (bytes_eq f.path timestamp))

abbrev pub are_sound_fields : List Field → Bool
are_sound_fields = list_all is_sound_field

abbrev pub field_paths : List Field → List (List ℕ)
field_paths = map (λ f. f.path)

-- some field lies below one of these paths
abbrev pub are_below_any : List (List ℕ) → List Field → Bool
are_below_any paths fs = list_any (λ f. list_any (is_below f.path) paths) fs

abbrev pub is_time_field : Field → Bool
is_time_field f = bytes_eq f.path timestamp && (is_date f.kind && is_time_role f.role)

abbrev pub has_time_field : List Field → Bool
has_time_field fs = list_any is_time_field fs

-- ---- routing

abbrev pub places_ascend : ℕ → ℕ → List ℕ → Bool
places_ascend least count [] = true
places_ascend least count (p ∷ ps) = nat_le least p && (nat_lt p count && places_ascend (suc p) count ps)

abbrev pub is_dimension_at : List Field → ℕ → Bool
is_dimension_at [] place = false
is_dimension_at (f ∷ fs) zero = is_dimension_role f.role
is_dimension_at (f ∷ fs) (suc place) = is_dimension_at fs place

abbrev pub are_dimensions_at : List Field → List ℕ → Bool
are_dimensions_at fs places = list_all (is_dimension_at fs) places

-- ---- the whole

abbrev pub are_fields : List Field → Bool
are_fields fs = ascend_after [] fs && (are_sound_fields fs && (not (are_below_any (field_paths fs) fs) && (has_time_field fs && nat_le (length fs) most_fields)))

abbrev pub are_routing : List Field → List ℕ → Bool
are_routing fs places = are_dimensions_at fs places && (places_ascend 0 (length fs) places && nat_le 1 (length places))

abbrev pub is_schema : Schema → Bool
is_schema schema = are_fields schema.fields && are_routing schema.fields schema.routing

abbrev pub are_shards : ℕ → Bool
are_shards shards = nat_le 1 shards && nat_le shards most_shards

abbrev pub is_look : ℤ → Bool
is_look look = int_le (pos shortest_look) look && int_le look (pos longest_look)

abbrev pub is_in_range : Template → Bool
is_in_range t =
    list_all is_pattern t.patterns && (nat_le 1 (length t.patterns) && (nat_le (length t.patterns) most_patterns
    && (nat_le t.priority greatest_priority && (are_shards t.shards && (is_look t.look_back && is_look t.look_ahead)))))

abbrev pub is_mapping : Mapping → Bool
is_mapping m = are_shards m.shards && is_schema m.schema

abbrev pub is_template : Template → Bool
is_template t = is_in_range t && (not t.schema.folded && (t.schema.rises && is_schema t.schema))
