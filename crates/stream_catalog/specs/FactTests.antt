-- Tests that tell which facts are sound, next to those of templates and mappings, which ts_mapping has; and which names are well
-- formed, next to that of origins, which index_names has.
use Rattle.std.specs.Prelude.{ℕ, ℤ, pos, int_le, int_lt, nat_le, nat_lt, ◌==◌, Bool, true, false, not, ◌&&◌, ◌||◌, List, [], ◌∷◌, map, length, bytes_eq, Option, Some, None}
use Rattle.std.specs.List.{list_all, flat_map}
use Rattle.std.specs.Option.{is_some, is_none}
use Rattle.std.specs.Ordering.{is_lt, nat_cmp}
use Rattle.std.specs.Cmp.Lexicographic.{slice_cmp}
use Rattle.edge_face.specs.Limits.{last_instant}
use Rattle.row_cells.specs.declared.schemas.Field.{Field}
use Rattle.row_cells.specs.declared.schemas.Schema.{Schema}
use Rattle.time_text.specs.declared.intervals.Interval.{Interval}
use Rattle.downsample_fold.specs.Intervals.{interval_fault}
use Rattle.index_names.specs.Backing.{greatest_generation}
use Rattle.index_names.specs.Names.{is_stream_name, is_target_name, is_index_name}
use Rattle.lifecycle_swap.specs.Lifecycles.{is_lifecycle}
use Rattle.lifecycle_swap.specs.declared.lifecycles.Lifecycle.{Lifecycle}
use Rattle.ts_mapping.specs.Agreeing.{is_other_field}
use Rattle.stream_catalog.specs.declared.facts.HeldIndex.{HeldIndex}
use Rattle.stream_catalog.specs.Plain.{PlainStream, PlainCatalog, PlainFacts}
use Rattle.stream_catalog.specs.Lists.{template_name, stream_name, facts_name, template_named, facts_named}
use Rattle.stream_catalog.specs.Limits.{most_templates, most_streams, most_indices}
use Rattle.stream_catalog.specs.Names.{names_of}
use Rattle.stream_catalog.specs.Sound.{times, Form, form_of, template_form}

abbrev pub is_instant : ℤ → Bool
is_instant t = int_le (pos 0) t && int_le t last_instant

-- ---- each index, stream and task

abbrev pub is_kind : Option Interval → Bool → Schema → Bool
is_kind None blocked schema = not schema.folded && schema.rises
is_kind (Some by) blocked schema = schema.folded && blocked

abbrev pub is_held : PlainFacts → HeldIndex → Bool
is_held f i = is_instant i.start && (is_instant i.end && (int_lt i.start i.end && (is_kind i.interval i.blocked i.mapping.schema && is_some (template_named i.template f.templates))))

abbrev pub is_member_of : List ℕ → Option HeldIndex → Bool
is_member_of template None = false
is_member_of template (Some i) = bytes_eq i.template template

abbrev pub ends_before : Option HeldIndex → Option HeldIndex → Bool
ends_before None b = false
ends_before (Some a) None = false
ends_before (Some a) (Some b) = int_le a.end b.start

abbrev pub windows_follow : List (Option HeldIndex) → Bool
windows_follow [] = true
windows_follow (a ∷ []) = true
windows_follow (a ∷ b ∷ rest) = ends_before a b && windows_follow (b ∷ rest)

abbrev pub is_life : Option Lifecycle → Bool
is_life None = true
is_life (Some life) = is_lifecycle life

abbrev pub is_stream_sound : PlainFacts → PlainStream → Bool
is_stream_sound f s =
    nat_le s.facts.generation greatest_generation && (is_life s.life && (is_some (template_named s.facts.template f.templates) && (nat_lt 0 (length s.facts.members)
    && (list_all (λ m. is_member_of s.facts.template (facts_named m f.indices)) s.facts.members && windows_follow (map (λ m. facts_named m f.indices) s.facts.members)))))

abbrev pub is_same : Bool → Bool → Bool
is_same true b = b
is_same false b = not b

abbrev pub keeps_mark : Option Interval → Bool → Bool → Bool
keeps_mark None had rises = true
keeps_mark (Some by) had rises = is_same rises had

abbrev pub is_task_of : Interval → Bool → Option HeldIndex → Bool
is_task_of by rises None = false
is_task_of by rises (Some i) = (i.blocked && is_none (interval_fault i.interval by)) && keeps_mark i.interval i.mapping.schema.rises rises

-- ---- all together

abbrev pub fields_agree : List Field → List Field → Bool
fields_agree fs gs = list_all (λ f. list_all (λ g. not (is_other_field f g)) gs) fs

abbrev pub agrees : Form → Form → Bool
agrees a b = not (bytes_eq a.template b.template) || fields_agree a.fields b.fields

abbrev pub all_agree : List Form → List Form → Bool
all_agree xs ys = list_all (λ x. list_all (agrees x) ys) xs

abbrev pub keys_ascend : List (List ℕ) → Bool
keys_ascend [] = true
keys_ascend (n ∷ ns) = list_all (λ m. is_lt (slice_cmp nat_cmp n m)) ns && keys_ascend ns

abbrev pub are_once : List (List ℕ) → Bool
are_once [] = true
are_once (n ∷ ns) = (times n ns == 0) && are_once ns

abbrev pub are_each_sound : PlainFacts → Bool
are_each_sound f = list_all (is_held f) f.indices && (list_all (is_stream_sound f) f.streams && list_all (λ t. is_task_of t.by t.rises (facts_named t.index f.indices)) f.tasks)

abbrev pub do_forms_agree : PlainFacts → Bool
do_forms_agree f = all_agree (map form_of f.indices) (map form_of f.indices) && all_agree (map form_of f.indices) (map template_form f.templates)

abbrev pub do_lists_ascend : PlainFacts → Bool
do_lists_ascend f = keys_ascend (map template_name f.templates) && (keys_ascend (map stream_name f.streams) && keys_ascend (map facts_name f.indices))

abbrev pub are_names_once : PlainFacts → Bool
are_names_once f = are_once (names_of f) && (are_once (flat_map (λ s. s.facts.members) f.streams) && are_once (map (λ t. t.index) f.tasks))

abbrev pub are_few : PlainFacts → Bool
are_few f = nat_le (length f.templates) most_templates && (nat_le (length f.streams) most_streams && nat_le (length f.indices) most_indices)

abbrev pub are_facts_sound : PlainFacts → Bool
are_facts_sound f = are_each_sound f && (do_forms_agree f && (do_lists_ascend f && (are_names_once f && are_few f)))

-- ---- names

abbrev pub are_well_named : PlainCatalog → Bool
are_well_named c =
    list_all (λ t. is_stream_name (template_name t)) c.templates && (list_all (λ s. is_stream_name (stream_name s)) c.streams
    && (list_all (λ i. is_index_name i.facts.name) c.indices && list_all (λ t. is_target_name t.target) c.tasks))
