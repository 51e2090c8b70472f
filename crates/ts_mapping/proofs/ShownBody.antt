-- A body that shows a template is refused by no look, and gives the template.
use Rattle.std.proofs.Common.{◌≡◌, ◌≤◌, ◌+◌, ◌-◌, ◌*◌, ℕ, ℤ, pos, List, [], ◌∷◌, ◌++◌, Bool, true, false, cond, Option, Some, None, length, map, nat_le, refl, sym, ap, ap₂, ◌∙◌, subst, arith}
use Rattle.std.specs.Prelude.{codes, is_some, option_and_then, unwrap_or}
use Rattle.std.specs.List.{list_all}
use Rattle.std.proofs.lemmas.Bool.{le-leb}
use Rattle.serde_json.specs.Data.{Data, number, array, object, unsigned, Items, Members}
use Rattle.index_names.specs.Patterns.{is_pattern}
use Rattle.row_cells.specs.declared.schemas.Field.{Field}
use Rattle.row_cells.specs.declared.schemas.Schema.{Schema}
use Rattle.row_cells.specs.Mapped.{PlacesAscendFrom}
use Rattle.time_text.specs.IntervalLaws.{reads_back}
use Rattle.time_text.specs.Unit.{unit_ms}
use Rattle.time_text.specs.declared.units.Unit.TheVariants.{Ms}
use Rattle.json_walk.specs.Shapes.{texts_in}
use Rattle.time_text.specs.ShapeLaws.{both_true}
use Rattle.ts_mapping.specs.Checks.{field_paths}
use Rattle.ts_mapping.specs.Facts.{IsTemplate}
use Rattle.ts_mapping.specs.Faults.{bad_entries, below_fault, clash_faults, count_faults, dimension_faults, dynamic_faults, entries_of, first_of, leaves_of, look, number_of_fields, refusal_of, repeated, role_faults, routing_faults, shards_faults, shards_in, strict_of, timestamp_faults, type_faults}
use Rattle.ts_mapping.specs.Fields.{dimension_paths, fields_of, has_time, routing_from, with_fields}
use Rattle.ts_mapping.specs.Laws.{TemplatesHaveBodies}
use Rattle.ts_mapping.specs.Least.{all_faults, fault_unless}
use Rattle.ts_mapping.specs.Limits.{greatest_priority, longest_look, most_fields, most_patterns, most_shards, shortest_look}
use Rattle.ts_mapping.specs.Paths.{is_among, timestamp}
use Rattle.ts_mapping.specs.Properties.{leaves_in, properties_of}
use Rattle.ts_mapping.specs.Schemas.{AreTemplateFields, time_field}
use Rattle.ts_mapping.specs.Settings.{in_look, in_shards, is_known, is_named, look_of, settings_faults, settings_of}
use Rattle.ts_mapping.specs.Shapes.{body_faults, checked_patterns, choice_faults, mappings_faults, names_faults, patterns_of, priority_of, property_faults, shape_faults, stream_faults, template_faults, template_member_faults}
use Rattle.ts_mapping.specs.Templates.{look_at, schema_of, schema_with, template_of}
use Rattle.ts_mapping.specs.declared.faults.Fault.{Fault}
use Rattle.ts_mapping.specs.declared.kinds.MapKind.{MapKind}
use Rattle.ts_mapping.specs.declared.kinds.MapKind.TheVariants.{Shape, BadShards, BadDynamic, UnknownType, TooManyFields, PathClash, BadTimestamp, BadRole, NoDimension, BadRouting}
use Rattle.ts_mapping.specs.declared.settings.Key.TheVariants.{LookAhead, LookBack}
use Rattle.ts_mapping.specs.declared.templates.Template.{Template}
use Rattle.ts_mapping.proofs.Shown.{leaf_of, look_text, placed_at, shown_body, shown_fields, shown_settings, shown_strict, shown_texts, texts_back}
use Rattle.ts_mapping.proofs.ShownFields.{AreRouted, all_leaves, all_listed, all_put, entries_from, leaf_count, leaf_paths, none_bad, none_below, none_formed, none_repeated, none_untimely, none_untyped, none_without_role, routed_first, routes_back, some_dimension, some_entries}
use Rattle.ts_mapping.proofs.Tested.{in_paths}

none_both : (ps qs : List (List ℕ)) → ps ≡ [] → qs ≡ [] → ps ++ qs ≡ []
none_both ps qs first second = ap₂ (λ xs ys. xs ++ ys) first second

-- ---- values

shards_read : (n : ℕ) → (1 ≤ n) × (n ≤ most_shards) → in_shards n ≡ Some n
shards_read n is = ap (λ b. cond b (Some n) None) (both_true (nat_le 1 n) (nat_le n most_shards) (le-leb 1 n is.0) (le-leb n most_shards is.1))

look_within : (n : ℕ) → shortest_look ≤ n → n ≤ longest_look → in_look n ≡ Some (pos n)
look_within n low high = ap (λ b. cond b (Some (pos n)) None) (both_true (nat_le shortest_look n) (nat_le n longest_look) (le-leb shortest_look n low) (le-leb n longest_look high))

look_read : (n : ℕ) → shortest_look ≤ n → n ≤ longest_look → look_of (look_text n) ≡ Some (pos n)
look_read n low high =
    let once : n * 1 ≡ n = omega arith in
    ap (option_and_then (λ i. in_look (i.0 * unit_ms i.1))) (reads_back n Ms (omega (arith, low), omega (arith, high)))
    ∙ (ap in_look once ∙ look_within n low high)

-- ---- a body of which the values are known

abbrev Shown : Items → ℕ → Items → ℕ → ℕ → ℕ → Bool → Members → Data
Shown patterns priority routing shards back ahead strict fields =
    shown_body (array patterns) (number (unsigned priority)) (shown_settings (array routing) (number (unsigned shards)) (look_text back) (look_text ahead)) (shown_strict strict) (object fields)

three_none : (a b c : Bool) (p q r : List ℕ) → a ≡ true → b ≡ true → c ≡ true → (((((fault_unless a p ++ []) ++ []) ++ (fault_unless b q ++ [])) ++ (fault_unless c r ++ [])) ++ []) ++ [] ≡ []
three_none true true true p q r x y z = refl
three_none false b c p q r x y z = cc
three_none true false c p q r x y z = cc
three_none true true false p q r x y z = cc

module _ (patterns : Items) (priority : ℕ) (routing : Items) (shards back ahead : ℕ) (strict : Bool) (fields : Members) where
  abbrev body : Data
  body = Shown patterns priority routing shards back ahead strict fields

  names_none : names_faults body ≡ []
  unfolding names_faults
  names_none = refl

  stream_none : (ps : List (List ℕ)) → patterns_of body ≡ Some ps → stream_faults body ≡ []
  unfolding stream_faults
  stream_none ps is = ap (λ o. fault_unless (is_some o) (codes "index_patterns") ++ []) is

  choice_none : (n : ℕ) → priority_of body ≡ Some n → choice_faults body ≡ []
  unfolding choice_faults
  choice_none n is = ap (λ o. fault_unless (is_some o) (codes "priority") ++ []) is

  members_none : template_member_faults body ≡ []
  unfolding template_member_faults
  members_none = refl

  mappings_none : mappings_faults body ≡ []
  unfolding mappings_faults
  mappings_none = refl

  settings_none : is_some (texts_in routing) ≡ true → is_some (look_of (look_text back)) ≡ true → is_some (look_of (look_text ahead)) ≡ true → settings_faults (settings_of body) ≡ []
  unfolding settings_faults settings_of is_known is_named
  settings_none x y z = three_none (is_some (texts_in routing)) (is_some (look_of (look_text back))) (is_some (look_of (look_text ahead))) _ _ _ x y z

  priority_given : priority ≤ greatest_priority → priority_of body ≡ Some priority
  unfolding priority_of
  priority_given small = ap (λ b. cond b (Some priority) None) (le-leb priority greatest_priority small)

  shards_given : (1 ≤ shards) × (shards ≤ most_shards) → shards_in body ≡ Some shards
  unfolding shards_in settings_of is_named
  shards_given is = shards_read shards is

  entries_given : (es : List (List ℕ)) → texts_in routing ≡ Some es → entries_of body ≡ Some es
  unfolding entries_of settings_of is_named
  entries_given es is = is

  back_given : (usual : ℤ) → look_at LookBack usual (settings_of body) ≡ unwrap_or (look_of (look_text back)) usual
  unfolding settings_of is_named
  back_given usual = refl

  ahead_given : (usual : ℤ) → look_at LookAhead usual (settings_of body) ≡ unwrap_or (look_of (look_text ahead)) usual
  unfolding settings_of is_named
  ahead_given usual = refl

  patterns_given : (ps : List (List ℕ)) → texts_in patterns ≡ Some ps → patterns_of body ≡ checked_patterns ps
  unfolding patterns_of
  patterns_given ps is = ap (option_and_then checked_patterns) is

strict_given : (patterns : Items) (priority : ℕ) (routing : Items) (shards back ahead : ℕ) (strict : Bool) (fields : Members) → strict_of (Shown patterns priority routing shards back ahead strict fields) ≡ Some strict
unfolding strict_of
strict_given patterns priority routing shards back ahead true fields = refl
strict_given patterns priority routing shards back ahead false fields = refl

properties_given : (patterns : Items) (priority : ℕ) (routing : Items) (shards back ahead : ℕ) (strict : Bool) (fs : List Field) → AreTemplateFields fs → properties_of (Shown patterns priority routing shards back ahead strict (shown_fields fs)) ≡ map (placed_at (codes "template.mappings.properties")) fs
unfolding properties_of
properties_given patterns priority routing shards back ahead strict fs are = all_listed (codes "template.mappings.properties") fs are

-- ---- looks that find nothing

look_none : (kind : MapKind) (faults : List (List ℕ)) → faults ≡ [] → look kind faults ≡ None
look_none kind faults is = ap (look kind) is

none_first : (o : Option Fault) (os : List (Option Fault)) → o ≡ None → first_of os ≡ None → first_of (o ∷ os) ≡ None
none_first o os is rest = ap (λ o. first_of (o ∷ os)) is ∙ rest

-- ---- a template

module _ (t : Template) (is : IsTemplate t) where
  abbrev all : List Field
  all = t.schema.fields

  abbrev routes : List ℕ
  routes = t.schema.routing

  abbrev entries : List (List ℕ)
  entries = entries_from 0 all routes

  abbrev back_ms : ℕ
  back_ms = is.ranges.look_back.ms

  abbrev ahead_ms : ℕ
  ahead_ms = is.ranges.look_ahead.ms

  abbrev own : Data
  own = Shown (shown_texts t.patterns) t.priority (shown_texts entries) t.shards back_ms ahead_ms t.strict (shown_fields all)

  own_patterns : patterns_of own ≡ Some t.patterns
  own_patterns =
      patterns_given (shown_texts t.patterns) t.priority (shown_texts entries) t.shards back_ms ahead_ms t.strict (shown_fields all) t.patterns (texts_back t.patterns)
      ∙ ap (λ b. cond b (Some t.patterns) None)
      (both_true (nat_le 1 (length t.patterns)) _ (le-leb 1 (length t.patterns) is.ranges.some)
      (both_true (nat_le (length t.patterns) most_patterns) (list_all is_pattern t.patterns) (le-leb (length t.patterns) most_patterns is.ranges.few) is.ranges.patterns))

  own_priority : priority_of own ≡ Some t.priority
  own_priority = priority_given (shown_texts t.patterns) t.priority (shown_texts entries) t.shards back_ms ahead_ms t.strict (shown_fields all) is.ranges.priority

  own_shards : shards_in own ≡ Some t.shards
  own_shards = shards_given (shown_texts t.patterns) t.priority (shown_texts entries) t.shards back_ms ahead_ms t.strict (shown_fields all) is.ranges.shards

  own_strict : strict_of own ≡ Some t.strict
  own_strict = strict_given (shown_texts t.patterns) t.priority (shown_texts entries) t.shards back_ms ahead_ms t.strict (shown_fields all)

  own_entries : entries_of own ≡ Some entries
  own_entries = entries_given (shown_texts t.patterns) t.priority (shown_texts entries) t.shards back_ms ahead_ms t.strict (shown_fields all) entries (texts_back entries)

  own_properties : properties_of own ≡ map (placed_at (codes "template.mappings.properties")) all
  own_properties = properties_given (shown_texts t.patterns) t.priority (shown_texts entries) t.shards back_ms ahead_ms t.strict all is.schema.fields

  own_leaves : leaves_of own ≡ map leaf_of all
  unfolding leaves_of
  own_leaves = ap leaves_in own_properties ∙ all_leaves (codes "template.mappings.properties") all is.schema.fields

  back_read : look_of (look_text back_ms) ≡ Some (pos back_ms)
  back_read = look_read back_ms is.ranges.look_back.least is.ranges.look_back.most

  ahead_read : look_of (look_text ahead_ms) ≡ Some (pos ahead_ms)
  ahead_read = look_read ahead_ms is.ranges.look_ahead.least is.ranges.look_ahead.most

  own_settings : settings_faults (settings_of own) ≡ []
  own_settings =
      settings_none (shown_texts t.patterns) t.priority (shown_texts entries) t.shards back_ms ahead_ms t.strict (shown_fields all)
      (ap is_some (texts_back entries)) (ap is_some back_read) (ap is_some ahead_read)

  own_shape : shape_faults own ≡ []
  unfolding shape_faults
  own_shape =
      none_both (body_faults own ++ template_faults own ++ settings_faults (settings_of own)) _
      (none_both (body_faults own ++ template_faults own) (settings_faults (settings_of own))
      (none_both (body_faults own) (template_faults own)
      (none_both (names_faults own ++ stream_faults own) (choice_faults own)
      (none_both (names_faults own) (stream_faults own)
      (names_none (shown_texts t.patterns) t.priority (shown_texts entries) t.shards back_ms ahead_ms t.strict (shown_fields all))
      (stream_none (shown_texts t.patterns) t.priority (shown_texts entries) t.shards back_ms ahead_ms t.strict (shown_fields all) t.patterns own_patterns))
      (choice_none (shown_texts t.patterns) t.priority (shown_texts entries) t.shards back_ms ahead_ms t.strict (shown_fields all) t.priority own_priority))
      (none_both (template_member_faults own) (mappings_faults own)
      (members_none (shown_texts t.patterns) t.priority (shown_texts entries) t.shards back_ms ahead_ms t.strict (shown_fields all))
      (mappings_none (shown_texts t.patterns) t.priority (shown_texts entries) t.shards back_ms ahead_ms t.strict (shown_fields all))))
      own_settings)
      (ap (all_faults property_faults) own_properties ∙ none_formed (codes "template.mappings.properties") all is.schema.fields)

  -- the fields
  own_time : has_time (map leaf_of all) ≡ true
  own_time = ap (is_among timestamp) (leaf_paths all) ∙ in_paths time_field all is.schema.timed

  own_fields : fields_of (map leaf_of all) ≡ all
  unfolding fields_of
  own_fields =
      ap (λ b. with_fields (cond b [] (time_field ∷ [])) (map leaf_of all)) own_time
      ∙ all_put [] [] all tt is.schema.mapped.ascending is.schema.fields

  own_count : number_of_fields (map leaf_of all) ≤ most_fields
  own_count = subst (λ n. n ≤ most_fields) (sym (ap (λ b. cond b (length (map leaf_of all)) (length (map leaf_of all) + 1)) own_time ∙ leaf_count all)) is.schema.few

  types_none : type_faults (map leaf_of all) ≡ []
  unfolding type_faults
  types_none = none_untyped all is.schema.fields

  count_none : count_faults (map leaf_of all) ≡ []
  unfolding count_faults
  count_none = ap (λ b. fault_unless b []) (le-leb (number_of_fields (map leaf_of all)) most_fields own_count)

  clash_none : clash_faults (map leaf_of all) ≡ []
  unfolding clash_faults
  clash_none =
      ap (λ qs. repeated [] qs ++ all_faults (below_fault (timestamp ∷ qs)) qs) (leaf_paths all)
      ∙ none_both (repeated [] (field_paths all)) (all_faults (below_fault (timestamp ∷ field_paths all)) (field_paths all))
      (none_repeated [] [] all tt is.schema.mapped.ascending) (none_below all (field_paths all) is.schema.apart is.schema.timed (λ q among. among))

  times_none : timestamp_faults (map leaf_of all) ≡ []
  unfolding timestamp_faults
  times_none = none_untimely all is.schema.fields

  roles_none : role_faults (map leaf_of all) ≡ []
  unfolding role_faults
  roles_none = none_without_role all is.schema.fields

  dimensions_none : (rs : List ℕ) → rs ≡ routes → dimension_faults all ≡ []
  unfolding dimension_faults
  dimensions_none [] same = absurd (omega (arith, ap length same, is.schema.routed))
  dimensions_none (r ∷ rs) same =
      let routed = subst (λ ps. AreRouted 0 all ps) (sym same) (routed_first all routes is.schema.mapped.routing) in
      ap (λ b. fault_unless b []) (le-leb 1 (length (dimension_paths all)) (some_dimension all (r - 0) routed.1))

  routing_none : (rs : List ℕ) → rs ≡ routes → routing_faults all (Some (entries_from 0 all rs)) ≡ []
  unfolding routing_faults
  routing_none [] same = absurd (omega (arith, ap length same, is.schema.routed))
  routing_none (r ∷ rs) same =
      let routed = subst (λ ps. AreRouted 0 all ps) (sym same) (routed_first all routes is.schema.mapped.routing) in
      let places = subst (λ ps. PlacesAscendFrom 0 (length all) ps) (sym same) is.schema.routing_ascends in
      none_both (fault_unless (nat_le 1 (length (entries_from 0 all (r ∷ rs)))) []) (bad_entries (dimension_paths all) [] (entries_from 0 all (r ∷ rs)))
      (ap (λ b. fault_unless b []) (le-leb 1 (length (entries_from 0 all (r ∷ rs))) (some_entries 0 0 (length all) all r rs (omega arith) places routed)))
      (none_bad (dimension_paths all) [] [] 0 0 (length all) all (r ∷ rs) (λ q among. among) tt is.schema.mapped.ascending (omega arith) places routed)

  routes_same : routing_from (Some entries) 0 all ≡ routes
  routes_same =
      routes_back entries [] [] 0 0 (length all) all routes (λ q. refl) tt is.schema.mapped.ascending (omega arith) is.schema.routing_ascends
      (routed_first all routes is.schema.mapped.routing)

  own_refusal : refusal_of own ≡ None
  unfolding refusal_of
  own_refusal =
      let leaves = own_leaves in
      let fields : fields_of (leaves_of own) ≡ all = ap fields_of own_leaves ∙ own_fields in
      none_first (look Shape (shape_faults own)) _ (look_none Shape (shape_faults own) own_shape)
      (none_first (look BadShards (shards_faults (shards_in own))) _ (ap (λ o. look BadShards (shards_faults o)) own_shards)
      (none_first (look BadDynamic (dynamic_faults (strict_of own))) _ (ap (λ o. look BadDynamic (dynamic_faults o)) own_strict)
      (none_first (look UnknownType (type_faults (leaves_of own))) _ (look_none UnknownType (type_faults (leaves_of own)) (ap type_faults leaves ∙ types_none))
      (none_first (look TooManyFields (count_faults (leaves_of own))) _ (look_none TooManyFields (count_faults (leaves_of own)) (ap count_faults leaves ∙ count_none))
      (none_first (look PathClash (clash_faults (leaves_of own))) _ (look_none PathClash (clash_faults (leaves_of own)) (ap clash_faults leaves ∙ clash_none))
      (none_first (look BadTimestamp (timestamp_faults (leaves_of own))) _ (look_none BadTimestamp (timestamp_faults (leaves_of own)) (ap timestamp_faults leaves ∙ times_none))
      (none_first (look BadRole (role_faults (leaves_of own))) _ (look_none BadRole (role_faults (leaves_of own)) (ap role_faults leaves ∙ roles_none))
      (none_first (look NoDimension (dimension_faults (fields_of (leaves_of own)))) _ (look_none NoDimension (dimension_faults (fields_of (leaves_of own))) (ap dimension_faults fields ∙ dimensions_none routes refl))
      (none_first (look BadRouting (routing_faults (fields_of (leaves_of own)) (entries_of own))) []
      (look_none BadRouting (routing_faults (fields_of (leaves_of own)) (entries_of own)) (ap₂ routing_faults fields own_entries ∙ routing_none routes refl)) refl)))))))))

  abbrev shaped : List ℕ → Bool → Bool → Schema
  shaped places folded rises = record { fields = all; routing = places; folded = folded; rises = rises }

  own_schema : schema_of own ≡ t.schema
  unfolding schema_of
  own_schema =
      ap₂ schema_with (ap fields_of own_leaves ∙ own_fields) own_entries
      ∙ rebuilt (routing_from (Some entries) 0 all) t.schema.folded t.schema.rises routes_same is.raw is.rising
    where
      rebuilt : (places : List ℕ) (folded rises : Bool) → places ≡ routes → folded ≡ false → rises ≡ true → shaped places false true ≡ shaped routes folded rises
      rebuilt places folded rises p f r = rw (p, f, r) refl

  abbrev built : List (List ℕ) → ℕ → Bool → ℕ → ℤ → ℤ → Schema → Template
  built a b c d e f g = record { name = t.name; patterns = a; priority = b; strict = c; shards = d; look_back = e; look_ahead = f; schema = g }

  own_template : template_of t.name own ≡ t
  unfolding template_of
  own_template =
      rebuilt (patterns_of own) (priority_of own) (strict_of own) (shards_in own) (look_at LookBack (pos 7_200_000) (settings_of own)) (look_at LookAhead (pos 1_800_000) (settings_of own)) (schema_of own)
      own_patterns own_priority own_strict own_shards
      (back_given (shown_texts t.patterns) t.priority (shown_texts entries) t.shards back_ms ahead_ms t.strict (shown_fields all) (pos 7_200_000) ∙ (ap (λ o. unwrap_or o (pos 7_200_000)) back_read ∙ sym is.ranges.look_back.same))
      (ahead_given (shown_texts t.patterns) t.priority (shown_texts entries) t.shards back_ms ahead_ms t.strict (shown_fields all) (pos 1_800_000) ∙ (ap (λ o. unwrap_or o (pos 1_800_000)) ahead_read ∙ sym is.ranges.look_ahead.same))
      own_schema
    where
      rebuilt : (a : Option (List (List ℕ))) (b : Option ℕ) (c : Option Bool) (d : Option ℕ) (e f : ℤ) (g : Schema) → a ≡ Some t.patterns → b ≡ Some t.priority → c ≡ Some t.strict → d ≡ Some t.shards → e ≡ t.look_back → f ≡ t.look_ahead → g ≡ t.schema
          → built (unwrap_or a []) (unwrap_or b 0) (unwrap_or c true) (unwrap_or d 1) e f g ≡ t
      rebuilt a b c d e f g p q r u v w x = rw (p, q, r, u, v, w, x) refl

pub templates_have_bodies : TemplatesHaveBodies
templates_have_bodies t is = (own t is, own_refusal t is, own_template t is)
