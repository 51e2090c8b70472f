-- The schema of a body that no look refuses is one of a template.
use Rattle.std.proofs.Common.{◌≡◌, ◌≤◌, ◌<◌, ◌+◌, ℕ, suc, List, [], ◌∷◌, ◌++◌, Bool, true, false, ◌||◌, ◌&&◌, ◌==◌, not, if◌then◌else◌, Option, Some, None, length, nat_le, bytes_eq, refl, sym, ap, ◌∙◌, subst, arith, inl, inr}
use Rattle.serde_json.specs.Data.{Data}
use lib.Utf8.{encode}
use Rattle.std.specs.Str.{IsUtf8}
use Rattle.std.proofs.lemmas.Bool.{leb-true, or_right}
use Rattle.row_cells.specs.declared.schemas.FieldType.{FieldType}
use Rattle.row_cells.specs.declared.schemas.FieldType.TheVariants.{Date}
use Rattle.row_cells.specs.declared.schemas.Role.{Role}
use Rattle.row_cells.specs.declared.schemas.Role.TheVariants.{Time, Dimension}
use Rattle.row_cells.specs.declared.schemas.Field.{Field}
use Rattle.row_cells.specs.Dimensions.{IsBefore}
use Rattle.row_cells.specs.Fitting.{FieldsAscendAfter}
use Rattle.row_cells.specs.Joining.{IsIn}
use Rattle.row_cells.specs.Mapped.{AreDimensionsAt, ArePaths, IsDimensionAt, IsPath, PlacesAscendFrom}
use Rattle.time_text.specs.ShapeLaws.{first_true, second_true}
use Rattle.ts_mapping.specs.RoleLaws.{date_is, dimension_is}
use Rattle.ts_mapping.specs.Faults.{bad_entries, below_fault, clash_faults, count_faults, dimension_faults, dynamic_faults, entries_of, first_of, is_below_any, leaves_of, look, number_of_fields, repeated, role_faults, routing_faults, shards_faults, shards_in, strict_of, timestamp_faults, type_faults}
use Rattle.ts_mapping.specs.Looks.{early_looks, late_looks}
use Rattle.ts_mapping.specs.Fields.{added_time, dimension_paths, fields_of, has_time, is_dimension_role, is_listed, paths_of, routing_from, with_fields}
use Rattle.ts_mapping.specs.Limits.{most_fields}
use Rattle.ts_mapping.specs.Least.{all_faults, fault_unless, least}
use Rattle.ts_mapping.specs.Paths.{has_path_form, is_among, is_below, is_field_path, timestamp}
use Rattle.ts_mapping.specs.Properties.{Property, properties_of}
use Rattle.ts_mapping.specs.Roles.{may_have}
use Rattle.ts_mapping.specs.Schemas.{AreApart, AreTemplateFields, IsTemplateField, IsTemplateSchema, time_field}
use Rattle.ts_mapping.specs.Templates.{schema_of, schema_with}
use Rattle.ts_mapping.specs.Settings.{settings_faults, settings_of}
use Rattle.ts_mapping.specs.Shapes.{body_faults, property_faults, shape_faults, template_faults}
use Rattle.ts_mapping.specs.declared.kinds.MapKind.TheVariants.{BadShards, BadDynamic, UnknownType, TooManyFields, PathClash, BadTimestamp, BadRole, NoDimension, BadRouting}
use Rattle.ts_mapping.proofs.Nothing.{first_look, first_nothing, holds, later_looks, look_nothing, no_paths, second_nothing}
use Rattle.ts_mapping.proofs.Placing.{AllBy, AllOf, field_paths, of_all, with_all, with_ascends, with_gets, with_keeps, with_length}
use Rattle.ts_mapping.specs.PathLaws.{exact, in_any, itself, of_text, text_path}
use Rattle.ts_mapping.proofs.Sound.{AreSound, all_fields, all_sent, all_template, sound_leaves}

-- ---- the field of the time

time_text : IsUtf8 timestamp
unfolding encode
time_text = (timestamp, (refl, refl))

time_path : is_field_path timestamp ≡ true
unfolding has_path_form
time_path = sym (of_text timestamp time_text)

time_is_template : IsTemplateField time_field
time_is_template = record { path = time_path; role = refl; time = ((λ _. refl), (λ _. refl)) }

added_all : (P : Field → Type 0) (ps : List Property) → P time_field → AllOf P (added_time ps)
added_all P ps here = go (has_time ps)
  where
    go : (v : Bool) → AllOf P (if v then [] else time_field ∷ [])
    go true = tt
    go false = (here, tt)

fields_all : (P : Field → Type 0) (ps : List Property) → P time_field → AllBy P ps → AllOf P (fields_of ps)
unfolding fields_of
fields_all P ps here by = with_all P (added_time ps) ps (added_all P ps here) by

all_are_template : (ps : List Property) → AreSound ps → AllOf IsTemplateField (fields_of ps)
all_are_template ps are = fields_all IsTemplateField ps time_is_template (all_template ps are)

template_fields : (fs : List Field) → AllOf IsTemplateField fs → AreTemplateFields fs
template_fields [] all = tt
template_fields (f ∷ fs) all = (all.0, template_fields fs all.1)

is_time_field : (f : Field) → IsTemplateField f → f.path ≡ timestamp → time_field ≡ f
is_time_field f is here =
    let role : f.role ≡ Time = is.time.1 here in
    let kind : f.kind ≡ Date = date_is f.kind (subst (λ r. may_have f.kind r ≡ true) role is.role) in
    rebuilt f.path f.kind f.role here kind role
  where
    rebuilt : (path : List ℕ) (kind : FieldType) (role : Role) → path ≡ timestamp → kind ≡ Date → role ≡ Time → time_field ≡ record { path = path; kind = kind; role = role }
    rebuilt path kind role p k r = rw (p, k, r) refl

time_in : (fs : List Field) → AllOf IsTemplateField fs → is_among timestamp (field_paths fs) ≡ true → IsIn time_field fs
time_in [] all is = cc
time_in (f ∷ fs) all is = go (bytes_eq timestamp f.path) refl is (time_in fs all.1)
  where
    go : (v : Bool) → bytes_eq timestamp f.path ≡ v → (v || is_among timestamp (field_paths fs)) ≡ true → (is_among timestamp (field_paths fs) ≡ true → IsIn time_field fs) → IsIn time_field (f ∷ fs)
    go true same is later = inl (is_time_field f all.0 (sym (exact timestamp f.path same)))
    go false same is later = inr (later is)

timed : (ps : List Property) → AreSound ps → role_faults ps ≡ [] → IsIn time_field (fields_of ps)
unfolding fields_of role_faults
timed ps are roles = time_in (fields_of ps) (all_are_template ps are) (go (has_time ps) refl)
  where
    go : (v : Bool) → has_time ps ≡ v → is_among timestamp (field_paths (with_fields (added_time ps) ps)) ≡ true
    go true e = with_gets timestamp (added_time ps) ps (all_fields ps are roles) e
    go false e = with_keeps timestamp (added_time ps) ps (ap (λ v. is_among timestamp (field_paths (if v then [] else time_field ∷ []))) e)

-- ---- paths

pub some_path : (p : List ℕ) → is_field_path p ≡ true → 0 < length p
some_path [] is = absurd (no (text_path [] is).parts)
  where
    no : false ≡ true → ⊥
    no e = cc
some_path (b ∷ p) is = omega arith

-- a field's path is one by which a schema may have a field
pub path_is : (p : List ℕ) → is_field_path p ≡ true → IsPath p
path_is p is = let known = text_path p is in record { some = some_path p is; short = known.short; text = known.text }

after_nothing : (p : List ℕ) → 0 < length p → IsBefore [] p
after_nothing [] some = absurd (omega (arith, some))
after_nothing (b ∷ p) some = refl

are_paths : (fs : List Field) → AllOf IsTemplateField fs → ArePaths fs
are_paths [] all = tt
are_paths (f ∷ fs) all = (path_is f.path all.0.path, are_paths fs all.1)

by_template : (ps : List Property) → AllBy IsTemplateField ps → AllBy (λ f. IsBefore [] f.path) ps
by_template [] by = tt
by_template (p ∷ ps) by = ((λ f is. after_nothing f.path (some_path f.path (by.0 f is).path)), by_template ps by.1)

ascending : (ps : List Property) → AreSound ps → FieldsAscendAfter [] (fields_of ps)
unfolding fields_of
ascending ps are = with_ascends (added_time ps) ps (go (has_time ps)) (by_template ps (all_template ps are))
  where
    go : (v : Bool) → FieldsAscendAfter [] (if v then [] else time_field ∷ [])
    go true = tt
    go false = (refl, tt)

few : (ps : List Property) → number_of_fields ps ≤ most_fields → length (fields_of ps) ≤ most_fields
unfolding fields_of
few ps within = go (has_time ps) refl (with_length (added_time ps) ps)
  where
    go : (v : Bool) → has_time ps ≡ v → length (with_fields (added_time ps) ps) ≤ length (added_time ps) + length ps → length (with_fields (added_time ps) ps) ≤ most_fields
    go true e least = omega (arith, within, least, ap (λ w. length (if w then [] else time_field ∷ [])) e, ap (λ w. if w then length ps else length ps + 1) e)
    go false e least = omega (arith, within, least, ap (λ w. length (if w then [] else time_field ∷ [])) e, ap (λ w. if w then length ps else length ps + 1) e)

-- ---- no field below another

dotless : List ℕ → Bool
dotless [] = true
dotless (b ∷ p) = not (b == 46) && dotless p

and_false : (a b : Bool) → b ≡ false → (a && b) ≡ false
and_false true b is = is
and_false false b is = refl

not_true : (b : Bool) → not b ≡ true → b ≡ false
not_true true is = cc
not_true false is = refl

nothing_above : (p q : List ℕ) → dotless p ≡ true → is_below p q ≡ false
unfolding dotless
nothing_above [] q is = refl
nothing_above (b ∷ p) [] is = not_true (b == 46) (first_true (not (b == 46)) (dotless p) is)
nothing_above (b ∷ p) (c ∷ q) is = and_false (b == c) (is_below p q) (nothing_above p q (second_true (not (b == 46)) (dotless p) is))

time_dotless : dotless timestamp ≡ true
unfolding dotless
time_dotless = refl

below_none : (all qs : List (List ℕ)) → all_faults (below_fault all) qs ≡ [] → (q : List ℕ) → is_among q qs ≡ true → is_below_any q all ≡ false
below_none all [] none q is = cc
below_none all (p ∷ qs) none q is = go (bytes_eq q p) refl is (below_none all qs (second_nothing (below_fault all p) (all_faults (below_fault all) qs) none) q)
  where
    here : is_below_any p all ≡ false
    here = not_true (is_below_any p all) (holds (not (is_below_any p all)) p (first_nothing (below_fault all p) (all_faults (below_fault all) qs) none))

    go : (v : Bool) → bytes_eq q p ≡ v → (v || is_among q qs) ≡ true → (is_among q qs ≡ true → is_below_any q all ≡ false) → is_below_any q all ≡ false
    go true same is later = subst (λ r. is_below_any r all ≡ false) (sym (exact q p same)) here
    go false same is later = later is

one_below : (p q : List ℕ) (all : List (List ℕ)) → is_below_any p all ≡ false → is_among q all ≡ true → is_below p q ≡ false
one_below p q all none is = go (is_below p q) refl
  where
    clash : true ≡ false → ⊥
    clash e = cc

    go : (v : Bool) → is_below p q ≡ v → is_below p q ≡ false
    go false e = e
    go true e = absurd (clash (sym (in_any (is_below p) q all is e) ∙ none))

apart : (ps : List Property) → AreSound ps → clash_faults ps ≡ [] → AreApart (fields_of ps)
unfolding clash_faults
apart ps are none = λ f g in_f in_g.
    let all = timestamp ∷ paths_of ps in
    let sent : AllOf (λ h. is_among h.path all ≡ true) (fields_of ps) = fields_all (λ h. is_among h.path all ≡ true) ps (ap (λ b. b || is_among timestamp (paths_of ps)) (itself timestamp)) (all_sent all ps are (λ q is. or_right (bytes_eq q timestamp) (is_among q (paths_of ps)) is)) in
    let below = second_nothing (repeated [] (paths_of ps)) (all_faults (below_fault all) (paths_of ps)) none in
    go f.path g.path (of_all (λ h. is_among h.path all ≡ true) f (fields_of ps) sent in_f) (of_all (λ h. is_among h.path all ≡ true) g (fields_of ps) sent in_g) below
  where
    go : (p q : List ℕ) → is_among p (timestamp ∷ paths_of ps) ≡ true → is_among q (timestamp ∷ paths_of ps) ≡ true → all_faults (below_fault (timestamp ∷ paths_of ps)) (paths_of ps) ≡ [] → is_below p q ≡ false
    go p q is_p is_q below = by (bytes_eq p timestamp) refl is_p
      where
        by : (v : Bool) → bytes_eq p timestamp ≡ v → (v || is_among p (paths_of ps)) ≡ true → is_below p q ≡ false
        by true same is = subst (λ r. is_below r q ≡ false) (sym (exact p timestamp same)) (nothing_above timestamp q time_dotless)
        by false same is = one_below p q (timestamp ∷ paths_of ps) (below_none (timestamp ∷ paths_of ps) (paths_of ps) below p is) is_q

-- ---- routing

-- a place behind another list
front_dimension : (front : List Field) (f : Field) (fs : List Field) → f.role ≡ Dimension → IsDimensionAt (front ++ f ∷ fs) (length front)
front_dimension [] f fs is = is
front_dimension (g ∷ front) f fs is = front_dimension front f fs is

append_one : (front : List Field) (f : Field) (fs : List Field) → (front ++ (f ∷ [])) ++ fs ≡ front ++ (f ∷ fs)
append_one [] f fs = refl
append_one (g ∷ front) f fs = ap (λ xs. g ∷ xs) (append_one front f fs)

length_one : (front : List Field) (f : Field) → length (front ++ (f ∷ [])) ≡ suc (length front)
length_one [] f = refl
length_one (g ∷ front) f = ap suc (length_one front f)

dimensions_at : (entries : Option (List (List ℕ))) (front fs : List Field) → AreDimensionsAt (front ++ fs) (routing_from entries (length front) fs)
dimensions_at entries front [] = tt
dimensions_at entries front (f ∷ fs) =
    let later : AreDimensionsAt (front ++ (f ∷ fs)) (routing_from entries (suc (length front)) fs) =
    subst (λ n. AreDimensionsAt (front ++ (f ∷ fs)) (routing_from entries n fs)) (length_one front f)
    (subst (λ all. AreDimensionsAt all (routing_from entries (length (front ++ (f ∷ []))) fs)) (append_one front f fs) (dimensions_at entries (front ++ (f ∷ [])) fs)) in
    go (is_dimension_role f.role) refl (is_listed entries f.path) later
  where
    go : (v : Bool) → is_dimension_role f.role ≡ v → (w : Bool) → AreDimensionsAt (front ++ (f ∷ fs)) (routing_from entries (suc (length front)) fs)
        → AreDimensionsAt (front ++ (f ∷ fs)) ((if v && w then length front ∷ [] else []) ++ routing_from entries (suc (length front)) fs)
    go true is true later = (front_dimension front f fs (dimension_is f.role is), later)
    go true is false later = later
    go false is w later = later

ascend_sooner : (least count : ℕ) (places : List ℕ) → PlacesAscendFrom (suc least) count places → PlacesAscendFrom least count places
ascend_sooner least count [] ascend = tt
ascend_sooner least count (p ∷ places) ascend = (omega (arith, ascend.0), ascend.1, ascend.2)

places_ascend : (entries : Option (List (List ℕ))) (place count : ℕ) (fs : List Field) → place + length fs ≤ count → PlacesAscendFrom place count (routing_from entries place fs)
places_ascend entries place count [] within = tt
places_ascend entries place count (f ∷ fs) within = go (is_dimension_role f.role && is_listed entries f.path) (places_ascend entries (suc place) count fs (omega (arith, within)))
  where
    go : (v : Bool) → PlacesAscendFrom (suc place) count (routing_from entries (suc place) fs) → PlacesAscendFrom place count ((if v then place ∷ [] else []) ++ routing_from entries (suc place) fs)
    go true later = (omega arith, omega (arith, within), later)
    go false later = ascend_sooner place count (routing_from entries (suc place) fs) later

longer : (places more : List ℕ) → 0 < length more → 0 < length (places ++ more)
longer [] more some = some
longer (p ∷ places) more some = omega arith

-- a dimension that is listed routes
one_routes : (entries : Option (List (List ℕ))) (q : List ℕ) (place : ℕ) (fs : List Field) → is_among q (dimension_paths fs) ≡ true → is_listed entries q ≡ true → 0 < length (routing_from entries place fs)
one_routes entries q place [] is listed = cc
one_routes entries q place (f ∷ fs) is listed = go (is_dimension_role f.role) refl is (λ is. one_routes entries q (suc place) fs is listed)
  where
    here : is_listed entries f.path ≡ true → 0 < length ((if true && is_listed entries f.path then place ∷ [] else []) ++ routing_from entries (suc place) fs)
    here e = subst (λ w. 0 < length ((if w then place ∷ [] else []) ++ routing_from entries (suc place) fs)) (sym e) (omega arith)

    go : (v : Bool) → is_dimension_role f.role ≡ v → is_among q ((if v then f.path ∷ [] else []) ++ dimension_paths fs) ≡ true → (is_among q (dimension_paths fs) ≡ true → 0 < length (routing_from entries (suc place) fs))
        → 0 < length ((if v && is_listed entries f.path then place ∷ [] else []) ++ routing_from entries (suc place) fs)
    go false e is later = longer [] (routing_from entries (suc place) fs) (later is)
    go true e is later = by (bytes_eq q f.path) refl is
      where
        by : (w : Bool) → bytes_eq q f.path ≡ w → (w || is_among q (dimension_paths fs)) ≡ true → 0 < length ((if true && is_listed entries f.path then place ∷ [] else []) ++ routing_from entries (suc place) fs)
        by true same is = here (subst (λ r. is_listed entries r ≡ true) (exact q f.path same) listed)
        by false same is = longer (if true && is_listed entries f.path then place ∷ [] else []) (routing_from entries (suc place) fs) (later is)

first_among : (qs : List (List ℕ)) → 1 ≤ length qs → (q : List ℕ) × (is_among q qs ≡ true)
first_among [] some = absurd (omega (arith, some))
first_among (q ∷ qs) some = (q, ap (λ b. b || is_among q qs) (itself q))

routed : (fs : List Field) (entries : Option (List (List ℕ))) → dimension_faults fs ≡ [] → routing_faults fs entries ≡ [] → 0 < length (routing_from entries 0 fs)
unfolding dimension_faults routing_faults
routed fs None dimensions none =
    let one = first_among (dimension_paths fs) (leb-true 1 (length (dimension_paths fs)) (holds (nat_le 1 (length (dimension_paths fs))) [] dimensions)) in
    one_routes None one.0 0 fs one.1 refl
routed fs (Some []) dimensions none = cc
routed fs (Some (e ∷ es)) dimensions none =
    let bad = second_nothing (fault_unless (nat_le 1 (length (e ∷ es))) []) (bad_entries (dimension_paths fs) [] (e ∷ es)) none in
    let entry : fault_unless (is_among e (dimension_paths fs) && not (is_among e [])) e ≡ [] = first_nothing (fault_unless (is_among e (dimension_paths fs) && not (is_among e [])) e) (bad_entries (dimension_paths fs) (e ∷ []) es) bad in
    let is = first_true (is_among e (dimension_paths fs)) (not (is_among e [])) (holds (is_among e (dimension_paths fs) && not (is_among e [])) e entry) in
    one_routes (Some (e ∷ es)) e 0 fs is (ap (λ b. b || is_among e es) (itself e))

-- ---- the whole

pub schema_is : (ps : List Property) (entries : Option (List (List ℕ))) → AreSound ps → number_of_fields ps ≤ most_fields → clash_faults ps ≡ [] → role_faults ps ≡ [] → dimension_faults (fields_of ps) ≡ [] → routing_faults (fields_of ps) entries ≡ [] → IsTemplateSchema (schema_with (fields_of ps) entries)
schema_is ps entries are within clashes roles dimensions routing =
    let fs = fields_of ps in
    let all = all_are_template ps are in
    record {
      mapped = record { ascending = ascending ps are; paths = are_paths fs all; routing = dimensions_at entries [] fs };
      fields = template_fields fs all;
      apart = apart ps are clashes;
      timed = timed ps are roles;
      few = few ps within;
      routing_ascends = places_ascend entries 0 (length fs) fs (omega arith);
      routed = routed fs entries dimensions routing;
    }

-- ---- of a body

sound_body : (body : Data) → least (shape_faults body) ≡ None → AreSound (leaves_of body)
unfolding shape_faults leaves_of
sound_body body none =
    let nowhere = no_paths (shape_faults body) none in
    sound_leaves (properties_of body) (second_nothing (body_faults body ++ template_faults body ++ settings_faults (settings_of body)) (all_faults property_faults (properties_of body)) nowhere)

few_body : (body : Data) → first_of (early_looks body) ≡ None → number_of_fields (leaves_of body) ≤ most_fields
unfolding count_faults
few_body body none =
    let ps = leaves_of body in
    let shards = look BadShards (shards_faults (shards_in body)) in
    let dynamic = look BadDynamic (dynamic_faults (strict_of body)) in
    let types = look UnknownType (type_faults ps) in
    let count = look TooManyFields (count_faults ps) in
    let beyond_types = later_looks types (count ∷ []) (later_looks dynamic (types ∷ count ∷ []) (later_looks shards (dynamic ∷ types ∷ count ∷ []) none)) in
    leb-true (number_of_fields ps) most_fields (holds (nat_le (number_of_fields ps) 1000) [] (look_nothing TooManyFields (count_faults ps) (first_look count [] beyond_types)))

pub body_fields : (body : Data) → first_of (early_looks body) ≡ None → length (fields_of (leaves_of body)) ≤ most_fields
body_fields body none = few (leaves_of body) (few_body body none)

-- the schema of a body that no look refuses
pub body_schema : (body : Data) → least (shape_faults body) ≡ None → first_of (early_looks body) ≡ None → first_of (late_looks body) ≡ None → IsTemplateSchema (schema_of body)
unfolding schema_of
body_schema body shape early late =
    let ps = leaves_of body in
    let fs = fields_of ps in
    let es = entries_of body in
    let clash = look PathClash (clash_faults ps) in
    let time = look BadTimestamp (timestamp_faults ps) in
    let role = look BadRole (role_faults ps) in
    let dimension = look NoDimension (dimension_faults fs) in
    let routing = look BadRouting (routing_faults fs es) in
    let two = routing ∷ [] in
    let three = later_looks clash (time ∷ role ∷ dimension ∷ two) late in
    let four = later_looks time (role ∷ dimension ∷ two) three in
    let five = later_looks role (dimension ∷ two) four in
    let six = later_looks dimension two five in
    schema_is ps es (sound_body body shape) (few_body body early)
    (look_nothing PathClash (clash_faults ps) (first_look clash (time ∷ role ∷ dimension ∷ two) late))
    (look_nothing BadRole (role_faults ps) (first_look role (dimension ∷ two) four))
    (look_nothing NoDimension (dimension_faults fs) (first_look dimension two five))
    (look_nothing BadRouting (routing_faults fs es) (first_look routing [] six))
