-- The tests of templates and mappings in memory decide what is known of them.
use Rattle.std.proofs.Common.{◌≡◌, ◌↔◌, ◌<◌, ◌≤◌, ℕ, zero, suc, ℤ, pos, negsuc, List, [], ◌∷◌, Bool, true, false, ◌||◌, ◌&&◌, not, bytes_eq, Ordering, Less, Equal, Greater, get_or, length, nat_le, refl, sym, ap, ap₂, ◌∙◌, arith, inl, inr}
use Rattle.std.specs.Prelude.{int_le, nat_lt}
use Rattle.std.specs.Cmp.Lexicographic.{slice_cmp}
use Rattle.std.specs.List.{list_all, list_any}
use Rattle.std.specs.Ordering.{is_lt, nat_cmp}
use Rattle.std.proofs.lemmas.Int.{ints}
use Rattle.std.proofs.lemmas.Bool.{le-leb, leb-true, lt-ltb, ltb-true, or_right}
use Rattle.index_names.specs.Patterns.{is_pattern}
use Rattle.row_cells.specs.declared.schemas.FieldType.TheVariants.{Date}
use Rattle.row_cells.specs.declared.schemas.Role.{Role}
use Rattle.row_cells.specs.declared.schemas.Role.TheVariants.{Time, Dimension, Gauge, Counter, Label}
use Rattle.row_cells.specs.declared.schemas.Field.{Field}
use Rattle.row_cells.specs.declared.schemas.Schema.{Schema}
use Rattle.row_cells.specs.Fitting.{FieldsAscendAfter}
use Rattle.row_cells.specs.Joining.{IsIn}
use Rattle.row_cells.specs.Mapped.{AreDimensionsAt, ArePaths, IsDimensionAt, PlacesAscendFrom}
use Rattle.time_text.specs.ShapeLaws.{first_true, second_true, both_true}
use Rattle.ts_mapping.specs.RoleLaws.{date_is, dimension_is}
use Rattle.ts_mapping.specs.Checks.{are_below_any, are_dimensions_at, are_fields, are_routing, are_same, are_shards, are_sound_fields, ascend_after, field_paths, has_time_field, is_dimension_at, is_in_range, is_look, is_schema, is_sound_field, is_time_field, is_time_role, places_ascend}
use Rattle.ts_mapping.specs.Checks as spec
use Rattle.ts_mapping.specs.Facts.{IsMapping, IsTemplate}
use Rattle.ts_mapping.specs.Fields.{is_dimension_role}
use Rattle.ts_mapping.specs.Limits.{greatest_priority, longest_look, most_fields, most_patterns, most_shards, shortest_look}
use Rattle.ts_mapping.specs.PathLaws.{any_in, exact, in_any, itself}
use Rattle.ts_mapping.specs.Paths.{is_among, is_below, is_field_path, timestamp}
use Rattle.ts_mapping.specs.Ranges.{IsInRange, IsLook}
use Rattle.ts_mapping.specs.Roles.{is_date, may_have}
use Rattle.ts_mapping.specs.Schemas.{AreApart, AreTemplateFields, IsTemplateField, IsTemplateSchema, time_field}
use Rattle.ts_mapping.specs.declared.templates.Mapping.{Mapping}
use Rattle.ts_mapping.specs.declared.templates.Template.{Template}
use Rattle.ts_mapping.proofs.SchemaLemmas.{path_is}
use Rattle.ts_mapping.proofs.Sets.{SamePaths, any_same}

no : {A : Type 0} → true ≡ false → A
no e = absurd (differ e)
  where
    differ : true ≡ false → ⊥
    differ e = cc

-- ---- fields that ascend

less_is : (o : Ordering) → is_lt o ≡ true → o ≡ Less
less_is Less is = refl
less_is Equal is = cc
less_is Greater is = cc

is_less : (o : Ordering) → o ≡ Less → is_lt o ≡ true
is_less o is = ap is_lt is

to_ascend : (p : List ℕ) (fs : List Field) → ascend_after p fs ≡ true → FieldsAscendAfter p fs
to_ascend p [] is = tt
to_ascend p (f ∷ fs) is = (
  less_is (slice_cmp nat_cmp p f.path) (first_true (is_lt (slice_cmp nat_cmp p f.path)) (ascend_after f.path fs) is),
  to_ascend f.path fs (second_true (is_lt (slice_cmp nat_cmp p f.path)) (ascend_after f.path fs) is),
)

of_ascend : (p : List ℕ) (fs : List Field) → FieldsAscendAfter p fs → ascend_after p fs ≡ true
of_ascend p [] all = refl
of_ascend p (f ∷ fs) all = both_true (is_lt (slice_cmp nat_cmp p f.path)) (ascend_after f.path fs) (is_less (slice_cmp nat_cmp p f.path) all.0) (of_ascend f.path fs all.1)

-- ---- single fields

time_is : (r : Role) → is_time_role r ≡ true → r ≡ Time
time_is Time is = refl
time_is Dimension is = cc
time_is Gauge is = cc
time_is Counter is = cc
time_is Label is = cc

same_is : (a b : Bool) → are_same a b ≡ true → a ≡ b
same_is true b is = sym is
same_is false true is = is
same_is false false is = refl

same_by : (a b : Bool) → (a ≡ true → b ≡ true) → (b ≡ true → a ≡ true) → are_same a b ≡ true
same_by true b to from = to refl
same_by false true to from = from refl
same_by false false to from = refl

to_field : (f : Field) → is_sound_field f ≡ true → IsTemplateField f
to_field f is =
    let rest = second_true (is_field_path f.path) (may_have f.kind f.role && are_same (is_time_role f.role) (bytes_eq f.path timestamp)) is in
    let alike = same_is (is_time_role f.role) (bytes_eq f.path timestamp) (second_true (may_have f.kind f.role) (are_same (is_time_role f.role) (bytes_eq f.path timestamp)) rest) in
    record {
      path = first_true (is_field_path f.path) (may_have f.kind f.role && are_same (is_time_role f.role) (bytes_eq f.path timestamp)) is;
      role = first_true (may_have f.kind f.role) (are_same (is_time_role f.role) (bytes_eq f.path timestamp)) rest;
      time = (
        (λ time. exact f.path timestamp (sym alike ∙ ap is_time_role time)),
        (λ here. time_is f.role (alike ∙ (ap (λ p. bytes_eq p timestamp) here ∙ itself timestamp))),
      );
    }

of_field : (f : Field) → IsTemplateField f → is_sound_field f ≡ true
of_field f is =
    both_true (is_field_path f.path) (may_have f.kind f.role && are_same (is_time_role f.role) (bytes_eq f.path timestamp)) is.path
    (both_true (may_have f.kind f.role) (are_same (is_time_role f.role) (bytes_eq f.path timestamp)) is.role
    (same_by (is_time_role f.role) (bytes_eq f.path timestamp)
    (λ time. ap (λ p. bytes_eq p timestamp) (is.time.0 (time_is f.role time)) ∙ itself timestamp)
    (λ here. ap is_time_role (is.time.1 (exact f.path timestamp here)))))

to_fields : (fs : List Field) → are_sound_fields fs ≡ true → AreTemplateFields fs
to_fields [] is = tt
to_fields (f ∷ fs) is = (to_field f (first_true (is_sound_field f) (are_sound_fields fs) is), to_fields fs (second_true (is_sound_field f) (are_sound_fields fs) is))

of_fields : (fs : List Field) → AreTemplateFields fs → are_sound_fields fs ≡ true
of_fields [] all = refl
of_fields (f ∷ fs) all = both_true (is_sound_field f) (are_sound_fields fs) (of_field f all.0) (of_fields fs all.1)

to_paths : (fs : List Field) → AreTemplateFields fs → ArePaths fs
to_paths [] all = tt
to_paths (f ∷ fs) all = (path_is f.path all.0.path, to_paths fs all.1)

-- ---- no field below another

pub in_paths : (g : Field) (fs : List Field) → IsIn g fs → is_among g.path (field_paths fs) ≡ true
in_paths g [] is = absurd is
in_paths g (f ∷ fs) is =
    elim is [
      | inl same ↦ ap (λ b. b || is_among g.path (field_paths fs)) (ap (λ h. bytes_eq g.path h.path) (sym same) ∙ itself g.path)
      | inr later ↦ or_right (bytes_eq g.path f.path) (is_among g.path (field_paths fs)) (in_paths g fs later)
    ]

pub record Has (q : List ℕ) (fs : List Field) : Type 0 where
  pub field : Field
  pub is_in : IsIn field fs
  pub path : q ≡ field.path

pub of_paths : (q : List ℕ) (fs : List Field) → is_among q (field_paths fs) ≡ true → Has q fs
of_paths q [] is = cc
of_paths q (f ∷ fs) is = go (bytes_eq q f.path) refl is (of_paths q fs)
  where
    go : (v : Bool) → bytes_eq q f.path ≡ v → (v || is_among q (field_paths fs)) ≡ true → (is_among q (field_paths fs) ≡ true → Has q fs) → Has q (f ∷ fs)
    go true same is later = record { field = f; is_in = inl refl; path = exact q f.path same }
    go false same is later = let one = later is in record { field = one.field; is_in = inr one.is_in; path = one.path }

any_field : (test : Field → Bool) (f : Field) (fs : List Field) → IsIn f fs → test f ≡ true → list_any test fs ≡ true
any_field test f [] is passes = absurd is
any_field test f (g ∷ gs) is passes =
    elim is [
      | inl same ↦ ap (λ b. b || list_any test gs) (ap test (sym same) ∙ passes)
      | inr later ↦ or_right (test g) (list_any test gs) (any_field test f gs later passes)
    ]

record Passed (test : Field → Bool) (fs : List Field) : Type 0 where
  field : Field
  is_in : IsIn field fs
  passes : test field ≡ true

some_field : (test : Field → Bool) (fs : List Field) → list_any test fs ≡ true → Passed test fs
some_field test [] is = cc
some_field test (f ∷ fs) is = go (test f) refl is (some_field test fs)
  where
    go : (v : Bool) → test f ≡ v → (v || list_any test fs) ≡ true → (list_any test fs ≡ true → Passed test fs) → Passed test (f ∷ fs)
    go true passes is later = record { field = f; is_in = inl refl; passes = passes }
    go false passes is later = let one = later is in record { field = one.field; is_in = inr one.is_in; passes = one.passes }

not_true : (b : Bool) → not b ≡ true → b ≡ false
not_true true is = cc
not_true false is = refl

to_apart : (fs : List Field) → are_below_any (field_paths fs) fs ≡ false → AreApart fs
to_apart fs none f g f_in g_in = go (is_below f.path g.path) refl
  where
    go : (v : Bool) → is_below f.path g.path ≡ v → is_below f.path g.path ≡ false
    go false is = is
    go true is =
        let some = any_field (λ h. list_any (is_below h.path) (field_paths fs)) f fs f_in (in_any (is_below f.path) g.path (field_paths fs) (in_paths g fs g_in) is) in
        no (sym some ∙ none)

of_apart : (fs : List Field) → AreApart fs → are_below_any (field_paths fs) fs ≡ false
of_apart fs apart = go (are_below_any (field_paths fs) fs) refl
  where
    go : (v : Bool) → are_below_any (field_paths fs) fs ≡ v → are_below_any (field_paths fs) fs ≡ false
    go false is = is
    go true is =
        let one = some_field (λ h. list_any (is_below h.path) (field_paths fs)) fs is in
        let other = any_in (is_below one.field.path) (field_paths fs) one.passes in
        let above = of_paths other.path fs other.among in
        no (sym other.pass ∙ (ap (is_below one.field.path) above.path ∙ apart one.field above.field one.is_in above.is_in))

-- ---- the time

time_of : (g : Field) → is_time_field g ≡ true → time_field ≡ g
time_of g is =
    let rest = second_true (bytes_eq g.path timestamp) (is_date g.kind && is_time_role g.role) is in
    let path : timestamp ≡ g.path = sym (exact g.path timestamp (first_true (bytes_eq g.path timestamp) (is_date g.kind && is_time_role g.role) is)) in
    let kind : Date ≡ g.kind = sym (date_is g.kind (first_true (is_date g.kind) (is_time_role g.role) rest)) in
    let role : Time ≡ g.role = sym (time_is g.role (second_true (is_date g.kind) (is_time_role g.role) rest)) in
    ap (λ p. record { path = p; kind = Date; role = Time }) path
    ∙ (ap (λ k. record { path = g.path; kind = k; role = Time }) kind ∙ ap (λ r. record { path = g.path; kind = g.kind; role = r }) role)

to_timed : (fs : List Field) → has_time_field fs ≡ true → IsIn time_field fs
to_timed [] is = cc
to_timed (f ∷ fs) is = go (is_time_field f) refl is (to_timed fs)
  where
    go : (v : Bool) → is_time_field f ≡ v → (v || has_time_field fs) ≡ true → (has_time_field fs ≡ true → IsIn time_field fs) → IsIn time_field (f ∷ fs)
    go true here is later = inl (time_of f here)
    go false here is later = inr (later is)

of_timed : (fs : List Field) → IsIn time_field fs → has_time_field fs ≡ true
of_timed fs is = any_field is_time_field time_field fs is (ap (λ b. b && true) (itself timestamp))

-- ---- routing

to_places : (least count : ℕ) (ps : List ℕ) → places_ascend least count ps ≡ true → PlacesAscendFrom least count ps
to_places least count [] is = tt
to_places least count (p ∷ ps) is =
    let rest = second_true (nat_le least p) (nat_lt p count && places_ascend (suc p) count ps) is in (
      leb-true least p (first_true (nat_le least p) (nat_lt p count && places_ascend (suc p) count ps) is),
      ltb-true p count (first_true (nat_lt p count) (places_ascend (suc p) count ps) rest),
      to_places (suc p) count ps (second_true (nat_lt p count) (places_ascend (suc p) count ps) rest),
    )

of_places : (least count : ℕ) (ps : List ℕ) → PlacesAscendFrom least count ps → places_ascend least count ps ≡ true
of_places least count [] all = refl
of_places least count (p ∷ ps) all =
    both_true (nat_le least p) (nat_lt p count && places_ascend (suc p) count ps) (le-leb least p all.0)
    (both_true (nat_lt p count) (places_ascend (suc p) count ps) (lt-ltb p count all.1) (of_places (suc p) count ps all.2))

to_dimension : (fs : List Field) (p : ℕ) → is_dimension_at fs p ≡ true → IsDimensionAt fs p
to_dimension [] p is = cc
to_dimension (f ∷ fs) zero is = dimension_is f.role is
to_dimension (f ∷ fs) (suc p) is = to_dimension fs p is

of_dimension : (fs : List Field) (p : ℕ) → IsDimensionAt fs p → is_dimension_at fs p ≡ true
of_dimension [] p is = absurd is
of_dimension (f ∷ fs) zero is = ap is_dimension_role is
of_dimension (f ∷ fs) (suc p) is = of_dimension fs p is

to_dimensions : (fs : List Field) (ps : List ℕ) → are_dimensions_at fs ps ≡ true → AreDimensionsAt fs ps
to_dimensions fs [] is = tt
to_dimensions fs (p ∷ ps) is = (to_dimension fs p (first_true (is_dimension_at fs p) (are_dimensions_at fs ps) is), to_dimensions fs ps (second_true (is_dimension_at fs p) (are_dimensions_at fs ps) is))

of_dimensions : (fs : List Field) (ps : List ℕ) → AreDimensionsAt fs ps → are_dimensions_at fs ps ≡ true
of_dimensions fs [] all = refl
of_dimensions fs (p ∷ ps) all = both_true (is_dimension_at fs p) (are_dimensions_at fs ps) (of_dimension fs p all.0) (of_dimensions fs ps all.1)

-- ---- schemas

to_schema : (schema : Schema) → is_schema schema ≡ true → IsTemplateSchema schema
to_schema schema is =
    let fs = schema.fields in
    let ps = schema.routing in
    let ascends = ascend_after [] fs in
    let sound = are_sound_fields fs in
    let apart = not (are_below_any (field_paths fs) fs) in
    let timed = has_time_field fs in
    let few = nat_le (length fs) most_fields in
    let fields = first_true (are_fields fs) (are_routing fs ps) is in
    let routing = second_true (are_fields fs) (are_routing fs ps) is in
    let two = second_true ascends (sound && (apart && (timed && few))) fields in
    let three = second_true sound (apart && (timed && few)) two in
    let four = second_true apart (timed && few) three in
    let places = second_true (are_dimensions_at fs ps) (places_ascend 0 (length fs) ps && nat_le 1 (length ps)) routing in
    let all = to_fields fs (first_true sound (apart && (timed && few)) two) in
    record {
      mapped = record {
        ascending = to_ascend [] fs (first_true ascends (sound && (apart && (timed && few))) fields);
        paths = to_paths fs all;
        routing = to_dimensions fs ps (first_true (are_dimensions_at fs ps) (places_ascend 0 (length fs) ps && nat_le 1 (length ps)) routing);
      };
      fields = all;
      apart = to_apart fs (not_true (are_below_any (field_paths fs) fs) (first_true apart (timed && few) three));
      timed = to_timed fs (first_true timed few four);
      few = leb-true (length fs) most_fields (second_true timed few four);
      routing_ascends = to_places 0 (length fs) ps (first_true (places_ascend 0 (length fs) ps) (nat_le 1 (length ps)) places);
      routed = leb-true 1 (length ps) (second_true (places_ascend 0 (length fs) ps) (nat_le 1 (length ps)) places);
    }

of_schema : (schema : Schema) → IsTemplateSchema schema → is_schema schema ≡ true
of_schema schema is =
    let fs = schema.fields in
    let ps = schema.routing in
    both_true (are_fields fs) (are_routing fs ps)
    (both_true (ascend_after [] fs) _ (of_ascend [] fs is.mapped.ascending)
    (both_true (are_sound_fields fs) _ (of_fields fs is.fields)
    (both_true (not (are_below_any (field_paths fs) fs)) _ (ap not (of_apart fs is.apart))
    (both_true (has_time_field fs) _ (of_timed fs is.timed) (le-leb (length fs) most_fields is.few)))))
    (both_true (are_dimensions_at fs ps) _ (of_dimensions fs ps is.mapped.routing)
    (both_true (places_ascend 0 (length fs) ps) _ (of_places 0 (length fs) ps is.routing_ascends) (le-leb 1 (length ps) is.routed)))

-- ---- ranges

to_shards : (n : ℕ) → are_shards n ≡ true → (1 ≤ n) × (n ≤ most_shards)
to_shards n is = (leb-true 1 n (first_true (nat_le 1 n) (nat_le n most_shards) is), leb-true n most_shards (second_true (nat_le 1 n) (nat_le n most_shards) is))

of_shards : (n : ℕ) → (1 ≤ n) × (n ≤ most_shards) → are_shards n ≡ true
of_shards n is = both_true (nat_le 1 n) (nat_le n most_shards) (le-leb 1 n is.0) (le-leb n most_shards is.1)

to_look : (look : ℤ) → is_look look ≡ true → IsLook look
to_look (pos n) is =
    let low = first_true (int_le (pos shortest_look) (pos n)) (int_le (pos n) (pos longest_look)) is in
    let high = second_true (int_le (pos shortest_look) (pos n)) (int_le (pos n) (pos longest_look)) is in
    record { ms = n; same = refl; least = omega (arith, ints, low); most = omega (arith, ints, high) }
to_look (negsuc n) is =
    let low = first_true (int_le (pos shortest_look) (negsuc n)) (int_le (negsuc n) (pos longest_look)) is in
    absurd (omega (arith, ints, low))

le_true : (a b : ℕ) → a ≤ b → int_le (pos a) (pos b) ≡ true
le_true a b le = go (int_le (pos a) (pos b)) refl
  where
    go : (v : Bool) → int_le (pos a) (pos b) ≡ v → v ≡ true
    go true is = refl
    go false is = absurd (omega (arith, ints, le, is))

of_look : (look : ℤ) → IsLook look → is_look look ≡ true
of_look look is =
    ap is_look is.same
    ∙ both_true (int_le (pos shortest_look) (pos is.ms)) (int_le (pos is.ms) (pos longest_look)) (le_true shortest_look is.ms is.least) (le_true is.ms longest_look is.most)

to_range : (t : Template) → is_in_range t ≡ true → IsInRange t
to_range t is =
    let ps = t.patterns in
    let patterns = list_all is_pattern ps in
    let some = nat_le 1 (length ps) in
    let few = nat_le (length ps) most_patterns in
    let priority = nat_le t.priority greatest_priority in
    let shards = are_shards t.shards in
    let looks = is_look t.look_back && is_look t.look_ahead in
    let two = second_true patterns (some && (few && (priority && (shards && looks)))) is in
    let three = second_true some (few && (priority && (shards && looks))) two in
    let four = second_true few (priority && (shards && looks)) three in
    let five = second_true priority (shards && looks) four in
    let six = second_true shards looks five in
    record {
      patterns = first_true patterns (some && (few && (priority && (shards && looks)))) is;
      some = leb-true 1 (length ps) (first_true some (few && (priority && (shards && looks))) two);
      few = leb-true (length ps) most_patterns (first_true few (priority && (shards && looks)) three);
      priority = leb-true t.priority greatest_priority (first_true priority (shards && looks) four);
      shards = to_shards t.shards (first_true shards looks five);
      look_back = to_look t.look_back (first_true (is_look t.look_back) (is_look t.look_ahead) six);
      look_ahead = to_look t.look_ahead (second_true (is_look t.look_back) (is_look t.look_ahead) six);
    }

of_range : (t : Template) → IsInRange t → is_in_range t ≡ true
of_range t is =
    both_true (list_all is_pattern t.patterns) _ is.patterns
    (both_true (nat_le 1 (length t.patterns)) _ (le-leb 1 (length t.patterns) is.some)
    (both_true (nat_le (length t.patterns) most_patterns) _ (le-leb (length t.patterns) most_patterns is.few)
    (both_true (nat_le t.priority greatest_priority) _ (le-leb t.priority greatest_priority is.priority)
    (both_true (are_shards t.shards) _ (of_shards t.shards is.shards)
    (both_true (is_look t.look_back) _ (of_look t.look_back is.look_back) (of_look t.look_ahead is.look_ahead))))))

-- ---- the whole

pub mapping_tested : (m : Mapping) → (spec.is_mapping m ≡ true) ↔ IsMapping m
mapping_tested m = (
  (λ is. record {
    shards = to_shards m.shards (first_true (are_shards m.shards) (is_schema m.schema) is);
    schema = to_schema m.schema (second_true (are_shards m.shards) (is_schema m.schema) is);
  }),
  (λ is. both_true (are_shards m.shards) (is_schema m.schema) (of_shards m.shards is.shards) (of_schema m.schema is.schema)),
)

pub template_tested : (t : Template) → (spec.is_template t ≡ true) ↔ IsTemplate t
template_tested t = (
  (λ is.
      let rest = second_true (is_in_range t) (not t.schema.folded && (t.schema.rises && is_schema t.schema)) is in
      let more = second_true (not t.schema.folded) (t.schema.rises && is_schema t.schema) rest in
      record {
        ranges = to_range t (first_true (is_in_range t) (not t.schema.folded && (t.schema.rises && is_schema t.schema)) is);
        schema = to_schema t.schema (second_true t.schema.rises (is_schema t.schema) more);
        raw = not_true t.schema.folded (first_true (not t.schema.folded) (t.schema.rises && is_schema t.schema) rest);
        rising = first_true t.schema.rises (is_schema t.schema) more;
      }),
  (λ is.
      both_true (is_in_range t) _ (of_range t is.ranges)
      (both_true (not t.schema.folded) _ (ap not is.raw) (both_true t.schema.rises (is_schema t.schema) is.rising (of_schema t.schema is.schema)))),
)

-- ---- steps of the code

-- which fields lie below some paths depends on which paths there are
pub below_alike : (ps qs : List (List ℕ)) → SamePaths ps qs → (fs : List Field) → are_below_any ps fs ≡ are_below_any qs fs
below_alike ps qs same [] = refl
below_alike ps qs same (f ∷ fs) = ap₂ (λ a b. a || b) (any_same (is_below f.path) ps qs same) (below_alike ps qs same fs)

pub none_at : (fs : List Field) (p : ℕ) → length fs ≤ p → false ≡ is_dimension_at fs p
none_at [] p le = refl
none_at (f ∷ fs) zero le = absurd (omega (arith, le))
none_at (f ∷ fs) (suc p) le = none_at fs p (omega (arith, le))

pub role_there : (fs : List Field) (p : ℕ) → p < length fs → is_dimension_role (get_or fs p time_field).role ≡ is_dimension_at fs p
role_there [] p lt = absurd (omega (arith, lt))
role_there (f ∷ fs) zero lt = refl
role_there (f ∷ fs) (suc p) lt = role_there fs p (omega (arith, lt))
