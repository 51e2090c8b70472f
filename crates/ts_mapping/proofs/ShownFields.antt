-- What the fields of a body that shows a template are read as.
use Rattle.std.proofs.Common.{◌≡◌, ◌≤◌, ◌-◌, ◌==◌, ◌||◌, ◌&&◌, ℕ, zero, suc, List, [], ◌∷◌, ◌++◌, Bool, true, false, cond, not, Some, None, length, map, bytes_eq, refl, sym, ap, ap₂, ◌∙◌, subst, arith, append_assoc, append-nil, ◌⊎◌, inl, inr}
use Rattle.std.specs.Prelude.{is_some, option_and_then, if◌then◌else◌}
use Rattle.std.specs.Ordering.{match_ordering}
use Rattle.std.proofs.lemmas.Bool.{eqb-true, or_right}
use Rattle.std.proofs.lemmas.Bool.Decides.{nat_tests}
use Rattle.serde_json.specs.Data.{Data}
use Rattle.row_cells.specs.declared.schemas.FieldType.{FieldType}
use Rattle.row_cells.specs.declared.schemas.Role.{Role}
use Rattle.row_cells.specs.declared.schemas.Role.TheVariants.{Time, Dimension, Gauge, Counter, Label}
use Rattle.row_cells.specs.declared.schemas.Field.{Field}
use Rattle.row_cells.specs.Dimensions.{IsBefore}
use Rattle.row_cells.specs.Fitting.{FieldsAscendAfter}
use Rattle.row_cells.specs.JoinLaws.{after_is, before_chain, not_before_itself}
use Rattle.row_cells.specs.Joining.{IsIn}
use Rattle.row_cells.specs.Mapped.{AreDimensionsAt, IsDimensionAt, PlacesAscendFrom}
use Rattle.ts_mapping.specs.Checks.{field_paths}
use Rattle.ts_mapping.specs.Faults.{bad_entries, below_fault, fails, has_role, is_below_any, is_time, is_typed, may_be_time, repeated}
use Rattle.ts_mapping.specs.Fields.{dimension_paths, field_by, field_of, field_with, is_dimension, is_dimension_role, metric_of, paths_of, put_field, put_if, role_at, role_by, role_of, routing_from, time_role, with_fields}
use Rattle.ts_mapping.specs.Least.{all_faults, fault_unless, under}
use Rattle.ts_mapping.specs.Paths.{is_among, is_below, timestamp}
use Rattle.ts_mapping.specs.PathLaws.{any_in, exact, itself}
use Rattle.ts_mapping.specs.Properties.{Placed, leaves_in, listed_members, property_at}
use Rattle.ts_mapping.specs.Schemas.{AreApart, AreTemplateFields, IsTemplateField, time_field}
use Rattle.ts_mapping.specs.Shapes.{property_faults}
use Rattle.ts_mapping.proofs.Shown.{IsShown, field_data, field_shown, leaf_of, placed_at, shown_fields}
use Rattle.ts_mapping.proofs.Tested.{in_paths, of_paths}

pub shown_of : (f : Field) → IsTemplateField f → IsShown f.kind f.role (field_data f)
shown_of f is = field_shown f.kind f.role is.role

-- ---- the properties that are sent

one_more : (place : List ℕ) (f : Field) (rest more : List Placed) → IsShown f.kind f.role (field_data f) → rest ≡ more → property_at (under place f.path) f.path (field_data f) ++ rest ≡ placed_at place f ∷ more
one_more place f rest more is same = ap₂ (λ xs ys. xs ++ ys) (is.alone (under place f.path) f.path) same

pub all_listed : (place : List ℕ) (fs : List Field) → AreTemplateFields fs → listed_members place None (shown_fields fs) ≡ map (placed_at place) fs
all_listed place [] are = refl
all_listed place (f ∷ fs) are = one_more place f (listed_members place None (shown_fields fs)) (map (placed_at place) fs) (shown_of f are.0) (all_listed place fs are.1)

pub all_leaves : (place : List ℕ) (fs : List Field) → AreTemplateFields fs → leaves_in (map (placed_at place) fs) ≡ map leaf_of fs
all_leaves place [] are = refl
all_leaves place (f ∷ fs) are = ap₂ (λ b ps. cond b (leaves_in (map (placed_at place) fs)) (leaf_of f ∷ ps)) (shown_of f are.0).leaf (all_leaves place fs are.1)

pub none_formed : (place : List ℕ) (fs : List Field) → AreTemplateFields fs → all_faults property_faults (map (placed_at place) fs) ≡ []
unfolding property_faults
none_formed place [] are = refl
none_formed place (f ∷ fs) are =
    ap₂ (λ xs ys. xs ++ ys) (ap₂ (λ b xs. fault_unless b (under place f.path) ++ xs) are.0.path ((shown_of f are.0).formed (under place f.path))) (none_formed place fs are.1)

pub leaf_paths : (fs : List Field) → paths_of (map leaf_of fs) ≡ field_paths fs
leaf_paths [] = refl
leaf_paths (f ∷ fs) = ap (λ ps. f.path ∷ ps) (leaf_paths fs)

pub leaf_count : (fs : List Field) → length (map leaf_of fs) ≡ length fs
leaf_count [] = refl
leaf_count (f ∷ fs) = ap suc (leaf_count fs)

-- ---- the field of a property

elsewhere : (f : Field) → IsTemplateField f → (f.role ≡ Time → ⊥) → bytes_eq f.path timestamp ≡ false
elsewhere f is untimed = go (bytes_eq f.path timestamp) refl
  where
    go : (v : Bool) → bytes_eq f.path timestamp ≡ v → v ≡ false
    go false e = refl
    go true e = absurd (untimed (is.time.1 (exact f.path timestamp e)))

at_other : (path : List ℕ) (kind : FieldType) (d : Data) (role : Role) → bytes_eq path timestamp ≡ false → role_by kind (is_dimension d) (metric_of d) ≡ Some role → role_at path kind (is_dimension d) (metric_of d) ≡ Some role
at_other path kind d role other is = ap (λ b. cond b (time_role kind (is_dimension d) (metric_of d)) (role_by kind (is_dimension d) (metric_of d))) other ∙ is

at_own : (path : List ℕ) (kind : FieldType) (d : Data) (role : Role) → bytes_eq path timestamp ≡ true → time_role kind (is_dimension d) (metric_of d) ≡ Some role → role_at path kind (is_dimension d) (metric_of d) ≡ Some role
at_own path kind d role own is = ap (λ b. cond b (time_role kind (is_dimension d) (metric_of d)) (role_by kind (is_dimension d) (metric_of d))) own ∙ is

role_shown : (path : List ℕ) (kind : FieldType) (role : Role) (d : Data) → IsTemplateField (record { path = path; kind = kind; role = role }) → IsShown kind role d → role_at path kind (is_dimension d) (metric_of d) ≡ Some role
role_shown path kind Time d is shown = at_own path kind d Time (ap (λ p. bytes_eq p timestamp) (is.time.0 refl) ∙ itself timestamp) shown.had
role_shown path kind Dimension d is shown = at_other path kind d Dimension (elsewhere (record { path = path; kind = kind; role = Dimension }) is (λ e. cc)) shown.had
role_shown path kind Gauge d is shown = at_other path kind d Gauge (elsewhere (record { path = path; kind = kind; role = Gauge }) is (λ e. cc)) shown.had
role_shown path kind Counter d is shown = at_other path kind d Counter (elsewhere (record { path = path; kind = kind; role = Counter }) is (λ e. cc)) shown.had
role_shown path kind Label d is shown = at_other path kind d Label (elsewhere (record { path = path; kind = kind; role = Label }) is (λ e. cc)) shown.had

role_is : (f : Field) → IsTemplateField f → role_of f.kind (leaf_of f) ≡ Some f.role
unfolding role_of
role_is f is = role_shown f.path f.kind f.role (field_data f) is (shown_of f is)

field_is : (f : Field) → IsTemplateField f → field_of (leaf_of f) ≡ Some f
unfolding field_of
field_is f is = ap (field_by (leaf_of f)) (shown_of f is).typed ∙ ap (field_with f.path f.kind) (role_is f is)

pub none_untyped : (fs : List Field) → AreTemplateFields fs → all_faults (fails is_typed) (map leaf_of fs) ≡ []
none_untyped [] are = refl
none_untyped (f ∷ fs) are = ap₂ (λ b xs. fault_unless b f.path ++ xs) (ap is_some (shown_of f are.0).typed) (none_untyped fs are.1)

pub none_without_role : (fs : List Field) → AreTemplateFields fs → all_faults (fails has_role) (map leaf_of fs) ≡ []
none_without_role [] are = refl
none_without_role (f ∷ fs) are =
    ap₂ (λ b xs. fault_unless b f.path ++ xs) (ap (λ o. is_some (option_and_then (λ kind. role_of kind (leaf_of f)) o)) (shown_of f are.0).typed ∙ ap is_some (role_is f are.0)) (none_without_role fs are.1)

time_may : (path : List ℕ) (kind : FieldType) (role : Role) (d : Data) → IsTemplateField (record { path = path; kind = kind; role = role }) → IsShown kind role d → may_be_time (record { path = path; value = d }) ≡ true
time_may path kind Time d is shown = or_right (not (bytes_eq path timestamp)) (is_time d) shown.timely
time_may path kind Dimension d is shown = ap (λ b. not b || is_time d) (elsewhere (record { path = path; kind = kind; role = Dimension }) is (λ e. cc))
time_may path kind Gauge d is shown = ap (λ b. not b || is_time d) (elsewhere (record { path = path; kind = kind; role = Gauge }) is (λ e. cc))
time_may path kind Counter d is shown = ap (λ b. not b || is_time d) (elsewhere (record { path = path; kind = kind; role = Counter }) is (λ e. cc))
time_may path kind Label d is shown = ap (λ b. not b || is_time d) (elsewhere (record { path = path; kind = kind; role = Label }) is (λ e. cc))

pub none_untimely : (fs : List Field) → AreTemplateFields fs → all_faults (fails may_be_time) (map leaf_of fs) ≡ []
none_untimely [] are = refl
none_untimely (f ∷ fs) are = ap₂ (λ b xs. fault_unless b f.path ++ xs) (time_may f.path f.kind f.role (field_data f) are.0 (shown_of f are.0)) (none_untimely fs are.1)

-- ---- paths that come after others

-- each of some paths is this one, or stands before it
abbrev pub AreUpTo : List ℕ → List (List ℕ) → Type 0
AreUpTo p [] = Unit {0}
AreUpTo p (q ∷ qs) = ((q ≡ p) ⊎ IsBefore q p) × AreUpTo p qs

up_to_later : (p r : List ℕ) (qs : List (List ℕ)) → IsBefore p r → AreUpTo p qs → AreUpTo r qs
up_to_later p r [] before all = tt
up_to_later p r (q ∷ qs) before all = (inr (elim all.0 [ inl same ↦ subst (λ x. IsBefore x r) (sym same) before | inr less ↦ before_chain q p r less before ]), up_to_later p r qs before all.1)

-- a later path isn't among them
pub not_among : (p r : List ℕ) (qs : List (List ℕ)) → IsBefore p r → AreUpTo p qs → is_among r qs ≡ false
not_among p r [] before all = refl
not_among p r (q ∷ qs) before all = ap₂ (λ a b. a || b) (go (bytes_eq r q) refl) (not_among p r qs before all.1)
  where
    less : IsBefore q r
    less = elim all.0 [ inl same ↦ subst (λ x. IsBefore x r) (sym same) before | inr earlier ↦ before_chain q p r earlier before ]

    go : (v : Bool) → bytes_eq r q ≡ v → v ≡ false
    go false e = refl
    go true e = absurd (not_before_itself r (subst (λ x. IsBefore x r) (sym (exact r q e)) less))

pub none_repeated : (p : List ℕ) (before : List (List ℕ)) (fs : List Field) → AreUpTo p before → FieldsAscendAfter p fs → repeated before (field_paths fs) ≡ []
none_repeated p before [] up ascend = refl
none_repeated p before (f ∷ fs) up ascend =
    ap₂ (λ b xs. fault_unless (not b) f.path ++ xs) (not_among p f.path before ascend.0 up)
    (none_repeated f.path (f.path ∷ before) fs (inl refl, up_to_later p f.path before ascend.0 up) ascend.1)

-- ---- fields put in their places one after the other

put_last : (p : List ℕ) (f : Field) (done : List Field) → IsBefore p f.path → AreUpTo p (field_paths done) → put_field f done ≡ done ++ f ∷ []
put_last p f [] before up = refl
put_last p f (g ∷ gs) before up =
    ap (λ o. match_ordering o (f ∷ g ∷ gs) (f ∷ gs) (g ∷ put_field f gs)) (after_is g.path f.path less) ∙ ap (λ xs. g ∷ xs) (put_last p f gs before up.1)
  where
    less : IsBefore g.path f.path
    less = elim up.0 [ inl same ↦ subst (λ x. IsBefore x f.path) (sym same) before | inr earlier ↦ before_chain g.path p f.path earlier before ]

up_to_more : (p : List ℕ) (f : Field) (done : List Field) → IsBefore p f.path → AreUpTo p (field_paths done) → AreUpTo f.path (field_paths (done ++ f ∷ []))
up_to_more p f [] before up = (inl refl, tt)
up_to_more p f (g ∷ gs) before up = (inr less, up_to_more p f gs before up.1)
  where
    less : IsBefore g.path f.path
    less = elim up.0 [ inl same ↦ subst (λ x. IsBefore x f.path) (sym same) before | inr earlier ↦ before_chain g.path p f.path earlier before ]

pub all_put : (p : List ℕ) (done fs : List Field) → AreUpTo p (field_paths done) → FieldsAscendAfter p fs → AreTemplateFields fs → with_fields done (map leaf_of fs) ≡ done ++ fs
all_put p done [] up ascend are = sym (append-nil done)
all_put p done (f ∷ fs) up ascend are =
    ap (λ o. with_fields (put_if o done) (map leaf_of fs)) (field_is f are.0)
    ∙ (ap (λ xs. with_fields xs (map leaf_of fs)) (put_last p f done ascend.0 up)
    ∙ (all_put f.path (done ++ f ∷ []) fs (up_to_more p f done ascend.0 up) ascend.1 are.1
    ∙ append_assoc done (f ∷ []) fs))

-- ---- no field below another

pub none_below : (fs : List Field) (qs : List (List ℕ)) → AreApart fs → IsIn time_field fs → ((q : List ℕ) → is_among q qs ≡ true → is_among q (field_paths fs) ≡ true) → all_faults (below_fault (timestamp ∷ field_paths fs)) qs ≡ []
none_below fs [] apart timed within = refl
none_below fs (q ∷ qs) apart timed within =
    ap₂ (λ b xs. fault_unless (not b) q ++ xs) (go (is_below_any q (timestamp ∷ field_paths fs)) refl)
    (none_below fs qs apart timed (λ r is. within r (or_right (bytes_eq r q) (is_among r qs) is)))
  where
    own : is_among q (field_paths fs) ≡ true
    own = within q (ap (λ b. b || is_among q qs) (itself q))

    by : (r : List ℕ) → is_among r (timestamp ∷ field_paths fs) ≡ true → is_among r (field_paths fs) ≡ true
    by r is = at (bytes_eq r timestamp) refl is
      where
        at : (v : Bool) → bytes_eq r timestamp ≡ v → (v || is_among r (field_paths fs)) ≡ true → is_among r (field_paths fs) ≡ true
        at true same is = subst (λ x. is_among x (field_paths fs) ≡ true) (sym (exact r timestamp same)) (in_paths time_field fs timed)
        at false same is = is

    go : (v : Bool) → is_below_any q (timestamp ∷ field_paths fs) ≡ v → v ≡ false
    go false is = refl
    go true is =
        let one = any_in (is_below q) (timestamp ∷ field_paths fs) is in
        let below = of_paths q fs own in
        let above = of_paths one.path fs (by one.path one.among) in
        sym (sym (ap₂ is_below below.path above.path) ∙ one.pass) ∙ apart below.field above.field below.is_in above.is_in

-- ---- routing

-- the paths of the fields at some places that ascend, where the first field has this place
abbrev pub entries_from : ℕ → List Field → List ℕ → List (List ℕ)
entries_from place [] rs = []
entries_from place (f ∷ fs) [] = []
entries_from place (f ∷ fs) (r ∷ rs) = if place == r then f.path ∷ entries_from (suc place) fs rs else entries_from (suc place) fs (r ∷ rs)

-- such places are those of dimensions
abbrev pub AreRouted : ℕ → List Field → List ℕ → Type 0
AreRouted place fs [] = Unit {0}
AreRouted place fs (r ∷ rs) = (place ≤ r) × IsDimensionAt fs (r - place) × AreRouted place fs rs

routed_later : (place : ℕ) (f : Field) (fs : List Field) (least count : ℕ) (rs : List ℕ) → suc place ≤ least → PlacesAscendFrom least count rs → AreRouted place (f ∷ fs) rs → AreRouted (suc place) fs rs
routed_later place f fs least count [] low ascend are = tt
routed_later place f fs least count (r ∷ rs) low ascend are = (
  omega (arith, low, ascend.0),
  (let behind : r - place ≡ suc (r - suc place) = omega (arith, low, ascend.0) in subst (IsDimensionAt (f ∷ fs)) behind are.1),
  routed_later place f fs (suc r) count rs (omega (arith, low, ascend.0)) ascend.2 are.2,
)

pub routed_first : (fs : List Field) (rs : List ℕ) → AreDimensionsAt fs rs → AreRouted 0 fs rs
routed_first fs [] are = tt
routed_first fs (r ∷ rs) are = let whole : r ≡ r - 0 = omega arith in (omega arith, subst (IsDimensionAt fs) whole are.0, routed_first fs rs are.1)

here_dimension : (place r : ℕ) (f : Field) (fs : List Field) → (place == r) ≡ true → IsDimensionAt (f ∷ fs) (r - place) → f.role ≡ Dimension
here_dimension place r f fs same is =
    let e : place ≡ r = eqb-true place r same in
    let none : r - place ≡ 0 = omega (arith, e) in
    subst (IsDimensionAt (f ∷ fs)) none is

other_place : (place r : ℕ) → (place == r) ≡ false → place ≤ r → suc place ≤ r
other_place place r other le = grind (arith, nat_tests)

none_entries : (place : ℕ) (fs : List Field) → entries_from place fs [] ≡ []
none_entries place [] = refl
none_entries place (f ∷ fs) = refl

-- such paths are those of later fields
later_entries : (p q : List ℕ) (place : ℕ) (fs : List Field) (rs : List ℕ) → ((q ≡ p) ⊎ IsBefore q p) → FieldsAscendAfter p fs → is_among q (entries_from place fs rs) ≡ false
later_entries p q place [] rs up ascend = refl
later_entries p q place (f ∷ fs) [] up ascend = refl
later_entries p q place (f ∷ fs) (r ∷ rs) up ascend =
    go (place == r) (later_entries f.path q (suc place) fs rs (inr less) ascend.1) (later_entries f.path q (suc place) fs (r ∷ rs) (inr less) ascend.1)
  where
    less : IsBefore q f.path
    less = elim up [ inl same ↦ subst (λ x. IsBefore x f.path) (sym same) ascend.0 | inr earlier ↦ before_chain q p f.path earlier ascend.0 ]

    apart : (v : Bool) → bytes_eq q f.path ≡ v → v ≡ false
    apart false e = refl
    apart true e = absurd (not_before_itself f.path (subst (λ x. IsBefore x f.path) (exact q f.path e) less))

    go : (v : Bool) → is_among q (entries_from (suc place) fs rs) ≡ false → is_among q (entries_from (suc place) fs (r ∷ rs)) ≡ false → is_among q (cond v (f.path ∷ entries_from (suc place) fs rs) (entries_from (suc place) fs (r ∷ rs))) ≡ false
    go true one two = ap₂ (λ a b. a || b) (apart (bytes_eq q f.path) refl) one
    go false one two = two

swapped : (a b c : Bool) → (a || (b || c)) ≡ ((b || a) || c)
swapped true true c = refl
swapped true false c = refl
swapped false true c = refl
swapped false false c = refl

or_false : (a b : Bool) → a ≡ false → b ≡ false → (a || b) ≡ false
or_false a b x y = ap₂ (λ a b. a || b) x y

-- which paths the entries are: those of earlier fields, and those that are ahead
abbrev AreEntries : List (List ℕ) → List (List ℕ) → ℕ → List Field → List ℕ → Type 0
AreEntries entries before place fs rs = (q : List ℕ) → is_among q entries ≡ (is_among q before || is_among q (entries_from place fs rs))

unlisted : (entries before : List (List ℕ)) (place : ℕ) (f : Field) (fs : List Field) (rest : List ℕ) → is_among f.path entries ≡ false → routing_from (Some entries) (suc place) fs ≡ rest → routing_from (Some entries) place (f ∷ fs) ≡ rest
unlisted entries before place f fs rest none later = ap₂ (λ b xs. cond b (place ∷ []) [] ++ xs) (go (is_dimension_role f.role) none) later
  where
    go : (v : Bool) → is_among f.path entries ≡ false → (v && is_among f.path entries) ≡ false
    go true is = is
    go false is = refl

-- the fields that such entries list are those at the places
pub routes_back : (entries before : List (List ℕ)) (p : List ℕ) (place least count : ℕ) (fs : List Field) (rs : List ℕ) → AreEntries entries before place fs rs → AreUpTo p before → FieldsAscendAfter p fs → place ≤ least → PlacesAscendFrom least count rs → AreRouted place fs rs → routing_from (Some entries) place fs ≡ rs
routes_back entries before p place least count [] [] are up ascend low places routed = refl
routes_back entries before p place least count [] (r ∷ rs) are up ascend low places routed = absurd routed.1
routes_back entries before p place least count (f ∷ fs) [] are up ascend low places routed =
    unlisted entries before place f fs []
    (are f.path ∙ or_false (is_among f.path before) (is_among f.path []) (not_among p f.path before ascend.0 up) refl)
    (routes_back entries before f.path (suc place) (suc place) count fs []
    (λ q. are q ∙ ap (λ xs. is_among q before || is_among q xs) (sym (none_entries (suc place) fs))) (up_to_later p f.path before ascend.0 up) ascend.1 (omega arith) tt tt)
routes_back entries before p place least count (f ∷ fs) (r ∷ rs) are up ascend low places routed =
    go (place == r) refl are
    (λ known. routes_back entries (f.path ∷ before) f.path (suc place) (suc r) count fs rs known (inl refl, up_to_later p f.path before ascend.0 up) ascend.1 (omega (arith, low, places.0)) places.2
    (routed_later place f fs (suc r) count rs (omega (arith, low, places.0)) places.2 routed.2))
    (λ other known. routes_back entries before f.path (suc place) r count fs (r ∷ rs) known (up_to_later p f.path before ascend.0 up) ascend.1 (other_place place r other (omega (arith, low, places.0))) (omega arith, places.1, places.2)
    (routed_later place f fs r count (r ∷ rs) (other_place place r other (omega (arith, low, places.0))) (omega arith, places.1, places.2) routed))
  where
    Mixed : Bool → Type 0
    Mixed v = (q : List ℕ) → is_among q entries ≡ (is_among q before || is_among q (cond v (f.path ∷ entries_from (suc place) fs rs) (entries_from (suc place) fs (r ∷ rs))))

    go : (v : Bool) → (place == r) ≡ v → Mixed v → (AreEntries entries (f.path ∷ before) (suc place) fs rs → routing_from (Some entries) (suc place) fs ≡ rs)
        → ((place == r) ≡ false → AreEntries entries before (suc place) fs (r ∷ rs) → routing_from (Some entries) (suc place) fs ≡ r ∷ rs)
        → routing_from (Some entries) place (f ∷ fs) ≡ r ∷ rs
    go true same mixed here there =
        let known : AreEntries entries (f.path ∷ before) (suc place) fs rs = λ q. mixed q ∙ swapped (is_among q before) (bytes_eq q f.path) (is_among q (entries_from (suc place) fs rs)) in
        let dimension = ap is_dimension_role (here_dimension place r f fs same routed.1) in
        let listed : is_among f.path entries ≡ true = known f.path ∙ ap (λ b. (b || is_among f.path before) || is_among f.path (entries_from (suc place) fs rs)) (itself f.path) in
        ap₂ (λ b xs. cond b (place ∷ []) [] ++ xs) (ap₂ (λ a b. a && b) dimension listed) (here known) ∙ ap (λ n. n ∷ rs) (eqb-true place r same)
    go false other mixed here there =
        unlisted entries before place f fs (r ∷ rs)
        (mixed f.path ∙ or_false (is_among f.path before) (is_among f.path (entries_from (suc place) fs (r ∷ rs))) (not_among p f.path before ascend.0 up) (later_entries f.path f.path (suc place) fs (r ∷ rs) (inl refl) ascend.1))
        (there other mixed)

-- ---- nothing is at fault in the entries

dimension_more : (q : List ℕ) (f : Field) (fs : List Field) → is_among q (dimension_paths fs) ≡ true → is_among q (dimension_paths (f ∷ fs)) ≡ true
dimension_more q f fs is = go (is_dimension_role f.role)
  where
    go : (v : Bool) → is_among q (cond v (f.path ∷ []) [] ++ dimension_paths fs) ≡ true
    go true = or_right (bytes_eq q f.path) (is_among q (dimension_paths fs)) is
    go false = is

dimension_here : (f : Field) (fs : List Field) → f.role ≡ Dimension → is_among f.path (dimension_paths (f ∷ fs)) ≡ true
dimension_here f fs is = ap (λ v. is_among f.path (cond v (f.path ∷ []) [] ++ dimension_paths fs)) (ap is_dimension_role is) ∙ ap (λ b. b || is_among f.path (dimension_paths fs)) (itself f.path)

pub none_bad : (dimensions before : List (List ℕ)) (p : List ℕ) (place least count : ℕ) (fs : List Field) (rs : List ℕ) → ((q : List ℕ) → is_among q (dimension_paths fs) ≡ true → is_among q dimensions ≡ true) → AreUpTo p before → FieldsAscendAfter p fs → place ≤ least → PlacesAscendFrom least count rs → AreRouted place fs rs → bad_entries dimensions before (entries_from place fs rs) ≡ []
none_bad dimensions before p place least count [] rs all up ascend low places routed = refl
none_bad dimensions before p place least count (f ∷ fs) [] all up ascend low places routed = refl
none_bad dimensions before p place least count (f ∷ fs) (r ∷ rs) all up ascend low places routed =
    go (place == r) refl
    (none_bad dimensions (f.path ∷ before) f.path (suc place) (suc r) count fs rs (λ q is. all q (dimension_more q f fs is)) (inl refl, up_to_later p f.path before ascend.0 up) ascend.1 (omega (arith, low, places.0)) places.2
    (routed_later place f fs (suc r) count rs (omega (arith, low, places.0)) places.2 routed.2))
    (λ other. none_bad dimensions before f.path (suc place) r count fs (r ∷ rs) (λ q is. all q (dimension_more q f fs is)) (up_to_later p f.path before ascend.0 up) ascend.1 (other_place place r other (omega (arith, low, places.0)))
    (omega arith, places.1, places.2) (routed_later place f fs r count (r ∷ rs) (other_place place r other (omega (arith, low, places.0))) (omega arith, places.1, places.2) routed))
  where
    go : (v : Bool) → (place == r) ≡ v → bad_entries dimensions (f.path ∷ before) (entries_from (suc place) fs rs) ≡ []
        → ((place == r) ≡ false → bad_entries dimensions before (entries_from (suc place) fs (r ∷ rs)) ≡ [])
        → bad_entries dimensions before (cond v (f.path ∷ entries_from (suc place) fs rs) (entries_from (suc place) fs (r ∷ rs))) ≡ []
    go true same here there =
        let dimension = all f.path (dimension_here f fs (here_dimension place r f fs same routed.1)) in
        ap₂ (λ b xs. fault_unless b f.path ++ xs) (ap₂ (λ a b. a && not b) dimension (not_among p f.path before ascend.0 up)) here
    go false other here there = there other

pub some_entries : (place least count : ℕ) (fs : List Field) (r : ℕ) (rs : List ℕ) → place ≤ least → PlacesAscendFrom least count (r ∷ rs) → AreRouted place fs (r ∷ rs) → 1 ≤ length (entries_from place fs (r ∷ rs))
some_entries place least count [] r rs low places routed = absurd routed.1
some_entries place least count (f ∷ fs) r rs low places routed =
    go (place == r) refl (λ other. some_entries (suc place) r count fs r rs (other_place place r other (omega (arith, low, places.0))) (omega arith, places.1, places.2)
    (routed_later place f fs r count (r ∷ rs) (other_place place r other (omega (arith, low, places.0))) (omega arith, places.1, places.2) routed))
  where
    go : (v : Bool) → (place == r) ≡ v → ((place == r) ≡ false → 1 ≤ length (entries_from (suc place) fs (r ∷ rs))) → 1 ≤ length (cond v (f.path ∷ entries_from (suc place) fs rs) (entries_from (suc place) fs (r ∷ rs)))
    go true same later = omega arith
    go false other later = later other

pub some_dimension : (fs : List Field) (k : ℕ) → IsDimensionAt fs k → 1 ≤ length (dimension_paths fs)
some_dimension [] k is = absurd is
some_dimension (f ∷ fs) zero is = subst (λ v. 1 ≤ length (cond v (f.path ∷ []) [] ++ dimension_paths fs)) (sym (ap is_dimension_role is)) (omega arith)
some_dimension (f ∷ fs) (suc k) is = go (is_dimension_role f.role) (some_dimension fs k is)
  where
    go : (v : Bool) → 1 ≤ length (dimension_paths fs) → 1 ≤ length (cond v (f.path ∷ []) [] ++ dimension_paths fs)
    go true later = omega arith
    go false later = later
