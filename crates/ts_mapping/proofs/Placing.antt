-- Fields put in their places.
use Rattle.std.proofs.Common.{◌≡◌, ◌≤◌, ◌+◌, ℕ, List, [], ◌∷◌, Bool, true, false, ◌||◌, Option, Some, None, Ordering, Less, Equal, Greater, length, map, bytes_eq, refl, sym, ap, ◌∙◌, subst, arith, inl, inr}
use Rattle.std.specs.Cmp.Lexicographic.{slice_cmp}
use Rattle.std.specs.Ordering.{nat_cmp, match_ordering}
use Rattle.std.proofs.lemmas.Map.Lookups.{exact_bytes}
use Rattle.row_cells.specs.declared.schemas.Field.{Field}
use Rattle.row_cells.specs.Dimensions.{IsBefore}
use Rattle.row_cells.specs.Fitting.{FieldsAscendAfter}
use Rattle.row_cells.specs.JoinLaws.{before_of_after}
use Rattle.row_cells.specs.Joining.{IsIn}
use Rattle.std.proofs.lemmas.Bool.{or_right}
use Rattle.ts_mapping.specs.Fields.{field_of, paths_of, put_field, put_if, with_fields}
use Rattle.ts_mapping.specs.Paths.{is_among}
use Rattle.ts_mapping.specs.Properties.{Property}
use Rattle.ts_mapping.proofs.Sets.{swap, twice}

abbrev pub AllOf : (Field → Type 0) → List Field → Type 0
AllOf P [] = Unit {0}
AllOf P (f ∷ fs) = P f × AllOf P fs

pub of_all : (P : Field → Type 0) (f : Field) (fs : List Field) → AllOf P fs → IsIn f fs → P f
of_all P f [] all is_in = absurd is_in
of_all P f (g ∷ gs) all is_in = elim is_in [ inl same ↦ subst P (sym same) all.0 | inr later ↦ of_all P f gs all.1 later ]

abbrev pub field_paths : List Field → List (List ℕ)
field_paths = map (λ f. f.path)

-- ---- one field

put_all : (P : Field → Type 0) (f : Field) (fs : List Field) → P f → AllOf P fs → AllOf P (put_field f fs)
put_all P f [] here all = (here, tt)
put_all P f (g ∷ gs) here all = go (slice_cmp nat_cmp f.path g.path) (put_all P f gs here all.1)
  where
    go : (o : Ordering) → AllOf P (put_field f gs) → AllOf P (match_ordering o (f ∷ g ∷ gs) (f ∷ gs) (g ∷ put_field f gs))
    go Less later = (here, all)
    go Equal later = (here, all.1)
    go Greater later = (all.0, later)

put_ascends : (p : List ℕ) (f : Field) (fs : List Field) → IsBefore p f.path → FieldsAscendAfter p fs → FieldsAscendAfter p (put_field f fs)
put_ascends p f [] before ascend = (before, tt)
put_ascends p f (g ∷ gs) before ascend = go (slice_cmp nat_cmp f.path g.path) refl (put_ascends g.path f gs)
  where
    go : (o : Ordering) → slice_cmp nat_cmp f.path g.path ≡ o → (IsBefore g.path f.path → FieldsAscendAfter g.path gs → FieldsAscendAfter g.path (put_field f gs)) → FieldsAscendAfter p (match_ordering o (f ∷ g ∷ gs) (f ∷ gs) (g ∷ put_field f gs))
    go Less is later = (before, (is, ascend.1))
    go Equal is later = (before, subst (λ q. FieldsAscendAfter q gs) (sym (exact_bytes f.path g.path is)) ascend.1)
    go Greater is later = (ascend.0, later (before_of_after f.path g.path is) ascend.1)

put_paths : (q : List ℕ) (f : Field) (fs : List Field) → is_among q (field_paths (put_field f fs)) ≡ bytes_eq q f.path || is_among q (field_paths fs)
put_paths q f [] = refl
put_paths q f (g ∷ gs) = go (slice_cmp nat_cmp f.path g.path) refl (put_paths q f gs)
  where
    go : (o : Ordering) → slice_cmp nat_cmp f.path g.path ≡ o → is_among q (field_paths (put_field f gs)) ≡ bytes_eq q f.path || is_among q (field_paths gs)
        → is_among q (field_paths (match_ordering o (f ∷ g ∷ gs) (f ∷ gs) (g ∷ put_field f gs))) ≡ bytes_eq q f.path || is_among q (field_paths (g ∷ gs))
    go Less is later = refl
    go Equal is later = rw (exact_bytes f.path g.path is) (twice (bytes_eq q g.path) (is_among q (field_paths gs)))
    go Greater is later = ap (λ b. bytes_eq q g.path || b) later ∙ swap (bytes_eq q g.path) (bytes_eq q f.path) (is_among q (field_paths gs))

put_length : (f : Field) (fs : List Field) → length (put_field f fs) ≤ length fs + 1
put_length f [] = omega arith
put_length f (g ∷ gs) = go (slice_cmp nat_cmp f.path g.path) (put_length f gs)
  where
    go : (o : Ordering) → length (put_field f gs) ≤ length gs + 1 → length (match_ordering o (f ∷ g ∷ gs) (f ∷ gs) (g ∷ put_field f gs)) ≤ length (g ∷ gs) + 1
    go Less later = omega arith
    go Equal later = omega arith
    go Greater later = omega (arith, later)

-- ---- the fields of properties

-- what holds of the field of each property that is one
abbrev pub AllBy : (Field → Type 0) → List Property → Type 0
AllBy P [] = Unit {0}
AllBy P (p ∷ ps) = ((f : Field) → field_of p ≡ Some f → P f) × AllBy P ps

pub with_all : (P : Field → Type 0) (fs : List Field) (ps : List Property) → AllOf P fs → AllBy P ps → AllOf P (with_fields fs ps)
with_all P fs [] all by = all
with_all P fs (p ∷ ps) all by = with_all P (put_if (field_of p) fs) ps (go (field_of p) by.0) by.1
  where
    go : (o : Option Field) → ((f : Field) → o ≡ Some f → P f) → AllOf P (put_if o fs)
    go None each = all
    go (Some f) each = put_all P f fs (each f refl) all

pub with_ascends : (fs : List Field) (ps : List Property) → FieldsAscendAfter [] fs → AllBy (λ f. IsBefore [] f.path) ps → FieldsAscendAfter [] (with_fields fs ps)
with_ascends fs [] ascend by = ascend
with_ascends fs (p ∷ ps) ascend by = with_ascends (put_if (field_of p) fs) ps (go (field_of p) by.0) by.1
  where
    go : (o : Option Field) → ((f : Field) → o ≡ Some f → IsBefore [] f.path) → FieldsAscendAfter [] (put_if o fs)
    go None each = ascend
    go (Some f) each = put_ascends [] f fs (each f refl) ascend

pub with_length : (fs : List Field) (ps : List Property) → length (with_fields fs ps) ≤ length fs + length ps
with_length fs [] = omega arith
with_length fs (p ∷ ps) = go (field_of p) (with_length (put_if (field_of p) fs) ps)
  where
    go : (o : Option Field) → length (with_fields (put_if o fs) ps) ≤ length (put_if o fs) + length ps → length (with_fields (put_if o fs) ps) ≤ length fs + length (p ∷ ps)
    go None later = omega (arith, later)
    go (Some f) later = omega (arith, later, put_length f fs)

-- a path that some field has stays
pub with_keeps : (q : List ℕ) (fs : List Field) (ps : List Property) → is_among q (field_paths fs) ≡ true → is_among q (field_paths (with_fields fs ps)) ≡ true
with_keeps q fs [] is = is
with_keeps q fs (p ∷ ps) is = with_keeps q (put_if (field_of p) fs) ps (go (field_of p))
  where
    go : (o : Option Field) → is_among q (field_paths (put_if o fs)) ≡ true
    go None = is
    go (Some f) = put_paths q f fs ∙ or_right (bytes_eq q f.path) (is_among q (field_paths fs)) is

-- each property is a field at its path
abbrev pub AreAllFields : List Property → Type 0
AreAllFields [] = Unit {0}
AreAllFields (p ∷ ps) = ((f : Field) × (field_of p ≡ Some f) × (f.path ≡ p.path)) × AreAllFields ps

-- so its path is among those of the fields
pub with_gets : (q : List ℕ) (fs : List Field) (ps : List Property) → AreAllFields ps → is_among q (paths_of ps) ≡ true → is_among q (field_paths (with_fields fs ps)) ≡ true
with_gets q fs [] are is = cc
with_gets q fs (p ∷ ps) are is = go (bytes_eq q p.path) refl is (with_gets q (put_if (field_of p) fs) ps are.1)
  where
    go : (v : Bool) → bytes_eq q p.path ≡ v → (v || is_among q (paths_of ps)) ≡ true
        → (is_among q (paths_of ps) ≡ true → is_among q (field_paths (with_fields (put_if (field_of p) fs) ps)) ≡ true)
        → is_among q (field_paths (with_fields (put_if (field_of p) fs) ps)) ≡ true
    go false same is later = later is
    go true same is later =
        let f = are.0.0 in
        let here : is_among q (field_paths (put_field f fs)) ≡ true = put_paths q f fs ∙ ap (λ b. b || is_among q (field_paths fs)) (ap (bytes_eq q) are.0.2 ∙ same) in
        with_keeps q (put_if (field_of p) fs) ps (subst (λ o. is_among q (field_paths (put_if o fs)) ≡ true) (sym are.0.1) here)
