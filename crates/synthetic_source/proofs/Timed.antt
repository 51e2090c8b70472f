-- The time of a document among the leaves of a walk.
use Rattle.std.proofs.Common.{◌≡◌, ◌⊎◌, inl, inr, ℤ, ℕ, List, [], ◌∷◌, ◌++◌, Bool, true, false, cond, not, ◌||◌, nat_eq, bytes_eq, eqb-true, Option, Some, None, refl, sym, ap, ap₂, ◌∙◌, subst}
use Rattle.std.specs.List.{list_any}
use Rattle.std.specs.Option.{is_some}
use Rattle.row_cells.specs.declared.scalars.Scalar.{Scalar}
use Rattle.row_cells.specs.declared.schemas.FieldType.{FieldType}
use Rattle.row_cells.specs.declared.schemas.FieldType.TheVariants.{Date, Keyword, Long, Integer, Short, Byte, Boolean, Aggregate}
use Rattle.row_cells.specs.declared.schemas.Role.{Role}
use Rattle.row_cells.specs.declared.schemas.Role.TheVariants.{Time, Dimension, Gauge, Counter, Label}
use Rattle.row_cells.specs.declared.schemas.Field.{Field}
use Rattle.row_cells.specs.declared.schemas.Schema.{Schema}
use Rattle.row_cells.specs.WidenLaws.{other_bytes}
use Rattle.serde_json.specs.Data.{Data, null, boolean, number, string, array, object, Items, no_items, item, Members, no_members, member}
use Rattle.json_walk.specs.Leaves.{AreLeaves, at, at_items, at_members, given, leaves_of, placed_at, whole_object}
use Rattle.json_walk.specs.Listed.{listed}
use Rattle.json_walk.specs.Path.{behind_name, end, text}
use Rattle.json_walk.specs.WalkLaws.{listed_are_leaves}
use Rattle.ts_mapping.specs.Paths.{timestamp}
use Rattle.ts_mapping.specs.Readings.{reading_of}
use Rattle.ts_mapping.specs.Roles.{is_aggregate, is_date, may_have}
use Rattle.ts_mapping.specs.Schemas.{AreTemplateFields, IsTemplateSchema}
use Rattle.ts_mapping.specs.RoleLaws.{date_is}
use Rattle.synthetic_source.specs.Faults.{mapped_fault, number_read, stops_of, time_in, time_of}
use Rattle.synthetic_source.specs.Gathered.{AreTimed, IsTimed, by_field}
use Rattle.synthetic_source.specs.declared.errors.DocKind.TheVariants.{WrongType}

-- ---- a path without a dot is a member of the document itself, whatever is taken whole elsewhere

abbrev Dotless : List ℕ → Type 0
Dotless [] = Unit {0}
Dotless (c ∷ p) = (nat_eq 46 c ≡ false) × Dotless p

behind_dotless : (s p : List ℕ) → Dotless p → (behind_name s p ≡ None) ⊎ ((behind_name s p ≡ Some end) × (s ≡ p))
behind_dotless [] [] dotless = inr (refl, refl)
behind_dotless [] (c ∷ t) dotless = inl (ap (λ b. cond b (Some (text t)) None) dotless.0)
behind_dotless (x ∷ s) [] dotless = inl refl
behind_dotless (x ∷ s) (c ∷ t) dotless = go (nat_eq x c) refl (behind_dotless s t dotless.1)
  where
    go : (v : Bool) → nat_eq x c ≡ v → (behind_name s t ≡ None) ⊎ ((behind_name s t ≡ Some end) × (s ≡ t))
        → (cond v (behind_name s t) None ≡ None) ⊎ ((cond v (behind_name s t) None ≡ Some end) × (x ∷ s ≡ c ∷ t))
    go true is later = elim later [ inl none ↦ inl none | inr some ↦ inr (some.0, ap₂ (λ y ys. y ∷ ys) (eqb-true x c is) some.1) ]
    go false is later = inl refl

abbrev IsFree : List (List ℕ) → List ℕ → Type 0
IsFree stops q = list_any (λ s. bytes_eq s q) stops ≡ false

members_end : (stops : List (List ℕ)) (q : List ℕ) (ms : Members) → at_members stops (Some q) ms end ≡ at_members [] (Some q) ms end
members_end stops q no_members = refl
members_end stops q (member s d ms) = members_end stops q ms

mutual
  at_end : (stops : List (List ℕ)) (q : List ℕ) (d : Data) → IsFree stops q → at stops (Some q) d end ≡ at [] (Some q) d end
  at_end stops q null free = refl
  at_end stops q (boolean b) free = refl
  at_end stops q (number n) free = refl
  at_end stops q (string s) free = refl
  at_end stops q (array ds) free = items_end stops q ds free
  at_end stops q (object ms) free = ap (λ b. cond b (whole_object ms end) (at_members stops (Some q) ms end)) free ∙ members_end stops q ms

  items_end : (stops : List (List ℕ)) (q : List ℕ) (ds : Items) → IsFree stops q → at_items stops (Some q) ds end ≡ at_items [] (Some q) ds end
  items_end stops q no_items free = refl
  items_end stops q (item d ds) free = ap₂ (λ xs ys. xs ++ ys) (at_end stops q d free) (items_end stops q ds free)

module _ (stops : List (List ℕ)) (p : List ℕ) (dotless : Dotless p) (free : IsFree stops p) where
  member_top : (s : List ℕ) (d : Data) → given (λ r. at stops (Some s) d r) (behind_name s p) ≡ given (λ r. at [] (Some s) d r) (behind_name s p)
  member_top s d =
      elim (behind_dotless s p dotless) [
        | inl none ↦ ap (given (λ r. at stops (Some s) d r)) none ∙ sym (ap (given (λ r. at [] (Some s) d r)) none)
        | inr some ↦
            ap (given (λ r. at stops (Some s) d r)) some.0
            ∙ (at_end stops s d (subst (IsFree stops) (sym some.1) free) ∙ sym (ap (given (λ r. at [] (Some s) d r)) some.0))
      ]

  members_top : (ms : Members) → at_members stops None ms (text p) ≡ at_members [] None ms (text p)
  members_top no_members = refl
  members_top (member s d ms) = ap₂ (λ xs ys. xs ++ ys) (member_top s d) (members_top ms)

  mutual
    at_top : (d : Data) → at stops None d (text p) ≡ at [] None d (text p)
    at_top null = refl
    at_top (boolean b) = refl
    at_top (number n) = refl
    at_top (string s) = refl
    at_top (array ds) = items_top ds
    at_top (object ms) = members_top ms

    items_top : (ds : Items) → at_items stops None ds (text p) ≡ at_items [] None ds (text p)
    items_top no_items = refl
    items_top (item d ds) = ap₂ (λ xs ys. xs ++ ys) (at_top d) (items_top ds)

-- ---- no aggregate is at the path of the time

date_no_aggregate : (kind : FieldType) → is_date kind ≡ true → is_aggregate kind ≡ true → ⊥
date_no_aggregate Date date aggregate = cc
date_no_aggregate Keyword date aggregate = cc
date_no_aggregate Long date aggregate = cc
date_no_aggregate Integer date aggregate = cc
date_no_aggregate Short date aggregate = cc
date_no_aggregate Byte date aggregate = cc
date_no_aggregate Boolean date aggregate = cc
date_no_aggregate Aggregate date aggregate = cc

time_free : (fs : List Field) → AreTemplateFields fs → IsFree (stops_of fs) timestamp
time_free [] are = refl
time_free (f ∷ fs) are = go (is_aggregate f.kind) refl (time_free fs are.1)
  where
    not_time : is_aggregate f.kind ≡ true → f.path ≡ timestamp → ⊥
    not_time aggregate here = date_no_aggregate f.kind (subst (λ r. may_have f.kind r ≡ true) (are.0.time.1 here) are.0.role) aggregate

    go : (v : Bool) → is_aggregate f.kind ≡ v → IsFree (stops_of fs) timestamp → IsFree (cond v (f.path ∷ stops_of fs) (stops_of fs)) timestamp
    go true is later = ap (λ b. b || list_any (λ s. bytes_eq s timestamp) (stops_of fs)) (other_bytes f.path timestamp (not_time is)) ∙ later
    go false is later = later

time_dotless : Dotless timestamp
time_dotless = (refl, (refl, (refl, (refl, (refl, (refl, (refl, (refl, (refl, (refl, tt))))))))))

time_alone : (fs : List Field) (d : Data) → AreTemplateFields fs → leaves_of (stops_of fs) d timestamp ≡ leaves_of [] d timestamp
unfolding leaves_of
time_alone fs d are = at_top (stops_of fs) timestamp time_dotless (time_free fs are) d

pub listed_time : (fs : List Field) (d : Data) → AreTemplateFields fs → placed_at timestamp (listed (stops_of fs) None d) ≡ leaves_of [] d timestamp
unfolding AreLeaves
listed_time fs d are = listed_are_leaves (stops_of fs) d timestamp ∙ time_alone fs d are

-- ---- a time that was read has no fault

sound_time : (ls : List Data) (t : ℤ) → time_in ls ≡ Some t → mapped_fault Date Time ls ≡ None
sound_time [] t is = cc
sound_time (l ∷ []) t is = go (reading_of Date l) refl is
  where
    go : (o : Option Scalar) → reading_of Date l ≡ o → number_read o ≡ Some t → mapped_fault Date Time (l ∷ []) ≡ None
    go None none is = cc
    go (Some v) some is = ap (λ o. cond (not (is_some o) || false) (Some WrongType) None) some
sound_time (l ∷ m ∷ ls) t is = cc

fields_timed : (fs : List Field) (es : List (List ℕ × Data)) → AreTemplateFields fs → mapped_fault Date Time (placed_at timestamp es) ≡ None → AreTimed fs (by_field fs es)
fields_timed [] es are sound = tt
fields_timed (f ∷ fs) es are sound = (by f.role refl, fields_timed fs es are.1 sound)
  where
    by : (role : Role) → f.role ≡ role → IsTimed f.kind role (placed_at f.path es)
    by Time is =
        let kind = date_is f.kind (subst (λ r. may_have f.kind r ≡ true) is are.0.role) in
        subst (λ k. mapped_fault k Time (placed_at f.path es) ≡ None) (sym kind) (subst (λ p. mapped_fault Date Time (placed_at p es) ≡ None) (sym (are.0.time.0 is)) sound)
    by Dimension is = tt
    by Gauge is = tt
    by Counter is = tt
    by Label is = tt

pub walk_timed : (schema : Schema) (d : Data) (fields : List Field) (lss : List (List Data)) (t : ℤ) → IsTemplateSchema schema → fields ≡ schema.fields → lss ≡ by_field fields (listed (stops_of fields) None d)
    → time_of d ≡ Some t → AreTimed fields lss
unfolding time_of
walk_timed schema d fields lss t is same all timed =
    subst (AreTimed fields) (sym all) (subst (λ fs. AreTimed fs (by_field fs (listed (stops_of fs) None d))) (sym same)
    (fields_timed schema.fields (listed (stops_of schema.fields) None d) is.fields (ap (mapped_fault Date Time) (listed_time schema.fields d is.fields) ∙ sound_time (leaves_of [] d timestamp) t timed)))
