-- Values of a label in order fit the label.
use Rattle.std.proofs.Common.{◌≡◌, ℕ, List, [], ◌∷◌, ◌++◌, true, false, refl, sym, ◌∙◌, arith, length, ◌<◌}
use Rattle.std.proofs.lemmas.Int.{ints}
use Rattle.std.specs.Cmp.{int_ranked}
use Rattle.std.specs.Ordering.{match_ordering}
use Rattle.std.specs.declared.cmp.Ordering.{Ordering}
use Rattle.std.specs.declared.cmp.Ordering.TheVariants.{Less, Equal, Greater}
use Rattle.row_cells.specs.declared.scalars.Scalar.{Scalar}
use Rattle.row_cells.specs.declared.scalars.Scalar.TheVariants.{Whole, Flag, Word}
use Rattle.row_cells.specs.declared.schemas.FieldType.{FieldType}
use Rattle.row_cells.specs.declared.schemas.FieldType.TheVariants.{Date, Keyword, Long, Integer, Short, Byte, Boolean, Aggregate}
use Rattle.row_cells.specs.JoinLaws.{before_of_after}
use Rattle.row_cells.specs.Fitting.{IsValueOf, MayFollow, AreValues, AreValuesAfter}
use Rattle.synthetic_source.specs.Readings.{AllValues, AreWhole, IsWholeValue}
use Rattle.synthetic_source.specs.Values.{scalar_cmp, again, with_value, ordered, ordered_after}

abbrev sort : Scalar → ℕ
sort (Whole v) = 0
sort (Flag b) = 1
sort (Word t) = 2

abbrev sort_of : FieldType → ℕ
sort_of Date = 0
sort_of Keyword = 2
sort_of Long = 0
sort_of Integer = 0
sort_of Short = 0
sort_of Byte = 0
sort_of Boolean = 1
sort_of Aggregate = 0

-- the values of a type are of one sort
of_sort : (kind : FieldType) (v : Scalar) → IsValueOf kind v → sort v ≡ sort_of kind
of_sort Date (Whole v) is = refl
of_sort Date (Flag b) is = absurd is
of_sort Date (Word t) is = absurd is
of_sort Keyword (Whole v) is = absurd is
of_sort Keyword (Flag b) is = absurd is
of_sort Keyword (Word t) is = refl
of_sort Long (Whole v) is = refl
of_sort Long (Flag b) is = absurd is
of_sort Long (Word t) is = absurd is
of_sort Integer (Whole v) is = refl
of_sort Integer (Flag b) is = absurd is
of_sort Integer (Word t) is = absurd is
of_sort Short (Whole v) is = refl
of_sort Short (Flag b) is = absurd is
of_sort Short (Word t) is = absurd is
of_sort Byte (Whole v) is = refl
of_sort Byte (Flag b) is = absurd is
of_sort Byte (Word t) is = absurd is
of_sort Boolean (Whole v) is = absurd is
of_sort Boolean (Flag b) is = refl
of_sort Boolean (Word t) is = absurd is
of_sort Aggregate v is = absurd is

one_sort : (kind : FieldType) (v w : Scalar) → IsValueOf kind v → IsValueOf kind w → sort v ≡ sort w
one_sort kind v w is_v is_w = of_sort kind v is_v ∙ sym (of_sort kind w is_w)

follows_less : (v w : Scalar) → sort v ≡ sort w → scalar_cmp v w ≡ Less → MayFollow v w
follows_less (Whole a) (Whole b) same less = let before = int_ranked a b Less (sym less) in omega (arith, ints)
follows_less (Whole a) (Flag b) same less = cc
follows_less (Whole a) (Word b) same less = cc
follows_less (Flag a) (Whole b) same less = cc
follows_less (Flag false) (Flag false) same less = tt
follows_less (Flag false) (Flag true) same less = tt
follows_less (Flag true) (Flag false) same less = cc
follows_less (Flag true) (Flag true) same less = tt
follows_less (Flag a) (Word b) same less = cc
follows_less (Word a) (Whole b) same less = cc
follows_less (Word a) (Flag b) same less = cc
follows_less (Word a) (Word b) same less = less

follows_greater : (v w : Scalar) → sort v ≡ sort w → scalar_cmp v w ≡ Greater → MayFollow w v
follows_greater (Whole a) (Whole b) same greater = let before = int_ranked a b Greater (sym greater) in omega (arith, ints)
follows_greater (Whole a) (Flag b) same greater = cc
follows_greater (Whole a) (Word b) same greater = cc
follows_greater (Flag a) (Whole b) same greater = cc
follows_greater (Flag false) (Flag false) same greater = tt
follows_greater (Flag false) (Flag true) same greater = cc
follows_greater (Flag true) (Flag false) same greater = tt
follows_greater (Flag true) (Flag true) same greater = tt
follows_greater (Flag a) (Word b) same greater = cc
follows_greater (Word a) (Whole b) same greater = cc
follows_greater (Word a) (Flag b) same greater = cc
follows_greater (Word a) (Word b) same greater = before_of_after a b greater

again_after : (kind : FieldType) (u v w : Scalar) (ws : List Scalar) → MayFollow u v → IsValueOf kind v → sort v ≡ sort w → scalar_cmp v w ≡ Equal → AreValuesAfter kind u (w ∷ ws) → AreValuesAfter kind u (again v (w ∷ ws))
again_after kind u (Whole a) (Whole b) ws follow is same equal after = let e = int_ranked a b Equal (sym equal) in (follow, is, (omega (arith, ints), after.1, after.2))
again_after kind u (Whole a) (Flag b) ws follow is same equal after = cc
again_after kind u (Whole a) (Word b) ws follow is same equal after = cc
again_after kind u (Flag a) (Whole b) ws follow is same equal after = cc
again_after kind u (Flag false) (Flag false) ws follow is same equal after = (follow, is, (tt, after.1, after.2))
again_after kind u (Flag false) (Flag true) ws follow is same equal after = cc
again_after kind u (Flag true) (Flag false) ws follow is same equal after = cc
again_after kind u (Flag true) (Flag true) ws follow is same equal after = (follow, is, (tt, after.1, after.2))
again_after kind u (Flag a) (Word b) ws follow is same equal after = cc
again_after kind u (Word a) w ws follow is same equal after = after

put_after : (kind : FieldType) (u v : Scalar) (ws : List Scalar) → MayFollow u v → IsValueOf kind v → AreValuesAfter kind u ws → AreValuesAfter kind u (with_value v ws)
put_after kind u v [] follow is after = (follow, is, tt)
put_after kind u v (w ∷ ws) follow is after = go (scalar_cmp v w) refl (λ next. put_after kind w v ws next is after.2)
  where
    go : (o : Ordering) → scalar_cmp v w ≡ o → (MayFollow w v → AreValuesAfter kind w (with_value v ws)) → AreValuesAfter kind u (match_ordering o (v ∷ w ∷ ws) (again v (w ∷ ws)) (w ∷ with_value v ws))
    go Less cmp later = (follow, is, (follows_less v w (one_sort kind v w is after.1) cmp, after.1, after.2))
    go Equal cmp later = again_after kind u v w ws follow is (one_sort kind v w is after.1) cmp after
    go Greater cmp later = (after.0, after.1, later (follows_greater v w (one_sort kind v w is after.1) cmp))

again_first : (kind : FieldType) (v w : Scalar) (ws : List Scalar) → IsValueOf kind v → sort v ≡ sort w → scalar_cmp v w ≡ Equal → AreValues kind (w ∷ ws) → AreValues kind (again v (w ∷ ws))
again_first kind (Whole a) (Whole b) ws is same equal are = let e = int_ranked a b Equal (sym equal) in (is, (omega (arith, ints), are.0, are.1))
again_first kind (Whole a) (Flag b) ws is same equal are = cc
again_first kind (Whole a) (Word b) ws is same equal are = cc
again_first kind (Flag a) (Whole b) ws is same equal are = cc
again_first kind (Flag false) (Flag false) ws is same equal are = (is, (tt, are.0, are.1))
again_first kind (Flag false) (Flag true) ws is same equal are = cc
again_first kind (Flag true) (Flag false) ws is same equal are = cc
again_first kind (Flag true) (Flag true) ws is same equal are = (is, (tt, are.0, are.1))
again_first kind (Flag a) (Word b) ws is same equal are = cc
again_first kind (Word a) w ws is same equal are = are

-- none, or values in order
abbrev AreValuesIf : FieldType → List Scalar → Type 0
AreValuesIf kind [] = Unit {0}
AreValuesIf kind (v ∷ vs) = AreValues kind (v ∷ vs)

put_first : (kind : FieldType) (v : Scalar) (ws : List Scalar) → IsValueOf kind v → AreValuesIf kind ws → AreValues kind (with_value v ws)
put_first kind v [] is are = (is, tt)
put_first kind v (w ∷ ws) is are = go (scalar_cmp v w) refl
  where
    go : (o : Ordering) → scalar_cmp v w ≡ o → AreValues kind (match_ordering o (v ∷ w ∷ ws) (again v (w ∷ ws)) (w ∷ with_value v ws))
    go Less cmp = (is, (follows_less v w (one_sort kind v w is are.0) cmp, are.0, are.1))
    go Equal cmp = again_first kind v w ws is (one_sort kind v w is are.0) cmp are
    go Greater cmp = (are.0, put_after kind w v ws (follows_greater v w (one_sort kind v w is are.0) cmp) is are.1)

weaken : (kind : FieldType) (vs : List Scalar) → AreValues kind vs → AreValuesIf kind vs
weaken kind [] are = tt
weaken kind (v ∷ vs) are = are

ordered_on : (kind : FieldType) (vs ws : List Scalar) → AreValues kind vs → AllValues kind ws → AreValues kind (ordered_after vs ws)
ordered_on kind vs [] are all = are
ordered_on kind vs (w ∷ ws) are all = ordered_on kind (with_value w vs) ws (put_first kind w vs all.0 (weaken kind vs are)) all.1

-- values in order fit the label
pub ordered_fits : (kind : FieldType) (v : Scalar) (vs : List Scalar) → AllValues kind (v ∷ vs) → AreValues kind (ordered (v ∷ vs))
ordered_fits kind v vs all = ordered_on kind (v ∷ []) vs (all.0, tt) all.1

whole_value : (v : Scalar) → sort v ≡ 0 → IsWholeValue v
whole_value (Whole v) is = tt
whole_value (Flag b) is = cc
whole_value (Word t) is = cc

pub all_push : (kind : FieldType) (vs : List Scalar) (v : Scalar) → AllValues kind vs → IsValueOf kind v → AllValues kind (vs ++ v ∷ [])
all_push kind [] v all is = (is, tt)
all_push kind (w ∷ ws) v all is = (all.0, all_push kind ws v all.1 is)

pub short_ordered : (vs : List Scalar) → length vs < 2 → vs ≡ ordered vs
short_ordered [] short = refl
short_ordered (v ∷ []) short = refl
short_ordered (v ∷ w ∷ vs) short = absurd (omega arith)

are_whole : (kind : FieldType) (vs : List Scalar) → sort_of kind ≡ 0 → AllValues kind vs → AreWhole vs
are_whole kind [] zeroth all = tt
are_whole kind (v ∷ vs) zeroth all = (whole_value v (of_sort kind v all.0 ∙ zeroth), are_whole kind vs zeroth all.1)

sort_else : (kind : FieldType) → (kind ≡ Keyword → ⊥) → (kind ≡ Boolean → ⊥) → sort_of kind ≡ 0
sort_else Date not_text not_flag = refl
sort_else Keyword not_text not_flag = absurd (not_text refl)
sort_else Long not_text not_flag = refl
sort_else Integer not_text not_flag = refl
sort_else Short not_text not_flag = refl
sort_else Byte not_text not_flag = refl
sort_else Boolean not_text not_flag = absurd (not_flag refl)
sort_else Aggregate not_text not_flag = refl

-- the values of other types are whole numbers
pub whole_else : (kind : FieldType) (vs : List Scalar) → (kind ≡ Keyword → ⊥) → (kind ≡ Boolean → ⊥) → AllValues kind vs → AreWhole vs
whole_else kind vs not_text not_flag all = are_whole kind vs (sort_else kind not_text not_flag) all
