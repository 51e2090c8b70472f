-- Two lists of fields walked side by side.
use Rattle.std.proofs.Common.{◌≡◌, ℕ, List, [], ◌∷◌, Bool, true, false, ◌||◌, ◌&&◌, not, bytes_eq, if◌then◌else◌, Some, Ordering, Less, Equal, Greater, refl, sym, ap, ap₂, ◌∙◌, subst}
use Rattle.std.specs.Cmp.Lexicographic.{slice_cmp, nat_list_cmp_total}
use Rattle.std.specs.List.{list_any}
use Rattle.std.specs.Ordering.{nat_cmp, match_ordering, ordering_reverse}
use Rattle.std.proofs.lemmas.Map.Lookups.{exact_bytes}
use Rattle.std.proofs.lemmas.Slice.Eq.{bytes_eq-Decides}
use Rattle.row_cells.specs.declared.schemas.Field.{Field}
use Rattle.row_cells.specs.Dimensions.{IsBefore}
use Rattle.row_cells.specs.Fitting.{FieldsAscend, FieldsAscendAfter}
use Rattle.row_cells.specs.JoinLaws.{ascend_lower, before_chain, not_before_itself}
use Rattle.ts_mapping.specs.Agreeing.{from_path, is_alike, is_other_field, is_other_first, other_path}

-- fields of two paths of which one stands before the other aren't of one path
apart : (f g : Field) → (f.path ≡ g.path → ⊥) → is_other_field f g ≡ false
apart f g differ = go (bytes_eq f.path g.path) refl
  where
    go : (v : Bool) → bytes_eq f.path g.path ≡ v → is_other_field f g ≡ false
    go true is = absurd (differ ((bytes_eq-Decides f.path g.path).0 is))
    go false is = ap (λ b. b && not (is_alike f g)) is

behind_apart : (f g : Field) → IsBefore g.path f.path → is_other_field f g ≡ false
behind_apart f g before = apart f g (λ same. not_before_itself g.path (subst (λ p. IsBefore g.path p) same before))

ahead_apart : (f g : Field) → IsBefore f.path g.path → is_other_field f g ≡ false
ahead_apart f g before = apart f g (λ same. not_before_itself f.path (subst (λ p. IsBefore f.path p) (sym same) before))

-- what stands before a path doesn't matter to a field that doesn't
skipped : (p : List ℕ) (f : Field) (gs : List Field) → ((g : Field) → IsBefore g.path p → IsBefore g.path f.path) → list_any (is_other_field f) gs ≡ list_any (is_other_field f) (from_path p gs)
skipped p f [] behind = refl
skipped p f (g ∷ gs) behind = go (slice_cmp nat_cmp g.path p) refl (skipped p f gs behind)
  where
    go : (o : Ordering) → slice_cmp nat_cmp g.path p ≡ o → list_any (is_other_field f) gs ≡ list_any (is_other_field f) (from_path p gs)
        → (is_other_field f g || list_any (is_other_field f) gs) ≡ list_any (is_other_field f) (match_ordering o (from_path p gs) (g ∷ gs) (g ∷ gs))
    go Less is later = ap (λ b. b || list_any (is_other_field f) gs) (behind_apart f g (behind g is)) ∙ later
    go Equal is later = refl
    go Greater is later = refl

all_skipped : (p : List ℕ) (fs gs : List Field) → FieldsAscendAfter p fs → other_path fs gs ≡ other_path fs (from_path p gs)
all_skipped p [] gs ascend = refl
all_skipped p (f ∷ fs) gs ascend =
    ap₂ (λ b o. if b then Some f.path else o) (skipped p f gs (λ g before. before_chain g.path p f.path before ascend.0))
    (all_skipped p fs gs (ascend_lower p f.path fs ascend.0 ascend.1))

none_behind : (f : Field) (gs : List Field) → FieldsAscendAfter f.path gs → list_any (is_other_field f) gs ≡ false
none_behind f [] ascend = refl
none_behind f (g ∷ gs) ascend =
    ap₂ (λ a b. a || b) (ahead_apart f g ascend.0) (none_behind f gs (ascend_lower f.path g.path gs ascend.0 ascend.1))

or_false : (b : Bool) → (b || false) ≡ b
or_false true = refl
or_false false = refl

-- so the first of those that don't stand before decides
pub first_decides : (f : Field) (gs : List Field) → FieldsAscend gs → list_any (is_other_field f) gs ≡ is_other_first f (from_path f.path gs)
first_decides f [] ascend = refl
first_decides f (g ∷ gs) ascend = go (slice_cmp nat_cmp g.path f.path) refl (first_decides f gs (ascend_lower [] g.path gs ascend.0 ascend.1))
  where
    rest : (IsBefore f.path g.path) → (is_other_field f g || list_any (is_other_field f) gs) ≡ is_other_field f g
    rest before = ap (λ b. is_other_field f g || b) (none_behind f gs (ascend_lower f.path g.path gs before ascend.1)) ∙ or_false (is_other_field f g)

    go : (o : Ordering) → slice_cmp nat_cmp g.path f.path ≡ o → list_any (is_other_field f) gs ≡ is_other_first f (from_path f.path gs)
        → (is_other_field f g || list_any (is_other_field f) gs) ≡ is_other_first f (match_ordering o (from_path f.path gs) (g ∷ gs) (g ∷ gs))
    go Less is later = ap (λ b. b || list_any (is_other_field f) gs) (behind_apart f g is) ∙ later
    go Equal is later =
        ap (λ b. is_other_field f g || b) (none_behind f gs (subst (λ p. FieldsAscendAfter p gs) (same_path g.path f.path is) ascend.1)) ∙ or_false (is_other_field f g)
      where
        same_path : (p q : List ℕ) → slice_cmp nat_cmp p q ≡ Equal → p ≡ q
        same_path p q e = exact_bytes p q e
    go Greater is later = rest (nat_list_cmp_total.antisymm f.path g.path ∙ ap ordering_reverse is)

pub from_ascends : (p : List ℕ) (gs : List Field) → FieldsAscend gs → FieldsAscend (from_path p gs)
from_ascends p [] ascend = tt
from_ascends p (g ∷ gs) ascend = go (slice_cmp nat_cmp g.path p) (from_ascends p gs (ascend_lower [] g.path gs ascend.0 ascend.1))
  where
    go : (o : Ordering) → FieldsAscend (from_path p gs) → FieldsAscend (match_ordering o (from_path p gs) (g ∷ gs) (g ∷ gs))
    go Less later = later
    go Equal later = ascend
    go Greater later = ascend

-- one field further, where it isn't another
pub walked : (f : Field) (fs gs : List Field) → FieldsAscend (f ∷ fs) → FieldsAscend gs → is_other_first f (from_path f.path gs) ≡ false → other_path (f ∷ fs) gs ≡ other_path fs (from_path f.path gs)
walked f fs gs first second is = ap (λ b. if b then Some f.path else other_path fs gs) (first_decides f gs second ∙ is) ∙ all_skipped f.path fs gs first.1

pub found : (f : Field) (fs gs : List Field) → FieldsAscend gs → is_other_first f (from_path f.path gs) ≡ true → other_path (f ∷ fs) gs ≡ Some f.path
found f fs gs second is = ap (λ b. if b then Some f.path else other_path fs gs) (first_decides f gs second ∙ is)

pub rest_ascends : (f : Field) (fs : List Field) → FieldsAscend (f ∷ fs) → FieldsAscend fs
rest_ascends f fs ascend = ascend_lower [] f.path fs ascend.0 ascend.1
