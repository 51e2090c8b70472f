-- The steps of a walk over the fields of two schemas.
use Rattle.std.specs.Prelude.{◌≡◌, List, [], ◌∷◌, length}
use Rattle.std.specs.Cmp.Lexicographic.{slice_cmp}
use Rattle.std.specs.Ordering.{nat_cmp}
use Rattle.std.specs.declared.cmp.Ordering.TheVariants.{Less, Equal, Greater}
use Rattle.std.proofs.Common.{refl, ap, ◌∙◌, sym, subst, arith}
use Rattle.row_cells.specs.declared.schemas.Field.{Field}
use Rattle.row_cells.specs.Fitting.{FieldsAscend}
use Rattle.row_cells.specs.Joining.{join_fields, Follows}
use Rattle.row_cells.specs.JoinLaws.{ascend_lower, join_first, join_both, join_later, join_nothing}

pub no_fields : (fs : List Field) → length fs ≡ 0 → fs ≡ []
no_fields [] empty = refl
no_fields (f ∷ fs) empty = absurd (omega (arith, empty))

ascend_rest : (f : Field) (fs : List Field) → FieldsAscend (f ∷ fs) → FieldsAscend fs
ascend_rest f fs ascend = ascend_lower [] f.path fs ascend.0 ascend.1

pub joined_none : (first second : List Field) → length first ≡ 0 → length second ≡ 0 → join_fields first second ≡ []
joined_none first second no_first no_second = rw (no_fields first no_first, no_fields second no_second) refl

pub follows_second : (first second : List Field) (g : Field) (gs : List Field) → length first ≡ 0 → second ≡ g ∷ gs → FieldsAscend first → FieldsAscend second → Follows first second g first gs
follows_second first second g gs empty is_second a b = record {
  joined = ap (λ fs. join_fields fs second) (no_fields first empty) ∙ (is_second ∙ ap (λ fs. g ∷ join_fields fs gs) (sym (no_fields first empty)));
  first_ascends = a;
  second_ascends = ascend_rest g gs (subst FieldsAscend is_second b);
  shorter = omega (arith, ap length is_second);
}

pub follows_first : (first second : List Field) (f : Field) (fs : List Field) → first ≡ f ∷ fs → length second ≡ 0 → FieldsAscend first → FieldsAscend second → Follows first second f fs second
follows_first first second f fs is_first empty a b =
    let whole = subst FieldsAscend is_first a in
    record {
      joined = ap (λ gs. join_fields first gs) (no_fields second empty) ∙ (ap (λ x. join_fields x []) is_first ∙ (join_nothing (f ∷ fs) [] whole ∙ (ap (λ x. f ∷ x) (sym (join_nothing fs f.path whole.1)) ∙ ap (λ gs. f ∷ join_fields fs gs) (sym (no_fields second empty)))));
      first_ascends = ascend_rest f fs whole;
      second_ascends = b;
      shorter = omega (arith, ap length is_first);
    }

module _ (first second : List Field) (f g : Field) (fs gs : List Field) (is_first : first ≡ f ∷ fs) (is_second : second ≡ g ∷ gs) (a : FieldsAscend first) (b : FieldsAscend second) where
  pub follows_less : slice_cmp nat_cmp f.path g.path ≡ Less → Follows first second f fs second
  follows_less is =
      let a' = subst FieldsAscend is_first a in
      let b' = subst FieldsAscend is_second b in
      record {
        joined = ap (λ x. join_fields x second) is_first ∙ (ap (λ y. join_fields (f ∷ fs) y) is_second ∙ (join_first f g fs gs is a'.1 b'.1 ∙ ap (λ y. f ∷ join_fields fs y) (sym is_second)));
        first_ascends = ascend_rest f fs a';
        second_ascends = b;
        shorter = omega (arith, ap length is_first);
      }

  pub follows_equal : slice_cmp nat_cmp f.path g.path ≡ Equal → Follows first second g fs gs
  follows_equal is =
      let a' = subst FieldsAscend is_first a in
      let b' = subst FieldsAscend is_second b in
      record {
        joined = ap (λ x. join_fields x second) is_first ∙ (ap (λ y. join_fields (f ∷ fs) y) is_second ∙ join_both f g fs gs is a'.1);
        first_ascends = ascend_rest f fs a';
        second_ascends = ascend_rest g gs b';
        shorter = omega (arith, ap length is_first, ap length is_second);
      }

  pub follows_greater : slice_cmp nat_cmp f.path g.path ≡ Greater → Follows first second g first gs
  follows_greater is =
      let a' = subst FieldsAscend is_first a in
      let b' = subst FieldsAscend is_second b in
      record {
        joined = ap (λ x. join_fields x second) is_first ∙ (ap (λ y. join_fields (f ∷ fs) y) is_second ∙ (join_later f g fs gs is a'.1 ∙ ap (λ x. g ∷ join_fields x gs) (sym is_first)));
        first_ascends = a;
        second_ascends = ascend_rest g gs b';
        shorter = omega (arith, ap length is_second);
      }
