-- What a sort that keeps ties as they stood leaves is the list in order.
use Rattle.std.specs.Prelude.{◌≡◌, suc, ◌+◌, ◌&&◌, not, Bool, true, false, cond, List, [], ◌∷◌, filter, if◌then◌else◌}
use Rattle.std.specs.Cmp.{IsTotalOrder, tied_itself}
use Rattle.std.specs.List.Sorted.{IsSorted, IsStable, ties}
use Rattle.std.specs.Ordering.{is_le, is_lt, ordering_reverse}
use Rattle.std.specs.declared.cmp.Ordering.{Ordering}
use Rattle.std.specs.declared.cmp.Ordering.TheVariants.{Less, Equal, Greater}
use Rattle.std.proofs.Common.{refl, ap, sym, subst, ◌∙◌, arith, get_or}
use Rattle.row_cells.specs.Each.{Each}
use Rattle.row_cells.specs.EachLaws.{Each-weaker, filter_none}
use Rattle.row_cells.specs.Sorted.{put, sorted}
use Rattle.row_cells.specs.SortedLaws.{Ascend, UpTo, sorted_ascends, upto_chain}

module _ {A : Type 0} (cmp : A → A → Ordering) (total : IsTotalOrder cmp) where
  -- ---- lists that ascend

  upto_of_not_lt : (x y : A) → is_lt (cmp y x) ≡ false → UpTo cmp total x y
  upto_of_not_lt x y is = by_order (cmp y x) refl is
    where
      by_order : (o : Ordering) → cmp y x ≡ o → is_lt o ≡ false → UpTo cmp total x y
      by_order Less o_is less = cc
      by_order Equal o_is less = ap is_le (total.antisymm x y ∙ ap ordering_reverse o_is)
      by_order Greater o_is less = ap is_le (total.antisymm x y ∙ ap ordering_reverse o_is)

  pub from_sorted : (xs : List A) → IsSorted cmp xs → Ascend cmp total xs
  from_sorted [] up = tt
  from_sorted (x ∷ []) up = (tt, tt)
  from_sorted (x ∷ y ∷ ys) up =
      let rest : Ascend cmp total (y ∷ ys) = from_sorted (y ∷ ys) (λ k d low high. let on : suc k + 1 ≡ suc (k + 1) = omega arith in subst (λ n. is_lt (cmp (get_or (x ∷ y ∷ ys) n d) (get_or (y ∷ ys) k d)) ≡ false) on (up (suc k) d (omega arith) (omega arith))) in
      let first : UpTo cmp total x y = upto_of_not_lt x y (up 0 x (omega arith) (omega arith)) in
      ((first, Each-weaker (UpTo cmp total y) (UpTo cmp total x) (λ z next. upto_chain cmp total x y z first next) ys rest.0), rest)

  -- ---- elements that the order doesn't tell apart

  abbrev tie : A → A → Bool
  tie x y = ties (λ a b. is_lt (cmp a b)) x y

  tie_equal : (x y : A) → cmp x y ≡ Equal → tie x y ≡ true
  tie_equal x y is =
      let back : cmp y x ≡ Equal = total.antisymm y x ∙ ap ordering_reverse is in
      ap (λ o. not (is_lt o) && not (is_lt (cmp y x))) is ∙ ap (λ o. not (is_lt o)) back

  tie_less : (x y : A) → cmp x y ≡ Less → tie x y ≡ false
  tie_less x y is = ap (λ o. not (is_lt o) && not (is_lt (cmp y x))) is

  tied_of : (x y : A) → tie x y ≡ true → cmp x y ≡ Equal
  tied_of x y is = by_order (cmp x y) (cmp y x) refl refl is
    where
      by_order : (o p : Ordering) → cmp x y ≡ o → cmp y x ≡ p → (not (is_lt o) && not (is_lt p)) ≡ true → cmp x y ≡ Equal
      by_order Less p o_is p_is test = cc
      by_order Equal p o_is p_is test = o_is
      by_order Greater Less o_is p_is test = cc
      by_order Greater Equal o_is p_is test = cc (total.antisymm x y ∙ ap ordering_reverse p_is)
      by_order Greater Greater o_is p_is test = cc (total.antisymm x y ∙ ap ordering_reverse p_is)

  -- what passes another one isn't tied with it
  put_ties : (x y : A) (ys : List A) → filter (tie x) (put cmp y ys) ≡ filter (tie x) (y ∷ ys)
  put_ties x y [] = refl
  put_ties x y (z ∷ zs) = by_test (is_le (cmp y z)) refl (put_ties x y zs)
    where
      swapped : (a b : Bool) → tie x z ≡ a → tie x y ≡ b → is_le (cmp y z) ≡ false →
          cond a (z ∷ cond b (y ∷ filter (tie x) zs) (filter (tie x) zs)) (cond b (y ∷ filter (tie x) zs) (filter (tie x) zs))
          ≡ cond b (y ∷ cond a (z ∷ filter (tie x) zs) (filter (tie x) zs)) (cond a (z ∷ filter (tie x) zs) (filter (tie x) zs))
      swapped true true with_z with_y behind = absurd (apart (sym behind ∙ ap is_le (sym (total.congr x y z (tied_of x y with_y)) ∙ tied_of x z with_z)))
        where
          apart : false ≡ true → ⊥
          apart e = cc
      swapped true false with_z with_y behind = refl
      swapped false b with_z with_y behind = refl

      by_test : (b : Bool) → is_le (cmp y z) ≡ b → filter (tie x) (put cmp y zs) ≡ filter (tie x) (y ∷ zs) →
          filter (tie x) (if b then y ∷ z ∷ zs else z ∷ put cmp y zs) ≡ filter (tie x) (y ∷ z ∷ zs)
      by_test true is later = refl
      by_test false is later = ap (λ ws. cond (tie x z) (z ∷ ws) ws) later ∙ swapped (tie x z) (tie x y) refl refl is

  sorted_ties : (x : A) (xs : List A) → filter (tie x) (sorted cmp xs) ≡ filter (tie x) xs
  sorted_ties x [] = refl
  sorted_ties x (y ∷ ys) = put_ties x y (sorted cmp ys) ∙ ap (λ zs. cond (tie x y) (y ∷ zs) zs) (sorted_ties x ys)

  -- ---- lists that ascend and have the same ties

  pub less_upto : (x y z : A) → cmp x y ≡ Less → UpTo cmp total y z → cmp x z ≡ Less
  less_upto x y z less up = by_order (cmp y z) refl up
    where
      by_order : (o : Ordering) → cmp y z ≡ o → is_le o ≡ true → cmp x z ≡ Less
      by_order Less is le = total.trans x y z less is
      by_order Equal is le = total.antisymm x z ∙ (ap ordering_reverse (sym (total.congr y z x is)) ∙ (sym (total.antisymm x y) ∙ less))
      by_order Greater is le = cc

  none_tied : (y z : A) (zs : List A) → cmp y z ≡ Less → Each (UpTo cmp total z) zs → filter (tie y) (z ∷ zs) ≡ []
  none_tied y z zs less after =
      filter_none (tie y) (z ∷ zs) (tie_less y z less, Each-weaker (UpTo cmp total z) (λ w. tie y w ≡ false) (λ w up. tie_less y w (less_upto y z w less up)) zs after)

  itself : (y : A) (ys : List A) → filter (tie y) (y ∷ ys) ≡ y ∷ filter (tie y) ys
  itself y ys = ap (λ b. cond b (y ∷ filter (tie y) ys) (filter (tie y) ys)) (tie_equal y y (tied_itself total y))

  not_empty : (y : A) (ys : List A) → y ∷ ys ≡ [] → ⊥
  not_empty y ys e = cc

  same_ascending : (ys zs : List A) → Ascend cmp total ys → Ascend cmp total zs → ((x : A) → filter (tie x) ys ≡ filter (tie x) zs) → ys ≡ zs
  same_ascending [] [] up_y up_z same = refl
  same_ascending [] (z ∷ zs) up_y up_z same = absurd (not_empty z (filter (tie z) zs) (sym (itself z zs) ∙ sym (same z)))
  same_ascending (y ∷ ys) [] up_y up_z same = absurd (not_empty y (filter (tie y) ys) (sym (itself y ys) ∙ same y))
  same_ascending (y ∷ ys) (z ∷ zs) up_y up_z same = by_order (cmp y z) refl (same_ascending ys zs up_y.1 up_z.1)
    where
      heads : cmp y z ≡ Equal → y ∷ filter (tie y) ys ≡ z ∷ filter (tie y) zs
      heads is = sym (itself y ys) ∙ (same y ∙ ap (λ b. cond b (z ∷ filter (tie y) zs) (filter (tie y) zs)) (tie_equal y z is))

      first : cmp y z ≡ Equal → y ≡ z
      first is = let both = heads is in cc

      tails : (x : A) → y ≡ z → (b : Bool) → tie x z ≡ b → cond b (y ∷ filter (tie x) ys) (filter (tie x) ys) ≡ cond b (z ∷ filter (tie x) zs) (filter (tie x) zs) → filter (tie x) ys ≡ filter (tie x) zs
      tails x is true test both = cc
      tails x is false test both = both

      by_order : (o : Ordering) → cmp y z ≡ o → (((x : A) → filter (tie x) ys ≡ filter (tie x) zs) → ys ≡ zs) → y ∷ ys ≡ z ∷ zs
      by_order Less is later = absurd (not_empty y (filter (tie y) ys) (sym (itself y ys) ∙ (same y ∙ none_tied y z zs is up_z.0)))
      by_order Greater is later =
          absurd (not_empty z (filter (tie z) zs) (sym (itself z zs) ∙ (sym (same z) ∙ none_tied z y ys (total.antisymm z y ∙ ap ordering_reverse is) up_y.0)))
      by_order Equal is later =
          let one : y ≡ z = first is in
          let rest : ys ≡ zs = later (λ x. tails x one (tie x z) refl (ap (λ r. cond (tie x r) (y ∷ filter (tie x) ys) (filter (tie x) ys)) (sym one) ∙ same x)) in
          cc

  -- ---- what a sort leaves

  pub stable_sorted : (xs ys : List A) → IsSorted cmp ys → IsStable cmp xs ys → ys ≡ sorted cmp xs
  stable_sorted xs ys up stable =
      same_ascending ys (sorted cmp xs) (from_sorted ys up) (sorted_ascends cmp total xs) (λ x. stable x ∙ sym (sorted_ties x xs))
