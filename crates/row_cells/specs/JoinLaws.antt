-- What joined fields are.
use Rattle.std.specs.Prelude.{◌≡◌, ℕ, ◌⊎◌, ◌↔◌, List, [], ◌∷◌}
use Rattle.std.specs.Cmp.{tied_itself}
use Rattle.std.specs.Cmp.Lexicographic.{slice_cmp, nat_list_cmp_total}
use Rattle.std.specs.Ordering.{nat_cmp, ordering_reverse}
use Rattle.std.specs.declared.cmp.Ordering.{Ordering}
use Rattle.std.specs.declared.cmp.Ordering.TheVariants.{Less, Equal, Greater}
use Rattle.std.proofs.Common.{refl, ap, ◌∙◌, sym, subst, inl, inr}
use Rattle.std.proofs.lemmas.Map.Lookups.{exact_bytes}
use Rattle.row_cells.specs.declared.schemas.Field.{Field}
use Rattle.row_cells.specs.Dimensions.{IsBefore}
use Rattle.row_cells.specs.Fitting.{FieldsAscendAfter, FieldsAscend}
use Rattle.row_cells.specs.Joining.{IsIn, AllIn, FieldsAgree, by_order, insert_field, join_fields}

pub before_chain : (p q r : List ℕ) → IsBefore p q → IsBefore q r → IsBefore p r
before_chain = nat_list_cmp_total.trans

pub not_before_itself : (p : List ℕ) → IsBefore p p → ⊥
not_before_itself p before = less_not_equal (sym before ∙ tied_itself nat_list_cmp_total p)
  where
    less_not_equal : Less ≡ Equal → ⊥
    less_not_equal e = cc

pub after_is : (p q : List ℕ) → IsBefore p q → slice_cmp nat_cmp q p ≡ Greater
after_is p q before = nat_list_cmp_total.antisymm q p ∙ ap ordering_reverse before

pub before_of_after : (p q : List ℕ) → slice_cmp nat_cmp p q ≡ Greater → IsBefore q p
before_of_after p q after = nat_list_cmp_total.antisymm q p ∙ ap ordering_reverse after

pub ascend_lower : (p q : List ℕ) (fs : List Field) → IsBefore p q → FieldsAscendAfter q fs → FieldsAscendAfter p fs
ascend_lower p q [] before ascend = tt
ascend_lower p q (f ∷ fs) before ascend = (before_chain p q f.path before ascend.0, ascend.1)

pub in_after : (p : List ℕ) (f : Field) (fs : List Field) → FieldsAscendAfter p fs → IsIn f fs → IsBefore p f.path
in_after p f [] ascend is_in = absurd is_in
in_after p f (g ∷ gs) ascend is_in =
    elim is_in [
      | inl same ↦ subst (λ h. IsBefore p h) (ap (λ x. x.path) (sym same)) ascend.0
      | inr rest ↦ before_chain p g.path f.path ascend.0 (in_after g.path f gs ascend.1 rest)
    ]

insert_first : (f : Field) (fs : List Field) → FieldsAscendAfter f.path fs → insert_field f fs ≡ f ∷ fs
insert_first f [] ascend = refl
insert_first f (g ∷ gs) ascend = ap (λ o. by_order o (f ∷ g ∷ gs) (g ∷ gs) (g ∷ insert_field f gs)) ascend.0

insert_later : (f g : Field) (gs : List Field) → IsBefore g.path f.path → insert_field f (g ∷ gs) ≡ g ∷ insert_field f gs
insert_later f g gs before = ap (λ o. by_order o (f ∷ g ∷ gs) (g ∷ gs) (g ∷ insert_field f gs)) (after_is g.path f.path before)

insert_same : (f g : Field) (gs : List Field) → slice_cmp nat_cmp f.path g.path ≡ Equal → insert_field f (g ∷ gs) ≡ g ∷ gs
insert_same f g gs same = ap (λ o. by_order o (f ∷ g ∷ gs) (g ∷ gs) (g ∷ insert_field f gs)) same

insert_ascends : (p : List ℕ) (f : Field) (fs : List Field) → IsBefore p f.path → FieldsAscendAfter p fs → FieldsAscendAfter p (insert_field f fs)
insert_ascends p f [] before ascend = (before, tt)
insert_ascends p f (g ∷ gs) before ascend = go (slice_cmp nat_cmp f.path g.path) refl (insert_ascends g.path f gs)
  where
    go : (o : Ordering) → slice_cmp nat_cmp f.path g.path ≡ o → (IsBefore g.path f.path → FieldsAscendAfter g.path gs → FieldsAscendAfter g.path (insert_field f gs)) → FieldsAscendAfter p (by_order o (f ∷ g ∷ gs) (g ∷ gs) (g ∷ insert_field f gs))
    go Less is later = (before, (is, ascend.1))
    go Equal is later = ascend
    go Greater is later = (ascend.0, later (before_of_after f.path g.path is) ascend.1)

pub join_ascends : (p : List ℕ) (fs gs : List Field) → FieldsAscendAfter p fs → FieldsAscendAfter p gs → FieldsAscendAfter p (join_fields fs gs)
join_ascends p [] gs ascend_f ascend_g = ascend_g
join_ascends p (f ∷ fs) gs ascend_f ascend_g = insert_ascends p f (join_fields fs gs) ascend_f.0 (join_ascends p fs gs (ascend_lower p f.path fs ascend_f.0 ascend_f.1) ascend_g)

-- where the second list begins with the least path, so does the joined one
pub join_second : (g : Field) (fs gs : List Field) → FieldsAscendAfter g.path fs → join_fields fs (g ∷ gs) ≡ g ∷ join_fields fs gs
join_second g [] gs ascend = refl
join_second g (f ∷ fs) gs ascend =
    ap (insert_field f) (join_second g fs gs (ascend_lower g.path f.path fs ascend.0 ascend.1)) ∙ insert_later f g (join_fields fs gs) ascend.0

pub join_first : (f g : Field) (fs gs : List Field) → IsBefore f.path g.path → FieldsAscendAfter f.path fs → FieldsAscendAfter g.path gs → join_fields (f ∷ fs) (g ∷ gs) ≡ f ∷ join_fields fs (g ∷ gs)
join_first f g fs gs before ascend_f ascend_g = insert_first f (join_fields fs (g ∷ gs)) (join_ascends f.path fs (g ∷ gs) ascend_f (before, ascend_g))

pub join_both : (f g : Field) (fs gs : List Field) → slice_cmp nat_cmp f.path g.path ≡ Equal → FieldsAscendAfter f.path fs → join_fields (f ∷ fs) (g ∷ gs) ≡ g ∷ join_fields fs gs
join_both f g fs gs same ascend =
    ap (insert_field f) (join_second g fs gs (subst (λ p. FieldsAscendAfter p fs) (exact_bytes f.path g.path same) ascend)) ∙ insert_same f g (join_fields fs gs) same

pub join_later : (f g : Field) (fs gs : List Field) → slice_cmp nat_cmp f.path g.path ≡ Greater → FieldsAscendAfter f.path fs → join_fields (f ∷ fs) (g ∷ gs) ≡ g ∷ join_fields (f ∷ fs) gs
join_later f g fs gs after ascend = join_second g (f ∷ fs) gs (before_of_after f.path g.path after, ascend)

pub join_nothing : (fs : List Field) (p : List ℕ) → FieldsAscendAfter p fs → join_fields fs [] ≡ fs
join_nothing [] p ascend = refl
join_nothing (f ∷ fs) p ascend = ap (insert_field f) (join_nothing fs f.path ascend.1) ∙ insert_first f fs ascend.1

-- ---- which fields are joined

inserted_or_there : (f h : Field) (fs : List Field) → IsIn h (insert_field f fs) → (h ≡ f) ⊎ IsIn h fs
inserted_or_there f h [] is_in = is_in
inserted_or_there f h (g ∷ gs) is_in = go (slice_cmp nat_cmp f.path g.path) (inserted_or_there f h gs) is_in
  where
    go : (o : Ordering) → (IsIn h (insert_field f gs) → (h ≡ f) ⊎ IsIn h gs) → IsIn h (by_order o (f ∷ g ∷ gs) (g ∷ gs) (g ∷ insert_field f gs)) → (h ≡ f) ⊎ IsIn h (g ∷ gs)
    go Less later here = here
    go Equal later here = inr here
    go Greater later here = elim here [ inl same ↦ inr (inl same) | inr rest ↦ elim (later rest) [ inl same ↦ inl same | inr there ↦ inr (inr there) ] ]

there_after_insert : (f h : Field) (fs : List Field) → IsIn h fs → IsIn h (insert_field f fs)
there_after_insert f h [] is_in = absurd is_in
there_after_insert f h (g ∷ gs) is_in = go (slice_cmp nat_cmp f.path g.path) (there_after_insert f h gs) is_in
  where
    go : (o : Ordering) → (IsIn h gs → IsIn h (insert_field f gs)) → IsIn h (g ∷ gs) → IsIn h (by_order o (f ∷ g ∷ gs) (g ∷ gs) (g ∷ insert_field f gs))
    go Less later here = inr here
    go Equal later here = here
    go Greater later here = elim here [ inl same ↦ inl same | inr rest ↦ inr (later rest) ]

inserted : (f : Field) (fs : List Field) → ((g : Field) → IsIn g fs → f.path ≡ g.path → f ≡ g) → IsIn f (insert_field f fs)
inserted f [] agree = inl refl
inserted f (g ∷ gs) agree = go (slice_cmp nat_cmp f.path g.path) refl (inserted f gs (λ h is_in. agree h (inr is_in)))
  where
    go : (o : Ordering) → slice_cmp nat_cmp f.path g.path ≡ o → IsIn f (insert_field f gs) → IsIn f (by_order o (f ∷ g ∷ gs) (g ∷ gs) (g ∷ insert_field f gs))
    go Less is later = inl refl
    go Equal is later = inl (agree g (inl refl) (exact_bytes f.path g.path is))
    go Greater is later = inr later

-- a joined field is one of either list
pub joined_from : (h : Field) (fs gs : List Field) → IsIn h (join_fields fs gs) → IsIn h fs ⊎ IsIn h gs
joined_from h [] gs is_in = inr is_in
joined_from h (f ∷ fs) gs is_in =
    elim (inserted_or_there f h (join_fields fs gs) is_in) [
      | inl same ↦ inl (inl same)
      | inr there ↦ elim (joined_from h fs gs there) [ inl of_f ↦ inl (inr of_f) | inr of_g ↦ inr of_g ]
    ]

pub second_joined : (fs gs : List Field) → AllIn gs (join_fields fs gs)
second_joined [] gs h is_in = is_in
second_joined (f ∷ fs) gs h is_in = there_after_insert f h (join_fields fs gs) (second_joined fs gs h is_in)

pub first_joined : (p : List ℕ) (fs gs : List Field) → FieldsAscendAfter p fs → FieldsAgree fs gs → AllIn fs (join_fields fs gs)
first_joined p [] gs ascend agree h is_in = absurd is_in
first_joined p (f ∷ fs) gs ascend agree h is_in =
    elim is_in [
      | inl same ↦ subst (λ x. IsIn x (insert_field f (join_fields fs gs))) (sym same) (inserted f (join_fields fs gs) one_field)
      | inr rest ↦ there_after_insert f h (join_fields fs gs) (first_joined f.path fs gs ascend.1 (λ x y in_x in_y. agree x y (inr in_x) in_y) h rest)
    ]
  where
    one_field : (g : Field) → IsIn g (join_fields fs gs) → f.path ≡ g.path → f ≡ g
    one_field g is_in same =
        elim (joined_from g fs gs is_in) [
          | inl of_f ↦ absurd (not_before_itself g.path (subst (λ q. IsBefore q g.path) same (in_after f.path g fs ascend.1 of_f)))
          | inr of_g ↦ agree f g (inl refl) of_g same
        ]

-- the joined fields are those of both lists
pub joined_iff : (f : Field) (fs gs : List Field) → FieldsAscend fs → FieldsAgree fs gs → IsIn f (join_fields fs gs) ↔ (IsIn f fs ⊎ IsIn f gs)
joined_iff f fs gs ascend agree = (joined_from f fs gs, λ either. elim either [ inl of_f ↦ first_joined [] fs gs ascend agree f of_f | inr of_g ↦ second_joined fs gs f of_g ])
