-- Values that are in order stay as they are when they are put in order.
use Rattle.std.proofs.Common.{◌≡◌, List, [], ◌∷◌, ◌++◌, true, false, refl, sym, ap, ap₂, ◌∙◌, subst, arith, append_assoc, append-nil}
use Rattle.std.proofs.lemmas.Int.{ints}
use Rattle.std.specs.Cmp.{int_ranked}
use Rattle.std.specs.Ordering.{match_ordering}
use Rattle.std.specs.declared.cmp.Ordering.{Ordering}
use Rattle.std.specs.declared.cmp.Ordering.TheVariants.{Less, Equal, Greater}
use Rattle.row_cells.specs.declared.scalars.Scalar.{Scalar}
use Rattle.row_cells.specs.declared.scalars.Scalar.TheVariants.{Whole, Flag, Word}
use Rattle.row_cells.specs.declared.schemas.FieldType.{FieldType}
use Rattle.row_cells.specs.JoinLaws.{before_chain, not_before_itself, after_is}
use Rattle.row_cells.specs.Fitting.{MayFollow, AreValues, AreValuesAfter}
use Rattle.synthetic_source.specs.Values.{scalar_cmp, again, with_value, ordered, ordered_after}

chain : (a b c : Scalar) → MayFollow a b → MayFollow b c → MayFollow a c
chain (Whole a) (Whole b) (Whole c) one two = omega (arith, ints, one, two)
chain (Whole a) (Whole b) (Flag c) one two = absurd two
chain (Whole a) (Whole b) (Word c) one two = absurd two
chain (Whole a) (Flag b) c one two = absurd one
chain (Whole a) (Word b) c one two = absurd one
chain (Flag false) (Whole b) c one two = absurd one
chain (Flag true) (Whole b) c one two = absurd one
chain (Flag false) (Word b) c one two = absurd one
chain (Flag true) (Word b) c one two = absurd one
chain (Flag false) (Flag b) (Flag c) one two = tt
chain (Flag false) (Flag false) (Whole c) one two = absurd two
chain (Flag false) (Flag true) (Whole c) one two = absurd two
chain (Flag false) (Flag false) (Word c) one two = absurd two
chain (Flag false) (Flag true) (Word c) one two = absurd two
chain (Flag true) (Flag false) c one two = absurd one
chain (Flag true) (Flag true) c one two = two
chain (Word a) (Whole b) c one two = absurd one
chain (Word a) (Flag b) c one two = absurd one
chain (Word a) (Word b) (Whole c) one two = absurd two
chain (Word a) (Word b) (Flag c) one two = absurd two
chain (Word a) (Word b) (Word c) one two = before_chain a b c one two

same_both : (a b : Scalar) → MayFollow a b → MayFollow b a → a ≡ b
same_both (Whole a) (Whole b) one two = let e : a ≡ b = omega (arith, ints, one, two) in ap Whole e
same_both (Whole a) (Flag b) one two = absurd one
same_both (Whole a) (Word b) one two = absurd one
same_both (Flag false) (Whole b) one two = absurd one
same_both (Flag true) (Whole b) one two = absurd one
same_both (Flag false) (Word b) one two = absurd one
same_both (Flag true) (Word b) one two = absurd one
same_both (Flag false) (Flag false) one two = refl
same_both (Flag false) (Flag true) one two = absurd two
same_both (Flag true) (Flag false) one two = absurd one
same_both (Flag true) (Flag true) one two = refl
same_both (Word a) (Whole b) one two = absurd one
same_both (Word a) (Flag b) one two = absurd one
same_both (Word a) (Word b) one two = absurd (not_before_itself a (before_chain a b a one two))

abbrev AllAfter : Scalar → List Scalar → Type 0
AllAfter v [] = Unit {0}
AllAfter v (w ∷ ws) = MayFollow v w × AllAfter v ws

abbrev AreFollow : List Scalar → Type 0
AreFollow [] = Unit {0}
AreFollow (v ∷ vs) = AllAfter v vs × AreFollow vs

all_after : (v w : Scalar) (vs : List Scalar) → MayFollow v w → AllAfter w vs → AllAfter v vs
all_after v w [] follow all = tt
all_after v w (u ∷ us) follow all = (chain v w u follow all.0, all_after v w us follow all.1)

follow_after : (kind : FieldType) (v : Scalar) (vs : List Scalar) → AreValuesAfter kind v vs → AreFollow (v ∷ vs)
follow_after kind v [] are = (tt, tt)
follow_after kind v (w ∷ ws) are = let rest = follow_after kind w ws are.2 in ((are.0, all_after v w ws are.0 rest.0), rest)

middle : (a : Scalar) (bs : List Scalar) (w : Scalar) (ws : List Scalar) → AllAfter a (bs ++ w ∷ ws) → MayFollow a w
middle a [] w ws all = all.0
middle a (b ∷ bs) w ws all = middle a bs w ws all.1

rotate : (w : Scalar) (bs ws : List Scalar) → AllAfter w (bs ++ w ∷ ws) → AreFollow (bs ++ w ∷ ws) → w ∷ bs ≡ bs ++ w ∷ []
rotate w [] ws all follow = refl
rotate w (b ∷ bs) ws all follow =
    let e : w ≡ b = same_both w b all.0 (middle b bs w ws follow.0) in
    ap₂ (λ x xs. x ∷ xs) e (ap (λ x. x ∷ bs) (sym e) ∙ rotate w bs ws all.1 follow.1)

not_less : (a w : Scalar) → MayFollow a w → scalar_cmp w a ≡ Less → ⊥
not_less (Whole a) (Whole w) follow less = let before = int_ranked w a Less (sym less) in omega (arith, ints, follow, before)
not_less (Whole a) (Flag w) follow less = absurd follow
not_less (Whole a) (Word w) follow less = absurd follow
not_less (Flag false) (Whole w) follow less = absurd follow
not_less (Flag true) (Whole w) follow less = absurd follow
not_less (Flag false) (Flag false) follow less = cc
not_less (Flag false) (Flag true) follow less = cc
not_less (Flag true) (Flag false) follow less = absurd follow
not_less (Flag true) (Flag true) follow less = cc
not_less (Flag false) (Word w) follow less = absurd follow
not_less (Flag true) (Word w) follow less = absurd follow
not_less (Word a) (Whole w) follow less = absurd follow
not_less (Word a) (Flag w) follow less = absurd follow
not_less (Word a) (Word w) follow less = not_before_itself w (before_chain w a w less follow)

stays : (a w : Scalar) (bs : List Scalar) → MayFollow a w → scalar_cmp w a ≡ Equal → (w ≡ a) × (again w (a ∷ bs) ≡ w ∷ a ∷ bs)
stays (Whole a) (Whole w) bs follow same = let e : w ≡ a = int_ranked w a Equal (sym same) in (ap Whole e, refl)
stays (Whole a) (Flag w) bs follow same = absurd follow
stays (Whole a) (Word w) bs follow same = absurd follow
stays (Flag false) (Whole w) bs follow same = absurd follow
stays (Flag true) (Whole w) bs follow same = absurd follow
stays (Flag false) (Flag false) bs follow same = (refl, refl)
stays (Flag false) (Flag true) bs follow same = cc
stays (Flag true) (Flag false) bs follow same = absurd follow
stays (Flag true) (Flag true) bs follow same = (refl, refl)
stays (Flag false) (Word w) bs follow same = absurd follow
stays (Flag true) (Word w) bs follow same = absurd follow
stays (Word a) (Whole w) bs follow same = absurd follow
stays (Word a) (Flag w) bs follow same = absurd follow
stays (Word a) (Word w) bs follow same = let bad : Equal ≡ Greater = sym same ∙ after_is a w follow in cc

put_last : (bs : List Scalar) (w : Scalar) (ws : List Scalar) → AreFollow (bs ++ w ∷ ws) → with_value w bs ≡ bs ++ w ∷ []
put_last [] w ws follow = refl
put_last (a ∷ bs) w ws follow = by (scalar_cmp w a) refl (put_last bs w ws follow.1)
  where
    turned : w ≡ a → w ∷ a ∷ bs ≡ a ∷ (bs ++ w ∷ [])
    turned e = ap₂ (λ x xs. x ∷ xs) e (ap (λ x. x ∷ bs) (sym e) ∙ rotate w bs ws (subst (λ x. AllAfter x (bs ++ w ∷ ws)) (sym e) follow.0) follow.1)

    by : (o : Ordering) → scalar_cmp w a ≡ o → with_value w bs ≡ bs ++ w ∷ [] → match_ordering o (w ∷ a ∷ bs) (again w (a ∷ bs)) (a ∷ with_value w bs) ≡ a ∷ (bs ++ w ∷ [])
    by Less is later = absurd (not_less a w (middle a bs w ws follow.0) is)
    by Equal is later = let same = stays a w bs (middle a bs w ws follow.0) is in same.1 ∙ turned same.0
    by Greater is later = ap (λ xs. a ∷ xs) later

keeps : (bs ws : List Scalar) → AreFollow (bs ++ ws) → ordered_after bs ws ≡ bs ++ ws
keeps bs [] follow = sym (append-nil bs)
keeps bs (w ∷ ws) follow =
    let on : (bs ++ w ∷ []) ++ ws ≡ bs ++ w ∷ ws = append_assoc bs (w ∷ []) ws in
    ap (λ xs. ordered_after xs ws) (put_last bs w ws follow) ∙ (keeps (bs ++ w ∷ []) ws (subst AreFollow (sym on) follow) ∙ on)

-- the values of a label
pub stay_ordered : (kind : FieldType) (vs : List Scalar) → AreValues kind vs → ordered vs ≡ vs
stay_ordered kind [] are = refl
stay_ordered kind (v ∷ vs) are = keeps [] (v ∷ vs) (follow_after kind v vs are.1)
