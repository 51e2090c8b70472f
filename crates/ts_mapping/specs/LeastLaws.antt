-- What the least of some paths is.
use Rattle.std.specs.Prelude.{◌≡◌, ◌⊎◌, ℕ, Bool, true, false, ◌||◌, List, [], ◌∷◌, Some, bytes_eq}
use Rattle.std.specs.Cmp.{tied_itself}
use Rattle.std.specs.Cmp.Lexicographic.{slice_cmp, nat_list_cmp_total}
use Rattle.std.specs.Ordering.{nat_cmp, match_ordering, ordering_reverse}
use Rattle.std.specs.declared.cmp.Ordering.{Ordering}
use Rattle.std.specs.declared.cmp.Ordering.TheVariants.{Less, Equal, Greater}
use Rattle.std.proofs.Common.{refl, sym, ap, ◌∙◌, subst, inl, inr}
use Rattle.std.proofs.lemmas.Slice.Eq.{bytes_eq-Decides}
use Rattle.ts_mapping.specs.Laws.{LeastIsLeast}
use Rattle.ts_mapping.specs.Least.{IsAtMost, least_with}
use Rattle.ts_mapping.specs.Paths.{is_among}

pub less_greater : Less ≡ Greater → ⊥
less_greater e = cc

equal_greater : Equal ≡ Greater → ⊥
equal_greater e = cc

pub at_most_itself : (p : List ℕ) → IsAtMost p p
at_most_itself p e = equal_greater (sym (tied_itself nat_list_cmp_total p) ∙ e)

pub less_at_most : (p q : List ℕ) → slice_cmp nat_cmp p q ≡ Less → IsAtMost p q
less_at_most p q is e = less_greater (sym is ∙ e)

pub at_most_chain : (p q r : List ℕ) → IsAtMost p q → IsAtMost q r → IsAtMost p r
at_most_chain p q r first second = go (slice_cmp nat_cmp p q) refl (slice_cmp nat_cmp q r) refl
  where
    go : (a : Ordering) → slice_cmp nat_cmp p q ≡ a → (b : Ordering) → slice_cmp nat_cmp q r ≡ b → IsAtMost p r
    go Greater is b is_b = absurd (first is)
    go Equal is b is_b = λ e. second (sym (nat_list_cmp_total.congr p q r is) ∙ e)
    go Less is Greater is_b = absurd (second is_b)
    go Less is Less is_b = less_at_most p r (nat_list_cmp_total.trans p q r is is_b)
    go Less is Equal is_b = less_at_most p r (sym (flipped r p q (reversed q r is_b)) ∙ is)
      where
        reversed : (x y : List ℕ) → slice_cmp nat_cmp x y ≡ Equal → slice_cmp nat_cmp y x ≡ Equal
        reversed x y e = nat_list_cmp_total.antisymm y x ∙ ap ordering_reverse e

        flipped : (x y z : List ℕ) → slice_cmp nat_cmp x z ≡ Equal → slice_cmp nat_cmp y z ≡ slice_cmp nat_cmp y x
        flipped x y z e = nat_list_cmp_total.antisymm y z ∙ (ap ordering_reverse (sym (nat_list_cmp_total.congr x z y e)) ∙ sym (nat_list_cmp_total.antisymm y x))

pub not_behind : (p q : List ℕ) → (slice_cmp nat_cmp q p ≡ Less → ⊥) → IsAtMost p q
not_behind p q never e = never (nat_list_cmp_total.antisymm q p ∙ ap ordering_reverse e)

-- what is held after some paths
record Held (held : List ℕ) (ps : List (List ℕ)) (p : List ℕ) : Type 0 where
  from : (p ≡ held) ⊎ (is_among p ps ≡ true)
  below_held : IsAtMost p held
  below_all : (q : List ℕ) → is_among q ps ≡ true → IsAtMost p q

itself_among : (p q : List ℕ) (ps : List (List ℕ)) → p ≡ q → is_among p (q ∷ ps) ≡ true
itself_among p q ps same = ap (λ b. b || is_among p ps) ((bytes_eq-Decides p q).1 same)

later_among : (p q : List ℕ) (ps : List (List ℕ)) → is_among p ps ≡ true → is_among p (q ∷ ps) ≡ true
later_among p q ps is = go (bytes_eq p q)
  where
    go : (v : Bool) → (v || is_among p ps) ≡ true
    go true = refl
    go false = is

-- the first of some paths may be the one that is held from there on
with_first : (held q : List ℕ) (ps : List (List ℕ)) (p kept : List ℕ) → (kept ≡ held) ⊎ (kept ≡ q) → IsAtMost kept held → IsAtMost kept q → Held kept ps p → Held held (q ∷ ps) p
with_first held q ps p kept one below_held below_first rest = record {
  from = elim rest.from [
    | inl same ↦ elim one [ inl first ↦ inl (same ∙ first) | inr second ↦ inr (itself_among p q ps (same ∙ second)) ]
    | inr later ↦ inr (later_among p q ps later)
  ];
  below_held = at_most_chain p kept held rest.below_held below_held;
  below_all = λ r is. go r (bytes_eq r q) refl is;
}
  where
    go : (r : List ℕ) (v : Bool) → bytes_eq r q ≡ v → (v || is_among r ps) ≡ true → IsAtMost p r
    go r true same is = subst (IsAtMost p) (sym ((bytes_eq-Decides r q).0 same)) (at_most_chain p kept q rest.below_held below_first)
    go r false same is = rest.below_all r is

held_is : (held : List ℕ) (ps : List (List ℕ)) (p : List ℕ) → least_with (Some held) ps ≡ Some p → Held held ps p
held_is held [] p is = let same : held ≡ p = cc in record { from = inl (sym same); below_held = subst (λ r. IsAtMost r held) same (at_most_itself held); below_all = λ q none. absurd (no none) }
  where
    no : false ≡ true → ⊥
    no e = cc
held_is held (q ∷ ps) p is = go (slice_cmp nat_cmp q held) refl is (held_is q ps p) (held_is held ps p)
  where
    go : (o : Ordering) → slice_cmp nat_cmp q held ≡ o → least_with (match_ordering o (Some q) (Some held) (Some held)) ps ≡ Some p
        → (least_with (Some q) ps ≡ Some p → Held q ps p) → (least_with (Some held) ps ≡ Some p → Held held ps p) → Held held (q ∷ ps) p
    go Less e is first other = with_first held q ps p q (inr refl) (less_at_most q held e) (at_most_itself q) (first is)
    go Equal e is first other = with_first held q ps p held (inl refl) (at_most_itself held) (not_behind held q (λ less. never (sym less ∙ e))) (other is)
      where
        never : Less ≡ Equal → ⊥
        never e = cc
    go Greater e is first other = with_first held q ps p held (inl refl) (at_most_itself held) (not_behind held q (λ less. less_greater (sym less ∙ e))) (other is)

-- the least is one of the paths, and behind none of them
pub least_is_least : LeastIsLeast
least_is_least [] p is = cc
least_is_least (q ∷ ps) p is =
    let rest = held_is q ps p is in
    record {
      among = elim rest.from [ inl same ↦ itself_among p q ps same | inr later ↦ later_among p q ps later ];
      at_most = λ r is. go r (bytes_eq r q) refl is;
    }
  where
    go : (r : List ℕ) (v : Bool) → bytes_eq r q ≡ v → (v || is_among r ps) ≡ true → IsAtMost p r
    go r true same is_r = subst (IsAtMost p) (sym ((bytes_eq-Decides r q).0 same)) (held_is q ps p is).below_held
    go r false same is_r = (held_is q ps p is).below_all r is_r
