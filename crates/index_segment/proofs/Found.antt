-- Where a key stands among keys that ascend.
use Rattle.std.specs.Prelude.{◌≡◌, ◌≢◌, ℕ, zero, suc, ◌+◌, ◌<◌, ◌≤◌, nat_lt, Bool, true, false, cond, Option, Some, None, List, [], ◌∷◌, length}
use Rattle.std.specs.List.{slice_get}
use Rattle.std.specs.Ordering.{nat_cmp, is_gt, ordering_reverse}
use Rattle.std.specs.Cmp.Lexicographic.{slice_cmp}
use Rattle.std.specs.Str.{bytes_eq}
use Rattle.std.specs.declared.cmp.Ordering.{Ordering}
use Rattle.std.specs.declared.cmp.Ordering.TheVariants.{Less, Equal, Greater}
use Rattle.std.proofs.Common.{refl, ap, sym, subst, ◌∙◌, arith, get_or, below_more}
use Rattle.std.proofs.lemmas.Bool.{ltb-false}
use Rattle.std.proofs.lemmas.Cmp.{nat_list_cmp_total, tied_itself}
use Rattle.std.proofs.lemmas.List.{get_or_default}
use Rattle.std.proofs.lemmas.Option.{slice_get_past, get_or_from_slice_get, slice_get-get_or}
use borrow.Author.Tests.{ltb-true}
use Rattle.index_segment.specs.Looks.{first_behind, is_behind}
use Rattle.index_segment.specs.Order.{Ascend}
use Rattle.index_segment.proofs.Runs.{bytes_eq_differ, bytes_eq_same, same_key}
use Rattle.row_cells.specs.WidenLaws.{apart}
use Rattle.index_segment.proofs.Lists.{by_nat}

pub by_le : {P : Type 0} (a b : ℕ) → a ≤ b → (a ≡ b → P) → (a < b → P) → P
by_le a b below same less = by_nat a b less (λ from. same (omega (arith, below, from)))

abbrev order : List ℕ → List ℕ → Ordering
order a b = slice_cmp nat_cmp a b

greater : (a b : List ℕ) → (order a b ≡ Less → ⊥) → (a ≡ b → ⊥) → order a b ≡ Greater
greater a b less same = go (order a b) refl
  where
    go : (o : Ordering) → order a b ≡ o → o ≡ Greater
    go Less is = absurd (less is)
    go Equal is = absurd (same (same_key a b is))
    go Greater is = refl

module _ (keys : List (List ℕ)) (key : List ℕ) (ascend : Ascend keys) where
  pub item_order : (n : ℕ) (item : List ℕ) (o : Ordering) → item ≡ get_or keys n item → n < length keys → o ≡ order item key → o ≡ order (get_or keys n []) key
  item_order n item o is there o_is = o_is ∙ ap (λ t. order t key) (is ∙ get_or_default keys n item [] there)

  pub all_before : (n : ℕ) → n < length keys → order (get_or keys n []) key ≡ Less → (k : ℕ) → k < n + 1 → order (get_or keys k []) key ≡ Less
  all_before n there less = below_more _ _ (λ k below. nat_list_cmp_total.trans (get_or keys k []) (get_or keys n []) key (ascend k n below there) less) less

  pub all_behind : (n : ℕ) → (order (get_or keys n []) key ≡ Less → ⊥) → (k : ℕ) → n ≤ k → k < length keys → order (get_or keys k []) key ≢ Less
  all_behind n not k from there = by_le n k from
      (λ same. subst (λ i. order (get_or keys i []) key ≢ Less) same not)
      (λ below less. not (nat_list_cmp_total.trans (get_or keys n []) (get_or keys k []) key (ascend n k below there) less))

  -- no key is the one, where it isn't at the place before which all are less
  pub not_found : (n : ℕ) → ((k : ℕ) → k < n → order (get_or keys k []) key ≡ Less) → ((k : ℕ) → n ≤ k → k < length keys → order (get_or keys k []) key ≢ Less) → (n < length keys → get_or keys n [] ≢ key) → (k : ℕ) → k < length keys → get_or keys k [] ≢ key
  not_found n before behind other k there same = go (nat_lt k n) refl
    where
      go : (v : Bool) → nat_lt k n ≡ v → ⊥
      go true is = apart (get_or keys k []) key (before k (ltb-true k n is)) same
      go false is = by_le n k (ltb-false k n is)
          (λ at. other (omega (arith, at, there)) (ap (λ i. get_or keys i []) at ∙ same))
          (λ below. behind n (omega arith) (omega (arith, below, there)) (subst (λ t. order (get_or keys n []) t ≡ Less) same (ascend n k below there)))

pub first_at : (before : Option (List ℕ)) (keys : List (List ℕ)) (n : ℕ) → ((k : ℕ) → k < n → is_behind before (get_or keys k []) ≡ false) → (n < length keys → is_behind before (get_or keys n []) ≡ true) → first_behind before keys ≡ slice_get keys n
first_at before [] n not is = sym (slice_get_past [] n (omega arith))
first_at before (key ∷ keys) zero not is = ap (λ b. cond {A = Option (List ℕ)} b (Some key) (first_behind before keys)) (is (omega arith))
first_at before (key ∷ keys) (suc n) not is =
    ap (λ b. cond {A = Option (List ℕ)} b (Some key) (first_behind before keys)) (not 0 (omega arith))
    ∙ first_at before keys n (λ k below. not (suc k) (omega (arith, below))) (λ there. is (omega (arith, there)))

equal_order : (a b : List ℕ) → a ≡ b → order a b ≡ Equal
equal_order a b same = ap (order a) (sym same) ∙ tied_itself nat_list_cmp_total a

pub reverse : (a b : List ℕ) → order a b ≡ Less → order b a ≡ Greater
reverse a b less = nat_list_cmp_total.antisymm b a ∙ ap ordering_reverse less

module _ (keys : List (List ℕ)) (key : List ℕ) (ascend : Ascend keys) (n : ℕ) (before : (k : ℕ) → k < n → order (get_or keys k []) key ≡ Less) (behind : (k : ℕ) → n ≤ k → k < length keys → order (get_or keys k []) key ≢ Less) where
  is_passed : (k : ℕ) → k < n → is_behind (Some key) (get_or keys k []) ≡ false
  is_passed k below = ap is_gt (before k below)

  -- the key is at the place
  pub behind_there : slice_get keys n ≡ Some key → first_behind (Some key) keys ≡ slice_get keys (n + 1)
  behind_there there =
      let at : get_or keys n [] ≡ key = get_or_from_slice_get keys n key [] there in
      first_at (Some key) keys (n + 1) (below_more _ _ is_passed (ap is_gt (equal_order (get_or keys n []) key at)))
      (λ within. ap is_gt (reverse key (get_or keys (n + 1) []) (subst (λ t. order t (get_or keys (n + 1) []) ≡ Less) at (ascend n (n + 1) (omega arith) within))))

  pub behind_here : (n < length keys → get_or keys n [] ≢ key) → first_behind (Some key) keys ≡ slice_get keys n
  behind_here other = first_at (Some key) keys n is_passed (λ within. ap is_gt (greater (get_or keys n []) key (behind n (omega arith) within) (other within)))

pub past_end : (keys : List (List ℕ)) (n : ℕ) → None ≡ slice_get keys n → n < length keys → ⊥
past_end keys n none within = cc (slice_get-get_or keys n [] within)

pub differs : (keys : List (List ℕ)) (n : ℕ) (found key : List ℕ) → Some found ≡ slice_get keys n → false ≡ bytes_eq found key → get_or keys n [] ≢ key
differs keys n found key at other same = bytes_eq_differ found key (sym other) (sym (get_or_from_slice_get keys n found [] (sym at)) ∙ same)

pub is_there : (keys : List (List ℕ)) (n : ℕ) (found key : List ℕ) → Some found ≡ slice_get keys n → true ≡ bytes_eq found key → slice_get keys n ≡ Some key
is_there keys n found key at same = sym at ∙ ap Some (bytes_eq_same found key (sym same))

pub first_of_all : (keys : List (List ℕ)) → first_behind None keys ≡ slice_get keys 0
first_of_all [] = refl
first_of_all (key ∷ keys) = refl
