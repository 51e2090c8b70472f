-- The paths that a walk puts together, step by step.
use Rattle.std.proofs.Common.{◌≡◌, ℕ, ◌+◌, ◌<◌, List, [], ◌∷◌, ◌++◌, length, get_or, drop, add-one, Option, Some, None, refl, sym, ap, ◌∙◌, subst, drop-cons}
use Rattle.std.specs.BTreeSet.{insert_key}
use Rattle.std.specs.Cmp.Lexicographic.{slice_cmp}
use Rattle.std.specs.Ordering.{nat_cmp}
use Rattle.serde_json.specs.Data.{Data, Members, member}
use Rattle.serde_json.specs.View.{view, items_view}
use Rattle.serde_json.specs.declared.value.Value.{Value}
use Rattle.json_walk.specs.Listed.{placed, listed, listed_items, listed_members}
use Rattle.json_walk.specs.Path.{below}
use Rattle.json_walk.specs.Paths.{with_path, with_paths}

-- what is left of a list begins with the element at hand
pub drop_here : {S : Type 0} (xs : List S) (i : ℕ) (x : S) → i < length xs → x ≡ get_or xs i x → drop i xs ≡ x ∷ drop (i + 1) xs
drop_here xs i x lt is = rw (add-one, drop-cons xs i x, ← is) refl

-- one leaf more
pub noted : (ks : List (List ℕ)) (here : Option (List ℕ)) (d : Data) → with_path ks here ≡ with_paths ks (placed here d)
noted ks None d = refl
noted ks (Some q) d = refl

both : (ks : List (List ℕ)) (es fs : List (List ℕ × Data)) → with_paths ks (es ++ fs) ≡ with_paths (with_paths ks es) fs
both ks [] fs = refl
both ks (e ∷ es) fs = both (insert_key (slice_cmp nat_cmp) ks e.0) es fs

pub items_step : (stops : List (List ℕ)) (here now : Option (List ℕ)) (ks next all : List (List ℕ)) (x : Value) (left rest : List Value) → now ≡ here → left ≡ x ∷ rest
    → next ≡ with_paths ks (listed stops now (view x)) → with_paths ks (listed_items stops here (items_view left)) ≡ all → with_paths next (listed_items stops here (items_view rest)) ≡ all
items_step stops here now ks next all x left rest same opens is held =
    ap (λ k. with_paths k (listed_items stops here (items_view rest))) (subst (λ p. next ≡ with_paths ks (listed stops p (view x))) same is)
    ∙ (sym (both ks (listed stops here (view x)) (listed_items stops here (items_view rest)))
    ∙ (ap (λ xs. with_paths ks (listed_items stops here (items_view xs))) (sym opens) ∙ held))

pub members_step : (stops : List (List ℕ)) (here now inner : Option (List ℕ)) (s : List ℕ) (ks next all : List (List ℕ)) (d : Data) (left rest : Members) → now ≡ here → inner ≡ Some (below now s)
    → left ≡ member s d rest → next ≡ with_paths ks (listed stops inner d) → with_paths ks (listed_members stops here left) ≡ all → with_paths next (listed_members stops here rest) ≡ all
members_step stops here now inner s ks next all d left rest same goes opens is held =
    let place : inner ≡ Some (below here s) = goes ∙ ap (λ p. Some (below p s)) same in
    ap (λ k. with_paths k (listed_members stops here rest)) (subst (λ p. next ≡ with_paths ks (listed stops p d)) place is)
    ∙ (sym (both ks (listed stops (Some (below here s)) d) (listed_members stops here rest))
    ∙ (ap (λ ms. with_paths ks (listed_members stops here ms)) (sym opens) ∙ held))
