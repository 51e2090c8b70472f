-- The paths of leaves, put in order.
use Rattle.std.proofs.Common.{◌≡◌, ◌≢◌, ◌↔◌, ℕ, List, [], ◌∷◌, Bool, true, false, ◌||◌, cond, bytes_eq, Ordering, Less, Equal, Greater, map, filter, refl, sym, ap, ap₂, ◌∙◌, true≢false}
use Rattle.std.specs.Prelude.{Contains}
use Rattle.std.specs.BTreeSet.{insert_key}
use Rattle.std.specs.Cmp.Lexicographic.{slice_cmp, nat_list_eq_equiv}
use Rattle.std.specs.List.{list_any}
use Rattle.std.specs.Ordering.{nat_cmp, match_ordering, is_eq}
use Rattle.std.proofs.lemmas.Map.Text.{is_eq-slice_cmp}
use Rattle.std.proofs.lemmas.Map.Views.{list_any-from_Contains, Contains-from_any}
use Rattle.std.proofs.lemmas.Slice.Eq.{bytes_eq-Decides}
use Rattle.serde_json.specs.Data.{Data}
use Rattle.json_walk.specs.Leaves.{leaves_of, placed_at, AreLeaves}
use Rattle.json_walk.specs.Paths.{with_paths}

abbrev has : List ℕ → List (List ℕ) → Bool
has p ks = list_any (λ k. bytes_eq k p) ks

abbrev firsts : List (List ℕ × Data) → List (List ℕ)
firsts es = map (λ e. e.0) es

-- of two the same, one is enough
twice : (a b : Bool) → (a || b) ≡ (a || (a || b))
twice true b = refl
twice false b = refl

swap : (a b c : Bool) → (a || (b || c)) ≡ (b || (a || c))
swap true true c = refl
swap true false c = refl
swap false true c = refl
swap false false c = refl

has-placed : (p k x : List ℕ) (xs : List (List ℕ)) (o : Ordering) → slice_cmp nat_cmp k x ≡ o → has p (insert_key (slice_cmp nat_cmp) xs k) ≡ bytes_eq k p || has p xs
    → has p (match_ordering o (k ∷ x ∷ xs) (x ∷ xs) (x ∷ insert_key (slice_cmp nat_cmp) xs k)) ≡ bytes_eq k p || has p (x ∷ xs)
has-placed p k x xs Less is later = refl
has-placed p k x xs Equal is later =
    let same : k ≡ x = (bytes_eq-Decides k x).0 (sym (is_eq-slice_cmp k x) ∙ ap is_eq is) in
    rw (sym same) (twice (bytes_eq k p) (has p xs))
has-placed p k x xs Greater is later = ap (λ b. bytes_eq x p || b) later ∙ swap (bytes_eq x p) (bytes_eq k p) (has p xs)

has-insert_key : (p k : List ℕ) (xs : List (List ℕ)) → has p (insert_key (slice_cmp nat_cmp) xs k) ≡ bytes_eq k p || has p xs
has-insert_key p k [] = refl
has-insert_key p k (x ∷ xs) = has-placed p k x xs _ refl (has-insert_key p k xs)

or-assoc : (a b c : Bool) → (a || b) || c ≡ b || (a || c)
or-assoc true true c = refl
or-assoc true false c = refl
or-assoc false true c = refl
or-assoc false false c = refl

has-with_paths : (p : List ℕ) (ks : List (List ℕ)) (es : List (List ℕ × Data)) → has p (with_paths ks es) ≡ has p ks || has p (firsts es)
has-with_paths p ks [] = or_false (has p ks) where
  or_false : (b : Bool) → b ≡ b || false
  or_false true = refl
  or_false false = refl
has-with_paths p ks (e ∷ es) =
    has-with_paths p (insert_key (slice_cmp nat_cmp) ks e.0) es ∙ ap (λ b. b || has p (firsts es)) (has-insert_key p e.0 ks)
    ∙ or-assoc (bytes_eq e.0 p) (has p ks) (has p (firsts es))

-- a path is among those of the leaves exactly where it has leaves
has_leaves : (p : List ℕ) (es : List (List ℕ × Data)) → (has p (firsts es) ≡ true) ↔ (placed_at p es ≢ [])
has_leaves p [] = ((λ h. absurd (true≢false (sym h))), (λ h. absurd (h refl)))
has_leaves p (e ∷ es) = go (bytes_eq e.0 p) (has_leaves p es) where
  go : (v : Bool) → ((has p (firsts es) ≡ true) ↔ (placed_at p es ≢ []))
      → (v || has p (firsts es) ≡ true) ↔ (map (λ (x : List ℕ × Data). x.1) (cond v (e ∷ filter (λ x. bytes_eq x.0 p) es) (filter (λ x. bytes_eq x.0 p) es)) ≢ [])
  go true same = ((λ h none. cc), (λ h. refl))
  go false same = same

has_symm : (p : List ℕ) (ks : List (List ℕ)) → has p ks ≡ list_any (bytes_eq p) ks
has_symm p [] = refl
has_symm p (k ∷ ks) = ap₂ (λ a b. a || b) (nat_list_eq_equiv.symm k p) (has_symm p ks)

Contains_has : (p : List ℕ) (ks : List (List ℕ)) → Contains ks p ↔ (has p ks ≡ true)
Contains_has p ks = (
  (λ h. has_symm p ks ∙ list_any-from_Contains nat_list_eq_equiv p ks h),
  (λ h. Contains-from_any (λ x y e. (bytes_eq-Decides x y).0 e) p ks (sym (has_symm p ks) ∙ h)),
)

pub are_leaf_paths : (stops : List (List ℕ)) (d : Data) (es : List (List ℕ × Data)) → AreLeaves stops d es → (p : List ℕ) → Contains (with_paths [] es) p ↔ (leaves_of stops d p ≢ [])
unfolding AreLeaves
are_leaf_paths stops d es all p =
    let first = Contains_has p (with_paths [] es) in
    let second = has_leaves p es in (
      (λ h. let some = second.0 (sym (has-with_paths p [] es) ∙ first.0 h) in λ none. some (all p ∙ none)),
      (λ some. first.1 (has-with_paths p [] es ∙ second.1 (λ none. some (sym (all p) ∙ none)))),
    )
