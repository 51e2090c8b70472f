-- The fold of a list, cut in two, with one item more, and of one item; and how far it reaches.
use Rattle.std.specs.Prelude.{◌≡◌, ℕ, ◌≤◌, List, [], ◌∷◌, ◌++◌}
use Rattle.std.proofs.Common.{sym, ap, ◌∙◌, arith}
use Rattle.std.proofs.lemmas.List.Sums.{sum_by-cons}
use Rattle.fold_law.specs.Laws.{FoldLaws, fold_of, reach_of_items}

module _ {F I : Type 0} {none : F} {merge : F → F → F} {reach : F → ℕ} (laws : FoldLaws none merge reach) (one : I → F) where
  -- the fold of a joined list is the merge of the folds
  pub fold_of-append : (xs ys : List I) → fold_of none merge one (xs ++ ys) ≡ merge (fold_of none merge one xs) (fold_of none merge one ys)
  fold_of-append [] ys = sym (laws.none_left (fold_of none merge one ys))
  fold_of-append (x ∷ xs) ys = ap (merge (one x)) (fold_of-append xs ys) ∙ sym (laws.assoc (one x) (fold_of none merge one xs) (fold_of none merge one ys))

  -- one item more at the end is merged last
  pub fold_of-push : (xs : List I) (x : I) → fold_of none merge one (xs ++ x ∷ []) ≡ merge (fold_of none merge one xs) (one x)
  fold_of-push xs x = fold_of-append xs (x ∷ []) ∙ ap (merge (fold_of none merge one xs)) (laws.none_right (one x))

  -- the fold of one item is that item's value
  pub fold_of-one : (x : I) → fold_of none merge one (x ∷ []) ≡ one x
  fold_of-one x = laws.none_right (one x)

  -- a fold reaches at most as far as its items together
  pub reach-fold_of : (xs : List I) → reach (fold_of none merge one xs) ≤ reach_of_items reach one xs
  reach-fold_of [] = omega (arith, laws.reach_none)
  reach-fold_of (x ∷ xs) = omega (arith, laws.reach_merge (one x) (fold_of none merge one xs), reach-fold_of xs, sum_by-cons (λ y. reach (one y)) x xs)
