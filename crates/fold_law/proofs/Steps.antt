-- One item more of a list that is folded from its start.
use Rattle.std.proofs.Common.{◌≡◌, ℕ, ◌+◌, ◌<◌, ◌≤◌, List, [], ◌∷◌, ◌++◌, length, get_or, take, sym, ap, ◌∙◌, arith}
use Rattle.std.proofs.lemmas.List.{take_more}
use Rattle.std.proofs.lemmas.List.Sums.{sum_by_more_le}
use Rattle.fold_law.specs.Laws.{FoldLaws, fold_of, reach_of_items}
use Rattle.fold_law.specs.ListLaws.{fold_of-push, reach-fold_of}

module _ {F I : Type 0} {none : F} {merge : F → F → F} {reach : F → ℕ} (laws : FoldLaws none merge reach) (one : I → F) where
  pub fold_of-take_more : (xs : List I) (i : ℕ) (x : I) → i < length xs → x ≡ get_or xs i x → merge (fold_of none merge one (take i xs)) (one x) ≡ fold_of none merge one (take (i + 1) xs)
  fold_of-take_more xs i x within read =
      let more : take (i + 1) xs ≡ take i xs ++ (x ∷ []) = take_more xs i x within ∙ ap (λ y. take i xs ++ (y ∷ [])) (sym read) in
      sym (ap (fold_of none merge one) more ∙ fold_of-push laws one (take i xs) x)

  pub reach_of_items-more : (xs : List I) (i : ℕ) (x : I) → i < length xs → x ≡ get_or xs i x → reach (fold_of none merge one (take i xs)) + reach (one x) ≤ reach_of_items reach one xs
  reach_of_items-more xs i x within read =
      let whole = sum_by_more_le (λ y. reach (one y)) xs i x within in
      let here : reach (one x) ≡ reach (one (get_or xs i x)) = ap (λ y. reach (one y)) read in
      omega (arith, whole, here, reach-fold_of laws one (take i xs))
