-- What a fold is: a value for no items, a value for one item, and a merge of the values of two lists that follow each other.
use Rattle.std.specs.Prelude.{◌≡◌, ℕ, ◌+◌, ◌≤◌, List, [], ◌∷◌, sum_by}

-- merging is associative with `none` as its unit on both sides, and reaches add up at most
pub record FoldLaws {F : Type 0} (none : F) (merge : F → F → F) (reach : F → ℕ) : Type 0 where
  pub none_left : (a : F) → merge none a ≡ a
  pub none_right : (a : F) → merge a none ≡ a
  pub assoc : (a b c : F) → merge (merge a b) c ≡ merge a (merge b c)
  pub reach_none : reach none ≡ 0
  pub reach_merge : (a b : F) → reach (merge a b) ≤ reach a + reach b

-- the fold of a list of items, which stand in order of time
abbrev pub fold_of : {F I : Type 0} → F → (F → F → F) → (I → F) → List I → F
fold_of none merge one [] = none
fold_of none merge one (x ∷ xs) = merge (one x) (fold_of none merge one xs)

-- the reaches of the items of a list, added up
abbrev pub reach_of_items : {F I : Type 0} → (F → ℕ) → (I → F) → List I → ℕ
reach_of_items reach one xs = sum_by (λ x. reach (one x)) xs
