-- Two folds at once.
use Rattle.std.specs.Prelude.{ℕ, max}
use Rattle.fold_law.specs.declared.pairs.Both.{Both}
use Rattle.fold_law.specs.declared.pairs.PairItem.{PairItem}

-- the two folds side by side
abbrev pub both_of : {A B I J : Type 0} → A → B → Both A B I J
both_of x y = record { a = x; b = y }

abbrev pub both_of_one : {A B I J : Type 0} → (I → A) → (J → B) → PairItem I J → Both A B I J
both_of_one one_a one_b item = both_of (one_a item.a) (one_b item.b)

abbrev pub merge_boths : {A B I J : Type 0} → (A → A → A) → (B → B → B) → Both A B I J → Both A B I J → Both A B I J
merge_boths merge_a merge_b p q = both_of (merge_a p.a q.a) (merge_b p.b q.b)

-- the greater reach of the two
abbrev pub reach_of_both : {A B I J : Type 0} → (A → ℕ) → (B → ℕ) → Both A B I J → ℕ
reach_of_both reach_a reach_b p = max (reach_a p.a) (reach_b p.b)
