-- Lists and options that are equal have equal parts; cases of two numbers.
use Rattle.std.specs.Prelude.{◌≡◌, ℕ, ◌<◌, ◌≤◌, None, Some, List, ◌∷◌}
use Rattle.std.proofs.Common.{inl, inr}
use Rattle.std.proofs.lemmas.Bool.{cases_lt}

pub both : {A : Type 0} {x y : A} {xs ys : List A} → x ≡ y → xs ≡ ys → x ∷ xs ≡ y ∷ ys
both p q = cc

pub some_is : {A : Type 0} {x y : A} → Some x ≡ Some y → x ≡ y
some_is same = cc

pub none_is_some : {A : Type 0} (x : A) → None ≡ Some x → ⊥
none_is_some x same = cc

pub by_nat : {P : Type 0} (k n : ℕ) → (k < n → P) → (n ≤ k → P) → P
by_nat k n less more = elim (cases_lt k n) [ inl below ↦ less below | inr from ↦ more from ]
