-- What holds of each element: weakened, joined, of all, of those that a test chooses.
use Rattle.std.specs.Prelude.{Bool, List, [], ◌∷◌, filter, cond}
use Rattle.std.proofs.Common.{◌≡◌, true, false, refl}
use Rattle.row_cells.specs.Each.{Each}

pub Each-weaker : {X : Type 0} (P Q : X → Type 0) → ((x : X) → P x → Q x) → (xs : List X) → Each P xs → Each Q xs
Each-weaker P Q weaker [] each = tt
Each-weaker P Q weaker (x ∷ xs) each = (weaker x each.0, Each-weaker P Q weaker xs each.1)

pub Each-both : {X : Type 0} (P Q R : X → Type 0) → ((x : X) → P x → Q x → R x) → (xs : List X) → Each P xs → Each Q xs → Each R xs
Each-both P Q R both [] p q = tt
Each-both P Q R both (x ∷ xs) p q = (both x p.0 q.0, Each-both P Q R both xs p.1 q.1)

pub Each-all : {X : Type 0} (P : X → Type 0) → ((x : X) → P x) → (xs : List X) → Each P xs
Each-all P all [] = tt
Each-all P all (x ∷ xs) = (all x, Each-all P all xs)

pub Each-filter : {X : Type 0} (P : X → Type 0) (test : X → Bool) → (xs : List X) → Each P xs → Each P (filter test xs)
Each-filter P test [] each = tt
Each-filter P test (x ∷ xs) each = by_test (test x) (Each-filter P test xs each.1)
  where
    by_test : (b : Bool) → Each P (filter test xs) → Each P (cond b (x ∷ filter test xs) (filter test xs))
    by_test true later = (each.0, later)
    by_test false later = later

-- a filter leaves what passes
pub filter_all : {X : Type 0} (test : X → Bool) (xs : List X) → Each (λ x. test x ≡ true) xs → filter test xs ≡ xs
filter_all test [] each = refl
filter_all test (x ∷ xs) each = rw (each.0, filter_all test xs each.1) refl

pub filter_none : {X : Type 0} (test : X → Bool) (xs : List X) → Each (λ x. test x ≡ false) xs → filter test xs ≡ []
filter_none test [] each = refl
filter_none test (x ∷ xs) each = rw each.0 (filter_none test xs each.1)
