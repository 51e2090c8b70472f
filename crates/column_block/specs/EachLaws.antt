-- What holds of each item: of items joined, of the one at a place, of one more, of a range.
use Rattle.std.specs.Prelude.{ℕ, zero, suc, ◌+◌, ◌-◌, ◌<◌, List, [], ◌∷◌, ◌++◌, length, take, drop, get_or, slice_range}
use Rattle.std.proofs.Common.{sym, subst, arith}
use Rattle.std.proofs.lemmas.List.{take_more}
use Rattle.row_cells.specs.Each.{Each}
use Rattle.row_cells.specs.RangeLaws.{each_drop, each_take}

pub each-append : {A : Type 0} (P : A → Type 0) (xs ys : List A) → Each P xs → Each P ys → Each P (xs ++ ys)
each-append P [] ys h k = k
each-append P (x ∷ xs) ys h k = (h.0, each-append P xs ys h.1 k)

pub each-at : {A : Type 0} (P : A → Type 0) (xs : List A) (k : ℕ) (d : A) → k < length xs → Each P xs → P (get_or xs k d)
each-at P [] k d l h = absurd (omega arith)
each-at P (x ∷ xs) zero d l h = h.0
each-at P (x ∷ xs) (suc k) d l h = each-at P xs k d (omega arith) h.1

pub each-more : {A : Type 0} (P : A → Type 0) (xs : List A) (k : ℕ) (d : A) → k < length xs → Each P (take k xs) → P (get_or xs k d) → Each P (take (k + 1) xs)
each-more P xs k d l h one = subst (Each P) (sym (take_more xs k d l)) (each-append P (take k xs) (get_or xs k d ∷ []) h (one, tt))

pub each-range : {A : Type 0} (P : A → Type 0) (xs : List A) (from to : ℕ) → Each P xs → Each P (slice_range xs from to)
each-range P xs from to h = each_take P (to - from) (drop from xs) (each_drop P from xs h)
