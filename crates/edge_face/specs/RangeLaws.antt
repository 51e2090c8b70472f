-- Ranges of a list: laws that crates above cite.
use Rattle.std.proofs.Common.{◌++◌, ◌≡◌, ◌∙◌, ℕ, ◌+◌, ◌-◌, ◌≤◌, take, drop, List, sym, ap, arith}
use Rattle.std.specs.List.{slice_range}
use Rattle.std.proofs.lemmas.List.{drop-drop}
use Rattle.std.proofs.Math.Seq.{take-add}

-- a range that goes on
pub slice_range-more : {A : Type 0} (xs : List A) (i j n : ℕ) → i ≤ j → slice_range xs i (j + n) ≡ slice_range xs i j ++ slice_range xs j (j + n)
slice_range-more xs i j n order =
    let spans : (j + n) - i ≡ (j - i) + n = omega arith in
    let rest : (j + n) - j ≡ n = omega arith in
    let from : i + (j - i) ≡ j = omega arith in
    ap (λ k. take k (drop i xs)) spans ∙ take-add (j - i) n (drop i xs) ∙ ap (λ l. slice_range xs i j ++ take n l) (drop-drop (j - i) i xs ∙ ap (λ k. drop k xs) from) ∙ ap (λ k. slice_range xs i j ++ take k (drop j xs)) (sym rest)
