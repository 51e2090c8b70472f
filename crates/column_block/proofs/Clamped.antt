-- Ranges of the rows that are there.
use Rattle.std.proofs.Common.{◌≡◌, ℕ, ◌-◌, List, [], ◌∷◌, length, take, drop, sym, ◌∙◌, ap, arith, inl, inr}
use Rattle.std.specs.Prelude.{min, slice_range}
use Rattle.std.proofs.lemmas.Bool.{cases_lt}
use Rattle.std.proofs.lemmas.List.{take_all, drop_all, length-drop}
use Rattle.column_block.specs.declared.kinds.Values.{Values}
use Rattle.column_block.specs.declared.kinds.Values.TheVariants.{Whole, Parts, Wholes, Words}
use Rattle.column_block.specs.Ranges.{rows_between}
use Rattle.column_block.specs.Rules.{rows_of}

none-taken : {A : Type 0} (xs : List A) (n k : ℕ) → n ≡ 0 → take n (drop k xs) ≡ []
none-taken xs n k e = ap (λ z. take z (drop k xs)) e

take-none : {A : Type 0} (n : ℕ) (xs : List A) → xs ≡ [] → take n xs ≡ []
take-none n [] e = take_all n [] (omega arith)
take-none n (x ∷ xs) e = cc

pub clamp-slice : {A : Type 0} (xs : List A) (from to f t : ℕ) → f ≡ min from (min to (length xs)) → t ≡ min to (length xs) → slice_range xs f t ≡ slice_range xs from to
clamp-slice xs from to f t ef et = elim (cases_lt t from) [
  | inl past ↦
      (let a : t - f ≡ 0 = omega arith in
      none-taken xs (t - f) f a ∙ sym (elim (cases_lt (length xs) to) [
        | inl long ↦ take-none (to - from) (drop from xs) (drop_all from xs (omega arith))
        | inr short ↦ none-taken xs (to - from) from (omega arith)
      ]))
  | inr inside ↦
      (let b : f ≡ from = omega arith in
      ap (λ z. take (t - z) (drop z xs)) b ∙ (elim (cases_lt (length xs) to) [
        | inl long ↦ take_all (t - from) (drop from xs) (omega (arith, length-drop from xs)) ∙ sym (take_all (to - from) (drop from xs) (omega (arith, length-drop from xs)))
        | inr short ↦ (let c : t - from ≡ to - from = omega arith in ap (λ z. take z (drop from xs)) c)
      ]))
]

-- rows past the last aren't there
pub clamp-rows : (v : Values) (from to f t : ℕ) → f ≡ min from (min to (rows_of v)) → t ≡ min to (rows_of v) → rows_between f t v ≡ rows_between from to v
clamp-rows (Whole vs) from to f t ef et = ap Whole (clamp-slice vs from to f t ef et)
clamp-rows (Parts ps) from to f t ef et = ap Parts (clamp-slice ps from to f t ef et)
clamp-rows (Wholes lists) from to f t ef et = ap Wholes (clamp-slice lists from to f t ef et)
clamp-rows (Words lists) from to f t ef et = ap Words (clamp-slice lists from to f t ef et)

-- the same of what a column holds, with the number of rows that a call said
pub same-between : (v w : Values) (from to f t len : ℕ) → v ≡ w → len ≡ rows_of v → f ≡ min from (min to len) → t ≡ min to len → rows_between f t v ≡ rows_between from to w
same-between v w from to f t len e l ef et =
    clamp-rows v from to f t (ef ∙ ap (λ z. min from (min to z)) l) (et ∙ ap (min to) l) ∙ ap (rows_between from to) e
