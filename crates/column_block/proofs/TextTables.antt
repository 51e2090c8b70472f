-- Tables of texts: each text once, ascending.
use Rattle.std.proofs.Common.{◌≡◌, ℕ, pos, suc, zero, ◌<◌, ◌≤◌, ◌^◌, List, [], ◌∷◌, ◌++◌, length, get_or, drop, refl, sym, ◌∙◌, ap, subst, arith, inl, inr}
use Rattle.std.specs.Int.{w64, to_be_bytes, from_be_bytes}
use Rattle.std.specs.List.{flat_map}
use Rattle.std.proofs.lemmas.List.{append_assoc}
use Rattle.std.proofs.lemmas.Nat.{from_be_bytes-to_be_bytes_8}
use Rattle.row_cells.specs.Each.{Each}
use Rattle.row_cells.specs.Dimensions.{IsBefore}
use Rattle.row_cells.specs.JoinLaws.{before_chain, not_before_itself}
use Rattle.row_cells.specs.Limits.{longest_word}
use Rattle.column_block.specs.Rules.{IsText, TextsAscend, TextsAscendAfter}
use Rattle.row_cells.specs.Dimensions.{text_bytes}
use Rattle.column_block.specs.Spelling.{IsIn, ordinal, ordinals}
use Rattle.column_block.proofs.Tabling.{after-in, ascend-tail, stands}

-- ---- items of lists

-- a list without one of its items has all that are others
without : {A : Type 0} (x : A) (ys : List A) → IsIn x ys → (zs : List A) × (length ys ≡ suc (length zs)) × ((u : A) → IsIn u ys → (u ≡ x → ⊥) → IsIn u zs)
without x [] h = absurd h
without x (y ∷ ys) h = elim h [
  | inl e ↦ (ys, refl, λ u i other. elim i [ inl a ↦ absurd (other (a ∙ sym e)) | inr r ↦ r ])
  | inr r ↦ (let (zs, n, f) = without x ys r in (y ∷ zs, ap suc n, λ u i other. elim i [ inl a ↦ inl a | inr b ↦ inr (f u b other) ]))
]

-- ---- order

-- the first of two tables with the same texts
same-first : (t u : List ℕ) (ts us : List (List ℕ)) → TextsAscendAfter t ts → TextsAscendAfter u us → IsIn t (u ∷ us) → IsIn u (t ∷ ts) → t ≡ u
same-first t u ts us h k i j = elim i [
  | inl e ↦ e
  | inr a ↦ elim j [ inl e ↦ sym e | inr b ↦ absurd (not_before_itself t (before_chain t u t (after-in t u ts h b) (after-in u t us k a))) ]
]

-- what comes behind the first is behind the other's first
behind-first : (t u x : List ℕ) (ts us : List (List ℕ)) → t ≡ u → TextsAscendAfter t ts → IsIn x ts → IsIn x (u ∷ us) → IsIn x us
behind-first t u x ts us e h i j = elim j [
  | inl f ↦ absurd (not_before_itself t (subst (λ z. IsBefore t z) (f ∙ sym e) (after-in t x ts h i)))
  | inr r ↦ r
]

-- tables with the same texts are equal
pub same-table : (ts us : List (List ℕ)) → TextsAscend ts → TextsAscend us → ((t : List ℕ) → IsIn t ts → IsIn t us) → ((t : List ℕ) → IsIn t us → IsIn t ts) → ts ≡ us
same-table [] [] h k f g = refl
same-table [] (u ∷ us) h k f g = absurd (g u (inl refl))
same-table (t ∷ ts) [] h k f g = absurd (f t (inl refl))
same-table (t ∷ ts) (u ∷ us) h k f g =
    let e : t ≡ u = same-first t u ts us h k (f t (inl refl)) (g u (inl refl)) in
    let r : ts ≡ us = same-table ts us (ascend-tail t ts h) (ascend-tail u us k)
    (λ x i. behind-first t u x ts us e h i (f x (inr i))) (λ x i. behind-first u t x us ts (sym e) k i (g x (inr i))) in
    ap (λ z. z ∷ ts) e ∙ ap (λ z. u ∷ z) r

-- a table is no longer than a list that has all its texts
pub no-longer : (ts ys : List (List ℕ)) → TextsAscend ts → ((t : List ℕ) → IsIn t ts → IsIn t ys) → length ts ≤ length ys
no-longer [] ys h f = omega arith
no-longer (t ∷ ts) ys h f =
    let (zs, n, g) = without t ys (f t (inl refl)) in
    omega (arith, n, no-longer ts zs (ascend-tail t ts h) (λ u i. g u (f u (inr i)) (λ e. not_before_itself t (subst (λ z. IsBefore t z) e (after-in t u ts h i)))))

-- ---- ordinals

-- ordinals tell the texts
pub same-ordinals : (ts xs ys : List (List ℕ)) → Each (λ t. IsIn t ts) xs → Each (λ t. IsIn t ts) ys → ordinals ts xs ≡ ordinals ts ys → xs ≡ ys
same-ordinals ts [] [] h k e = refl
same-ordinals ts [] (y ∷ ys) h k e = cc
same-ordinals ts (x ∷ xs) [] h k e = cc
same-ordinals ts (x ∷ xs) (y ∷ ys) h k e =
    let o : pos (ordinal ts x) ≡ pos (ordinal ts y) = cc in
    let r : ordinals ts xs ≡ ordinals ts ys = cc in
    let n : ordinal ts x ≡ ordinal ts y = cc in
    let first : x ≡ y = sym (stands ts x h.0).is ∙ ap (λ z. get_or ts z []) n ∙ (stands ts y k.0).is in
    ap (λ z. z ∷ xs) first ∙ ap (λ z. y ∷ z) (same-ordinals ts xs ys h.1 k.1 r)

-- ---- bytes

-- the first byte of a text's length is below 128
text-first : (t rest : List ℕ) → length t ≤ longest_word → get_or (text_bytes t ++ rest) 0 0 < 128
text-first t rest short = omega (arith, short)

-- texts stand where there are more of them
pub more-first : (us : List (List ℕ)) (n : ℕ) (y : List ℕ) → n < length us → Each IsText us → get_or (flat_map text_bytes (drop n us) ++ y) 0 0 < 128
more-first [] n y h k = absurd (omega (arith, h))
more-first (u ∷ us) zero y h k =
    let e = append_assoc (text_bytes u) (flat_map text_bytes us) y in
    subst (λ z. get_or z 0 0 < 128) (sym e) (text-first u (flat_map text_bytes us ++ y) k.0.short)
more-first (u ∷ us) (suc n) y h k = more-first us n y (omega (arith, h)) k.1

pub same-eight : (n m : ℕ) → n < 2 ^ 64 → m < 2 ^ 64 → to_be_bytes w64 n ≡ to_be_bytes w64 m → n ≡ m
same-eight n m h k e = sym (from_be_bytes-to_be_bytes_8 n h) ∙ ap (from_be_bytes w64) e ∙ from_be_bytes-to_be_bytes_8 m k
