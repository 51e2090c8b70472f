-- A value looked for among ascending ones, by halves.
use Rattle.std.specs.Prelude.{◌≡◌, ℕ, zero, suc, Bool, true, false, ◌||◌, List, [], ◌∷◌, ◌++◌, take, drop}
use Rattle.std.specs.Ordering.{is_eq, is_le, ordering_reverse}
use Rattle.std.specs.declared.cmp.Ordering.{Ordering}
use Rattle.std.specs.declared.cmp.Ordering.TheVariants.{Less, Equal, Greater}
use Rattle.std.proofs.Common.{refl, ap, ◌∙◌, sym, subst}
use Rattle.row_cells.specs.declared.scalars.Scalar.{Scalar}
use Rattle.row_cells.specs.Each.{Each}
use Rattle.row_cells.specs.EachLaws.{Each-weaker}
use Rattle.row_cells.specs.SortedLaws.{UpTo}
use Rattle.search_filter.specs.Matching.{is_one_of}
use Rattle.search_filter.specs.StableLaws.{less_upto}
use Rattle.search_filter.specs.ValueLaws.{AreInOrder, value_cmp_total}
use Rattle.search_filter.specs.Values.{value_cmp}

abbrev Up : Scalar → Scalar → Type 0
Up = UpTo value_cmp value_cmp_total

abbrev test : Scalar → Scalar → Bool
test v w = is_eq (value_cmp v w)

none_of : (v : Scalar) (ws : List Scalar) → Each (λ w. test v w ≡ false) ws → is_one_of ws v ≡ false
none_of v [] each = refl
none_of v (w ∷ ws) each = rw each.0 (none_of v ws each.1)

any_front : (v : Scalar) (xs ys : List Scalar) → is_one_of ys v ≡ false → is_one_of (xs ++ ys) v ≡ is_one_of xs v
any_front v [] ys is = is
any_front v (x ∷ xs) ys is = ap (λ b. test v x || b) (any_front v xs ys is)

any_back : (v : Scalar) (xs ys : List Scalar) → Each (λ w. test v w ≡ false) xs → is_one_of (xs ++ ys) v ≡ is_one_of ys v
any_back v [] ys each = refl
any_back v (x ∷ xs) ys each = rw each.0 (any_back v xs ys each.1)

-- ---- what ascends

pub ascend_front : (xs ys : List Scalar) → AreInOrder (xs ++ ys) → AreInOrder xs
ascend_front [] ys up = tt
ascend_front (x ∷ xs) ys up = (each_front xs ys up.0, ascend_front xs ys up.1)
  where
    each_front : (xs ys : List Scalar) → Each (Up x) (xs ++ ys) → Each (Up x) xs
    each_front [] ys each = tt
    each_front (z ∷ zs) ys each = (each.0, each_front zs ys each.1)

pub ascend_back : (xs ys : List Scalar) → AreInOrder (xs ++ ys) → AreInOrder ys
ascend_back [] ys up = up
ascend_back (x ∷ xs) ys up = ascend_back xs ys up.1

-- what stands in front of one isn't behind it
front_upto : (xs : List Scalar) (m : Scalar) (ys : List Scalar) → AreInOrder (xs ++ m ∷ ys) → Each (λ x. Up x m) xs
front_upto [] m ys up = tt
front_upto (x ∷ xs) m ys up = (here xs up.0, front_upto xs m ys up.1)
  where
    here : (zs : List Scalar) → Each (Up x) (zs ++ m ∷ ys) → Up x m
    here [] each = each.0
    here (z ∷ zs) each = here zs each.1

upto_less : (w m v : Scalar) → Up w m → value_cmp v m ≡ Greater → test v w ≡ false
upto_less w m v up greater = by_order (value_cmp w m) refl up
  where
    less : value_cmp m v ≡ Less
    less = value_cmp_total.antisymm m v ∙ ap ordering_reverse greater

    turned : value_cmp w v ≡ Less → test v w ≡ false
    turned is = ap is_eq (value_cmp_total.antisymm v w ∙ ap ordering_reverse is)

    by_order : (o : Ordering) → value_cmp w m ≡ o → is_le o ≡ true → test v w ≡ false
    by_order Less is le = turned (value_cmp_total.trans w m v is less)
    by_order Equal is le = turned (value_cmp_total.congr w m v is ∙ less)
    by_order Greater is le = cc

-- ---- the middle one tells in which half to look

pub in_front : (v : Scalar) (xs : List Scalar) (m : Scalar) (ys : List Scalar) → AreInOrder (xs ++ m ∷ ys) → value_cmp v m ≡ Less → is_one_of xs v ≡ is_one_of (xs ++ m ∷ ys) v
in_front v xs m ys up less =
    let behind : Each (Up m) ys = (ascend_back xs (m ∷ ys) up).0 in
    sym (any_front v xs (m ∷ ys) (none_of v (m ∷ ys)
    (ap is_eq less, Each-weaker (Up m) (λ w. test v w ≡ false) (λ w le. ap is_eq (less_upto value_cmp value_cmp_total v m w less le)) ys behind)))

pub in_back : (v : Scalar) (xs : List Scalar) (m : Scalar) (ys : List Scalar) → AreInOrder (xs ++ m ∷ ys) → value_cmp v m ≡ Greater → is_one_of ys v ≡ is_one_of (xs ++ m ∷ ys) v
in_back v xs m ys up greater =
    sym (any_back v xs (m ∷ ys) (Each-weaker (λ x. Up x m) (λ w. test v w ≡ false) (λ w le. upto_less w m v le greater) xs (front_upto xs m ys up))
    ∙ ap (λ b. b || is_one_of ys v) (ap is_eq greater))

pub here : (v : Scalar) (xs : List Scalar) (m : Scalar) (ys : List Scalar) → value_cmp v m ≡ Equal → true ≡ is_one_of (xs ++ m ∷ ys) v
here v [] m ys equal = sym (ap (λ o. is_eq o || is_one_of ys v) equal)
here v (x ∷ xs) m ys equal = by_test (test v x) (here v xs m ys equal)
  where
    by_test : (b : Bool) → true ≡ is_one_of (xs ++ m ∷ ys) v → true ≡ (b || is_one_of (xs ++ m ∷ ys) v)
    by_test true later = refl
    by_test false later = later

-- ---- over the parts of a list

parts_of : (n : ℕ) (vs : List Scalar) → vs ≡ take n vs ++ drop n vs
parts_of zero vs = refl
parts_of (suc n) [] = refl
parts_of (suc n) (v ∷ vs) = ap (λ ws. v ∷ ws) (parts_of n vs)

joined : (n : ℕ) (vs front rest behind : List Scalar) (m : Scalar) → front ≡ take n vs → rest ≡ drop n vs → rest ≡ m ∷ behind → vs ≡ front ++ m ∷ behind
joined n vs front rest behind m front_is rest_is cut = parts_of n vs ∙ (ap (λ ws. ws ++ drop n vs) (sym front_is) ∙ ap (λ ws. front ++ ws) (sym rest_is ∙ cut))

pub looked_in_front : (v : Scalar) (n : ℕ) (vs front rest behind : List Scalar) (m : Scalar) (found : Bool) → front ≡ take n vs → rest ≡ drop n vs → rest ≡ m ∷ behind →
    value_cmp v m ≡ Less → (AreInOrder front → found ≡ is_one_of front v) → AreInOrder vs → found ≡ is_one_of vs v
looked_in_front v n vs front rest behind m found front_is rest_is cut less told up =
    let is = joined n vs front rest behind m front_is rest_is cut in
    let all : AreInOrder (front ++ m ∷ behind) = subst AreInOrder is up in
    told (ascend_front front (m ∷ behind) all) ∙ (in_front v front m behind all less ∙ ap (λ ws. is_one_of ws v) (sym is))

pub looked_behind : (v : Scalar) (n : ℕ) (vs front rest behind : List Scalar) (m : Scalar) (found : Bool) → front ≡ take n vs → rest ≡ drop n vs → rest ≡ m ∷ behind →
    value_cmp v m ≡ Greater → (AreInOrder behind → found ≡ is_one_of behind v) → AreInOrder vs → found ≡ is_one_of vs v
looked_behind v n vs front rest behind m found front_is rest_is cut greater told up =
    let is = joined n vs front rest behind m front_is rest_is cut in
    let all : AreInOrder (front ++ m ∷ behind) = subst AreInOrder is up in
    told ((ascend_back front (m ∷ behind) all).1) ∙ (in_back v front m behind all greater ∙ ap (λ ws. is_one_of ws v) (sym is))
