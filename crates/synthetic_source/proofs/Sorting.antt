-- A sorted permutation of a list is the list that is made by putting in one element after another.
use Rattle.std.proofs.Common.{◌≡◌, ℤ, ℕ, suc, ◌+◌, List, [], ◌∷◌, map, get_or, Bool, true, false, refl, sym, ap, ap₂, ◌∙◌, subst, arith}
use Rattle.std.specs.Prelude.{IsPermutation, IsSorted}
use Rattle.std.specs.List.{sum_by}
use Rattle.std.specs.BTreeSet.{insert_key}
use Rattle.std.specs.Cmp.{IsTotalOrder, tied_itself, int_cmp_total, bool_cmp_total, int_ranked}
use Rattle.std.specs.Cmp.Lexicographic.{slice_cmp}
use Rattle.std.specs.Ordering.{is_lt, match_ordering, ordering_reverse, int_cmp, bool_cmp, nat_cmp}
use Rattle.std.specs.declared.cmp.Ordering.{Ordering}
use Rattle.std.specs.declared.cmp.Ordering.TheVariants.{Less, Equal, Greater}
use Rattle.std.proofs.lemmas.List.Sums.{sum_by-cons}
use Rattle.std.proofs.lemmas.List.Sorted.{sum_by-IsPermutation}
use Rattle.row_cells.specs.declared.scalars.Scalar.TheVariants.{Whole, Flag, Word}
use Rattle.synthetic_source.specs.Sorts.{keys_after, put_sorted, sorted_after}
use Rattle.synthetic_source.specs.Values.{ordered, ordered_after, with_value}

abbrev one_if : Ordering → ℕ
one_if Less = 0
one_if Equal = 1
one_if Greater = 0

module _ {K : Type 0} (cmp : K → K → Ordering) (total : IsTotalOrder cmp) (exact : (x y : K) → cmp x y ≡ Equal → x ≡ y) where
  abbrev AtLeast : K → List K → Type 0
  AtLeast x [] = Unit {0}
  AtLeast x (y ∷ ys) = (is_lt (cmp y x) ≡ false) × AtLeast x ys

  abbrev Ascend : List K → Type 0
  Ascend [] = Unit {0}
  Ascend (x ∷ xs) = AtLeast x xs × Ascend xs

  abbrev count : K → List K → ℕ
  count k [] = 0
  count k (x ∷ xs) = one_if (cmp k x) + count k xs

  count_sum : (k : K) (xs : List K) → count k xs ≡ sum_by (λ x. one_if (cmp k x)) xs
  count_sum k [] = refl
  count_sum k (x ∷ xs) = ap (λ n. one_if (cmp k x) + n) (count_sum k xs) ∙ sym (sum_by-cons (λ x. one_if (cmp k x)) x xs)

  not_less : (x y : K) → cmp y x ≡ Less → is_lt (cmp y x) ≡ false → ⊥
  not_less x y less least = let bad : true ≡ false = sym (ap is_lt less) ∙ least in cc

  -- what is less than the first of an ascending list isn't in it
  count_none : (k y : K) (ys : List K) → cmp k y ≡ Less → AtLeast y ys → count k ys ≡ 0
  count_none k y [] less least = refl
  count_none k y (z ∷ zs) less least = go (cmp k z) refl (count_none k y zs less least.1)
    where
      go : (o : Ordering) → cmp k z ≡ o → count k zs ≡ 0 → one_if o + count k zs ≡ 0
      go Less is rest = omega arith
      go Equal is rest = absurd (not_less y z (subst (λ x. cmp x y ≡ Less) (exact k z is) less) least.0)
      go Greater is rest = omega arith

  same_count : (x : K) → one_if (cmp x x) ≡ 1
  same_count x = ap one_if (tied_itself total x)

  -- ascending lists with equal counts are equal
  pub counted : (xs ys : List K) → Ascend xs → Ascend ys → ((k : K) → count k xs ≡ count k ys) → xs ≡ ys
  counted [] [] up_x up_y same = refl
  counted [] (y ∷ ys) up_x up_y same = absurd (omega (arith, same y, same_count y))
  counted (x ∷ xs) [] up_x up_y same = absurd (omega (arith, same x, same_count x))
  counted (x ∷ xs) (y ∷ ys) up_x up_y same = go (cmp x y) refl (counted xs ys up_x.1 up_y.1)
    where
      go : (o : Ordering) → cmp x y ≡ o → (((k : K) → count k xs ≡ count k ys) → xs ≡ ys) → x ∷ xs ≡ y ∷ ys
      go Less is rest =
          let none = count_none x y ys is up_y.0 in
          absurd (omega (arith, same x, same_count x, ap one_if is, none))
      go Equal is rest =
          let e = exact x y is in
          ap₂ (λ z zs. z ∷ zs) e (rest (λ k. let at = same k in let one = ap (λ z. one_if (cmp k z)) e in omega (arith, at, one)))
      go Greater is rest =
          let less : cmp y x ≡ Less = total.antisymm y x ∙ ap ordering_reverse is in
          let none = count_none y x xs less up_x.0 in
          absurd (omega (arith, same y, same_count y, ap one_if less, none))

  -- what a sort ensures, by recursion
  least_chain : (x y : K) (zs : List K) → is_lt (cmp y x) ≡ false → AtLeast y zs → AtLeast x zs
  least_chain x y [] le least = tt
  least_chain x y (z ∷ zs) le least = (go (cmp z x) refl, least_chain x y zs le least.1)
    where
      go : (o : Ordering) → cmp z x ≡ o → is_lt o ≡ false
      go Less is = absurd (by (cmp x y) refl)
        where
          by : (p : Ordering) → cmp x y ≡ p → ⊥
          by Less less = not_less y z (total.trans z x y is less) least.0
          by Equal same = not_less y z (subst (λ w. cmp z w ≡ Less) (exact x y same) is) least.0
          by Greater greater = not_less x y (total.antisymm y x ∙ ap ordering_reverse greater) le
      go Equal is = refl
      go Greater is = refl

  pub from_sorted : (xs : List K) → IsSorted cmp xs → Ascend xs
  from_sorted [] up = tt
  from_sorted (x ∷ []) up = (tt, tt)
  from_sorted (x ∷ y ∷ ys) up =
      let rest : Ascend (y ∷ ys) = from_sorted (y ∷ ys) (λ k d low high. let on : suc k + 1 ≡ suc (k + 1) = omega arith in subst (λ n. is_lt (cmp (get_or (x ∷ y ∷ ys) n d) (get_or (y ∷ ys) k d)) ≡ false) on (up (suc k) d (omega arith) (omega arith))) in
      let first : is_lt (cmp y x) ≡ false = up 0 x (omega arith) (omega arith) in
      ((first, least_chain x y ys first rest.0), rest)

  least_put : (w k : K) (xs : List K) → is_lt (cmp k w) ≡ false → AtLeast w xs → AtLeast w (put_sorted cmp k xs)
  least_put w k [] le least = (le, tt)
  least_put w k (x ∷ xs) le least = go (cmp k x) (least_put w k xs le least.1)
    where
      go : (o : Ordering) → AtLeast w (put_sorted cmp k xs) → AtLeast w (match_ordering o (k ∷ x ∷ xs) (k ∷ x ∷ xs) (x ∷ put_sorted cmp k xs))
      go Less later = (le, least)
      go Equal later = (le, least)
      go Greater later = (least.0, later)

  put_ascends : (k : K) (xs : List K) → Ascend xs → Ascend (put_sorted cmp k xs)
  put_ascends k [] up = (tt, tt)
  put_ascends k (x ∷ xs) up = go (cmp k x) refl (put_ascends k xs up.1)
    where
      less_way : (is : cmp k x ≡ Less) → is_lt (cmp x k) ≡ false
      less_way is = ap is_lt (total.antisymm x k ∙ ap ordering_reverse is)

      go : (o : Ordering) → cmp k x ≡ o → Ascend (put_sorted cmp k xs) → Ascend (match_ordering o (k ∷ x ∷ xs) (k ∷ x ∷ xs) (x ∷ put_sorted cmp k xs))
      go Less is later = let le = less_way is in ((le, least_chain k x xs le up.0), up)
      go Equal is later =
          let le : is_lt (cmp x k) ≡ false = ap is_lt (total.antisymm x k ∙ ap ordering_reverse is) in
          ((le, least_chain k x xs le up.0), up)
      go Greater is later = (least_put x k xs (ap is_lt is) up.0, later)

  put_counts : (j k : K) (xs : List K) → count j (put_sorted cmp k xs) ≡ one_if (cmp j k) + count j xs
  put_counts j k [] = refl
  put_counts j k (x ∷ xs) = go (cmp k x) (put_counts j k xs)
    where
      go : (o : Ordering) → count j (put_sorted cmp k xs) ≡ one_if (cmp j k) + count j xs → count j (match_ordering o (k ∷ x ∷ xs) (k ∷ x ∷ xs) (x ∷ put_sorted cmp k xs)) ≡ one_if (cmp j k) + (one_if (cmp j x) + count j xs)
      go Less later = refl
      go Equal later = refl
      go Greater later = omega (arith, later)

  after_ascends : (ks xs : List K) → Ascend ks → Ascend (sorted_after cmp ks xs)
  after_ascends ks [] up = up
  after_ascends ks (x ∷ xs) up = after_ascends (put_sorted cmp x ks) xs (put_ascends x ks up)

  after_counts : (j : K) (ks xs : List K) → count j (sorted_after cmp ks xs) ≡ count j ks + count j xs
  after_counts j ks [] = omega arith
  after_counts j ks (x ∷ xs) = omega (arith, after_counts j (put_sorted cmp x ks) xs, put_counts j x ks)

  -- what a sort leaves is the list that putting in one element after another makes
  pub sorted_is : (xs ys : List K) → IsPermutation xs ys → IsSorted cmp ys → ys ≡ sorted_after cmp [] xs
  sorted_is xs ys moved up =
      counted ys (sorted_after cmp [] xs) (from_sorted ys up) (after_ascends [] xs tt)
      (λ k. count_sum k ys ∙ (sum_by-IsPermutation (λ x. one_if (cmp k x)) xs ys moved ∙ (sym (count_sum k xs) ∙ sym (after_counts k [] xs ∙ zeroth (count k xs)))))
    where
      zeroth : (n : ℕ) → 0 + n ≡ n
      zeroth n = omega arith

-- values of one sort in order
whole_order : (ks xs : List ℤ) → ordered_after (map Whole ks) (map Whole xs) ≡ map Whole (sorted_after int_cmp ks xs)
whole_order ks [] = refl
whole_order ks (x ∷ xs) = ap (λ vs. ordered_after vs (map Whole xs)) (put x ks) ∙ whole_order (put_sorted int_cmp x ks) xs
  where
    put : (x : ℤ) (ks : List ℤ) → with_value (Whole x) (map Whole ks) ≡ map Whole (put_sorted int_cmp x ks)
    put x [] = refl
    put x (k ∷ ks) = go (int_cmp x k) (put x ks)
      where
        go : (o : Ordering) → with_value (Whole x) (map Whole ks) ≡ map Whole (put_sorted int_cmp x ks)
            → match_ordering o (Whole x ∷ Whole k ∷ map Whole ks) (Whole x ∷ Whole k ∷ map Whole ks) (Whole k ∷ with_value (Whole x) (map Whole ks)) ≡ map Whole (match_ordering o (x ∷ k ∷ ks) (x ∷ k ∷ ks) (k ∷ put_sorted int_cmp x ks))
        go Less later = refl
        go Equal later = refl
        go Greater later = ap (λ vs. Whole k ∷ vs) later

flag_order : (ks xs : List Bool) → ordered_after (map Flag ks) (map Flag xs) ≡ map Flag (sorted_after bool_cmp ks xs)
flag_order ks [] = refl
flag_order ks (x ∷ xs) = ap (λ vs. ordered_after vs (map Flag xs)) (put x ks) ∙ flag_order (put_sorted bool_cmp x ks) xs
  where
    put : (x : Bool) (ks : List Bool) → with_value (Flag x) (map Flag ks) ≡ map Flag (put_sorted bool_cmp x ks)
    put x [] = refl
    put x (k ∷ ks) = go (bool_cmp x k) (put x ks)
      where
        go : (o : Ordering) → with_value (Flag x) (map Flag ks) ≡ map Flag (put_sorted bool_cmp x ks)
            → match_ordering o (Flag x ∷ Flag k ∷ map Flag ks) (Flag x ∷ Flag k ∷ map Flag ks) (Flag k ∷ with_value (Flag x) (map Flag ks)) ≡ map Flag (match_ordering o (x ∷ k ∷ ks) (x ∷ k ∷ ks) (k ∷ put_sorted bool_cmp x ks))
        go Less later = refl
        go Equal later = refl
        go Greater later = ap (λ vs. Flag k ∷ vs) later

pub text_order : (ks xs : List (List ℕ)) → ordered_after (map Word ks) (map Word xs) ≡ map Word (keys_after ks xs)
text_order ks [] = refl
text_order ks (x ∷ xs) = ap (λ vs. ordered_after vs (map Word xs)) (put x ks) ∙ text_order (insert_key (slice_cmp nat_cmp) ks x) xs
  where
    put : (x : List ℕ) (ks : List (List ℕ)) → with_value (Word x) (map Word ks) ≡ map Word (insert_key (slice_cmp nat_cmp) ks x)
    put x [] = refl
    put x (k ∷ ks) = go (slice_cmp nat_cmp x k) (put x ks)
      where
        go : (o : Ordering) → with_value (Word x) (map Word ks) ≡ map Word (insert_key (slice_cmp nat_cmp) ks x)
            → match_ordering o (Word x ∷ Word k ∷ map Word ks) (Word k ∷ map Word ks) (Word k ∷ with_value (Word x) (map Word ks)) ≡ map Word (match_ordering o (x ∷ k ∷ ks) (k ∷ ks) (k ∷ insert_key (slice_cmp nat_cmp) ks x))
        go Less later = refl
        go Equal later = refl
        go Greater later = ap (λ vs. Word k ∷ vs) later

int_exact : (x y : ℤ) → int_cmp x y ≡ Equal → x ≡ y
int_exact x y same = int_ranked x y Equal (sym same)

bool_exact : (x y : Bool) → bool_cmp x y ≡ Equal → x ≡ y
bool_exact false false same = refl
bool_exact false true same = cc
bool_exact true false same = cc
bool_exact true true same = refl

pub sorted_wholes : (xs ys : List ℤ) → IsPermutation xs ys → IsSorted int_cmp ys → map Whole ys ≡ ordered (map Whole xs)
sorted_wholes xs ys moved up = ap (map Whole) (sorted_is int_cmp int_cmp_total int_exact xs ys moved up) ∙ sym (whole_order [] xs)

pub sorted_flags : (xs ys : List Bool) → IsPermutation xs ys → IsSorted bool_cmp ys → map Flag ys ≡ ordered (map Flag xs)
sorted_flags xs ys moved up = ap (map Flag) (sorted_is bool_cmp bool_cmp_total bool_exact xs ys moved up) ∙ sym (flag_order [] xs)
