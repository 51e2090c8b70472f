-- A list in order with one more behind it.
use Rattle.std.specs.Prelude.{◌≡◌, ℕ, zero, suc, ◌≤◌, ◌<◌, Bool, true, false, List, [], ◌∷◌, ◌++◌, length, take, Some, if◌then◌else◌}
use Rattle.std.specs.Cmp.{IsTotalOrder, tied_itself}
use Rattle.std.specs.List.{slice_get}
use Rattle.std.specs.Ordering.{is_le}
use Rattle.std.specs.declared.cmp.Ordering.{Ordering}
use Rattle.std.proofs.Common.{refl, ap, ◌∙◌, sym, subst, arith}
use Rattle.row_cells.specs.Each.{Each}
use Rattle.row_cells.specs.EachLaws.{Each-weaker}
use Rattle.row_cells.specs.Sorted.{put, sorted}
use Rattle.row_cells.specs.SortedLaws.{Ascend, UpTo, sorted_ascends, take_ascends, upto_chain, upto_other}

pub take_twice : {X : Type 0} (n : ℕ) (xs : List X) → take n (take n xs) ≡ take n xs
take_twice zero xs = refl
take_twice (suc n) [] = refl
take_twice (suc n) (x ∷ xs) = ap (λ ys. x ∷ ys) (take_twice n xs)

take_cons : {X : Type 0} (n : ℕ) (x : X) (xs : List X) → take n (x ∷ xs) ≡ take n (x ∷ take n xs)
take_cons zero x xs = refl
take_cons {X = X} (suc n) x xs = ap (λ ys. x ∷ ys) (take_less n xs)
  where
    take_less : (m : ℕ) (zs : List X) → take m zs ≡ take m (take (suc m) zs)
    take_less zero zs = refl
    take_less (suc m) [] = refl
    take_less (suc m) (z ∷ zs) = ap (λ ws. z ∷ ws) (take_less m zs)

pub take_front : {X : Type 0} (n : ℕ) (xs ys : List X) → n ≤ length xs → take n (xs ++ ys) ≡ take n xs
take_front zero xs ys le = refl
take_front (suc n) [] ys le = absurd (omega (arith, le))
take_front (suc n) (x ∷ xs) ys le = ap (λ zs. x ∷ zs) (take_front n xs ys (omega (arith, le)))

pub get_front : {X : Type 0} (xs ys : List X) (k : ℕ) → k < length xs → slice_get (xs ++ ys) k ≡ slice_get xs k
get_front [] ys k lt = absurd (omega (arith, lt))
get_front (x ∷ xs) ys zero lt = refl
get_front (x ∷ xs) ys (suc k) lt = get_front xs ys k (omega (arith, lt))

pub length_take : {X : Type 0} (n : ℕ) (xs : List X) → n ≤ length xs → n ≤ length (take n xs)
length_take zero xs le = omega arith
length_take (suc n) [] le = absurd (omega (arith, le))
length_take (suc n) (x ∷ xs) le = let later = length_take n xs (omega (arith, le)) in omega (arith, later)

each_get : {X : Type 0} (P : X → Type 0) (xs : List X) (k : ℕ) (x : X) → Each P xs → slice_get xs k ≡ Some x → P x
each_get P [] k x each is = cc
each_get {X = X} P (y ∷ ys) zero x each is = subst P (same is) each.0
  where
    same : {v u : X} → Some v ≡ Some u → v ≡ u
    same e = cc
each_get P (y ∷ ys) (suc k) x each is = each_get P ys k x each.1 is

module _ {A : Type 0} (cmp : A → A → Ordering) (total : IsTotalOrder cmp) where
  -- an element put behind all that aren't behind it
  abbrev put_last : A → List A → List A
  put_last x [] = x ∷ []
  put_last x (y ∷ ys) = if is_le (cmp y x) then y ∷ put_last x ys else x ∷ y ∷ ys

  last_late : (x y : A) (ys : List A) → is_le (cmp y x) ≡ true → put_last x (y ∷ ys) ≡ y ∷ put_last x ys
  last_late x y ys is = rw is refl

  last_first : (x y : A) (ys : List A) → is_le (cmp y x) ≡ false → put_last x (y ∷ ys) ≡ x ∷ y ∷ ys
  last_first x y ys is = rw is refl

  put_late : (x y : A) (ys : List A) → is_le (cmp x y) ≡ false → put cmp x (y ∷ ys) ≡ y ∷ put cmp x ys
  put_late x y ys is = rw is refl

  put_first : (x y : A) (ys : List A) → is_le (cmp x y) ≡ true → put cmp x (y ∷ ys) ≡ x ∷ y ∷ ys
  put_first x y ys is = rw is refl

  still_behind : (x y z : A) → is_le (cmp y z) ≡ false → is_le (cmp z x) ≡ false → is_le (cmp y x) ≡ false
  still_behind x y z first second = by_test (is_le (cmp y x)) refl
    where
      apart : false ≡ true → ⊥
      apart e = cc

      by_test : (b : Bool) → is_le (cmp y x) ≡ b → is_le (cmp y x) ≡ false
      by_test false is = is
      by_test true is = absurd (apart (sym first ∙ upto_chain cmp total y x z is (upto_other cmp total z x second)))

  moved : (x y : A) (zs : List A) → put cmp y (put_last x zs) ≡ put_last x (put cmp y zs)
  moved x y [] = refl
  moved x y (z ∷ zs) = by_both (is_le (cmp y z)) (is_le (cmp z x)) refl refl (moved x y zs)
    where
      front : (b : Bool) → is_le (cmp y x) ≡ b → is_le (cmp y z) ≡ true → is_le (cmp z x) ≡ false → put cmp y (x ∷ z ∷ zs) ≡ put_last x (y ∷ z ∷ zs)
      front true is yz zx = put_first y x (z ∷ zs) is ∙ (ap (λ ws. y ∷ ws) (sym (last_first x z zs zx)) ∙ sym (last_late x y (z ∷ zs) is))
      front false is yz zx = put_late y x (z ∷ zs) is ∙ (ap (λ ws. x ∷ ws) (put_first y z zs yz) ∙ sym (last_first x y (z ∷ zs) is))

      by_both : (a b : Bool) → is_le (cmp y z) ≡ a → is_le (cmp z x) ≡ b → put cmp y (put_last x zs) ≡ put_last x (put cmp y zs) →
          put cmp y (put_last x (z ∷ zs)) ≡ put_last x (put cmp y (z ∷ zs))
      by_both true true yz zx later =
          ap (put cmp y) (last_late x z zs zx)
          ∙ (put_first y z (put_last x zs) yz
          ∙ (ap (λ ws. y ∷ ws) (sym (last_late x z zs zx))
          ∙ (sym (last_late x y (z ∷ zs) (upto_chain cmp total y z x yz zx)) ∙ sym (ap (put_last x) (put_first y z zs yz)))))
      by_both true false yz zx later = ap (put cmp y) (last_first x z zs zx) ∙ (front (is_le (cmp y x)) refl yz zx ∙ sym (ap (put_last x) (put_first y z zs yz)))
      by_both false true yz zx later =
          ap (put cmp y) (last_late x z zs zx)
          ∙ (put_late y z (put_last x zs) yz
          ∙ (ap (λ ws. z ∷ ws) later ∙ (sym (last_late x z (put cmp y zs) zx) ∙ sym (ap (put_last x) (put_late y z zs yz)))))
      by_both false false yz zx later =
          ap (put cmp y) (last_first x z zs zx)
          ∙ (put_late y x (z ∷ zs) (still_behind x y z yz zx)
          ∙ (ap (λ ws. x ∷ ws) (put_late y z zs yz) ∙ (sym (last_first x z (put cmp y zs) zx) ∙ sym (ap (put_last x) (put_late y z zs yz)))))

  sorted_last : (x : A) (xs : List A) → sorted cmp (xs ++ x ∷ []) ≡ put_last x (sorted cmp xs)
  sorted_last x [] = refl
  sorted_last x (y ∷ ys) = ap (put cmp y) (sorted_last x ys) ∙ moved x y (sorted cmp ys)

  take_last : (n : ℕ) (x : A) (ys : List A) → take n (put_last x ys) ≡ take n (put_last x (take n ys))
  take_last zero x ys = refl
  take_last (suc n) x [] = refl
  take_last (suc n) x (y ∷ ys) = by_test (is_le (cmp y x)) (take_last n x ys)
    where
      by_test : (b : Bool) → take n (put_last x ys) ≡ take n (put_last x (take n ys)) → take (suc n) (if b then y ∷ put_last x ys else x ∷ y ∷ ys) ≡ take (suc n) (if b then y ∷ put_last x (take n ys) else x ∷ y ∷ take n ys)
      by_test true later = ap (λ zs. y ∷ zs) later
      by_test false later = ap (λ zs. x ∷ zs) (take_cons n y ys)

  -- where the first ones are the same, they are with one more
  pub same_with : (n : ℕ) (x : A) (xs ys : List A) → take n (sorted cmp xs) ≡ take n (sorted cmp ys) → take n (sorted cmp (xs ++ x ∷ [])) ≡ take n (sorted cmp (ys ++ x ∷ []))
  same_with n x xs ys same =
      ap (take n) (sorted_last x xs)
      ∙ (take_last n x (sorted cmp xs)
      ∙ (ap (λ zs. take n (put_last x zs)) same
      ∙ (sym (take_last n x (sorted cmp ys)) ∙ sym (ap (take n) (sorted_last x ys)))))

  -- what ascends is in order
  sorted_stays : (xs : List A) → Ascend cmp total xs → sorted cmp xs ≡ xs
  sorted_stays [] up = refl
  sorted_stays (x ∷ []) up = refl
  sorted_stays (x ∷ y ∷ ys) up = ap (put cmp x) (sorted_stays (y ∷ ys) up.1) ∙ put_first x y ys up.0.0

  pub first_of_first : (n : ℕ) (xs : List A) → take n (sorted cmp (take n (sorted cmp xs))) ≡ take n (sorted cmp xs)
  first_of_first n xs =
      ap (take n) (sorted_stays (take n (sorted cmp xs)) (take_ascends cmp total n (sorted cmp xs) (sorted_ascends cmp total xs))) ∙ take_twice n (sorted cmp xs)

  put_length : (x : A) (ys : List A) → length (put cmp x ys) ≡ suc (length ys)
  put_length x [] = refl
  put_length x (y ∷ ys) = by_test (is_le (cmp x y)) (put_length x ys)
    where
      by_test : (b : Bool) → length (put cmp x ys) ≡ suc (length ys) → length (if b then x ∷ y ∷ ys else y ∷ put cmp x ys) ≡ suc (suc (length ys))
      by_test true later = refl
      by_test false later = ap suc later

  pub sorted_length : (xs : List A) → length (sorted cmp xs) ≡ length xs
  sorted_length [] = refl
  sorted_length (x ∷ xs) = put_length x (sorted cmp xs) ∙ ap suc (sorted_length xs)

  -- ---- where so many aren't behind an element, the first ones aren't

  abbrev FirstUpTo : A → ℕ → List A → Type 0
  FirstUpTo x n ys = Each (λ y. UpTo cmp total y x) (take n ys)

  put_upto : (x : A) (n : ℕ) (f : A) (ys : List A) → UpTo cmp total f x → FirstUpTo x n ys → FirstUpTo x (suc n) (put cmp f ys)
  put_upto x zero f [] le all = (le, tt)
  put_upto x (suc n) f [] le all = (le, tt)
  put_upto x zero f (y ∷ ys) le all = by_test (is_le (cmp f y)) refl
    where
      by_test : (b : Bool) → is_le (cmp f y) ≡ b → FirstUpTo x 1 (if b then f ∷ y ∷ ys else y ∷ put cmp f ys)
      by_test true is = (le, tt)
      by_test false is = (upto_chain cmp total y f x (upto_other cmp total f y is) le, tt)
  put_upto x (suc n) f (y ∷ ys) le all = by_test (is_le (cmp f y)) (put_upto x n f ys le all.1)
    where
      by_test : (b : Bool) → FirstUpTo x (suc n) (put cmp f ys) → FirstUpTo x (suc (suc n)) (if b then f ∷ y ∷ ys else y ∷ put cmp f ys)
      by_test true later = (le, all)
      by_test false later = (all.0, later)

  sorted_upto : (x : A) (n : ℕ) (xs : List A) → n ≤ length xs → FirstUpTo x n xs → FirstUpTo x n (sorted cmp xs)
  sorted_upto x zero xs le all = tt
  sorted_upto x (suc n) [] le all = absurd (omega (arith, le))
  sorted_upto x (suc n) (y ∷ ys) le all = put_upto x n y (sorted cmp ys) all.0 (sorted_upto x n ys (omega (arith, le)) all.1)

  last_past : (x : A) (n : ℕ) (ys : List A) → n ≤ length ys → FirstUpTo x n ys → take n (put_last x ys) ≡ take n ys
  last_past x zero ys le all = refl
  last_past x (suc n) [] le all = absurd (omega (arith, le))
  last_past x (suc n) (y ∷ ys) le all =
      ap (take (suc n)) (last_late x y ys all.0) ∙ ap (λ zs. y ∷ zs) (last_past x n ys (omega (arith, le)) all.1)

  pub same_past : (n : ℕ) (x mark : A) (xs : List A) → n ≤ length xs → FirstUpTo mark n xs → UpTo cmp total mark x → take n (sorted cmp (xs ++ x ∷ [])) ≡ take n (sorted cmp xs)
  same_past n x mark xs le all up =
      let upto : FirstUpTo x n xs = Each-weaker (λ y. UpTo cmp total y mark) (λ y. UpTo cmp total y x) (λ y is. upto_chain cmp total y mark x is up) (take n xs) all in
      ap (take n) (sorted_last x xs) ∙ last_past x n (sorted cmp xs) (subst (λ k. n ≤ k) (sym (sorted_length xs)) le) (sorted_upto x n xs le upto)

  -- the last of the first ones is a mark
  pub last_marks : (k : ℕ) (mark : A) (xs : List A) → Ascend cmp total xs → slice_get xs k ≡ Some mark → FirstUpTo mark (suc k) xs
  last_marks k mark [] up is = cc
  last_marks zero mark (x ∷ xs) up is = (subst (λ y. UpTo cmp total y mark) (sym (same is)) (ap is_le (tied_itself total mark)), tt)
    where
      same : {v u : A} → Some v ≡ Some u → v ≡ u
      same e = cc
  last_marks (suc k) mark (x ∷ xs) up is = (each_get (UpTo cmp total x) xs k mark up.0 is, last_marks k mark xs up.1 is)
