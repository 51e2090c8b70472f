-- How often names stand in lists, and whether lists stand by names.
use Rattle.std.specs.Prelude.{◌≡◌, ℕ, suc, ◌+◌, ◌≤◌, ◌||◌, Bool, not, true, false, cond, List, [], ◌∷◌, ◌++◌, map, filter, length, Some, None, if◌then◌else◌, bytes_eq}
use Rattle.std.specs.List.{list_any}
use Rattle.std.specs.Ordering.{is_le, nat_cmp, ordering_reverse}
use Rattle.std.specs.Cmp.Lexicographic.{slice_cmp, nat_list_cmp_total}
use Rattle.std.specs.declared.cmp.Ordering.{Ordering}
use Rattle.std.specs.declared.cmp.Ordering.TheVariants.{Less, Equal, Greater}
use Rattle.std.proofs.Common.{refl, ap, ◌∙◌, sym, subst, arith}
use Rattle.std.proofs.Math.Nat.{zero-add}
use Rattle.std.proofs.lemmas.Bool.{both_ways, false_from_ne_true}
use Rattle.std.proofs.lemmas.Slice.Eq.{bytes_eq-Decides}
use Rattle.std.proofs.lemmas.Map.Lookups.{exact_bytes}
use Rattle.row_cells.specs.Each.{Each}
use Rattle.row_cells.specs.EachLaws.{Each-weaker}
use Rattle.row_cells.specs.Dimensions.{IsBefore}
use Rattle.row_cells.specs.JoinLaws.{before_chain}
use Rattle.downsample_fold.specs.Laws.{KeysAscend}
use Rattle.stream_catalog.specs.Lists.{found_by, updated, inserted, without}
use Rattle.stream_catalog.specs.Sound.{times}
use Rattle.stream_catalog.proofs.NamedLemmas.{none_not_some}

pub bytes_eq-sym : (a b : List ℕ) → bytes_eq a b ≡ bytes_eq b a
bytes_eq-sym a b = by_tests (bytes_eq a b) (bytes_eq b a) refl refl
  where
    by_tests : (s t : Bool) → bytes_eq a b ≡ s → bytes_eq b a ≡ t → s ≡ t
    by_tests true true p q = refl
    by_tests false false p q = refl
    by_tests true false p q = absurd (both_ways (bytes_eq b a) q ((bytes_eq-Decides b a).1 (sym ((bytes_eq-Decides a b).0 p))))
    by_tests false true p q = absurd (both_ways (bytes_eq a b) p ((bytes_eq-Decides a b).1 (sym ((bytes_eq-Decides b a).0 q))))

pub bytes_eq-itself : (a : List ℕ) → bytes_eq a a ≡ true
bytes_eq-itself a = (bytes_eq-Decides a a).1 refl

-- ---- how often

pub times-append : (n : List ℕ) (xs ys : List (List ℕ)) → times n (xs ++ ys) ≡ times n xs + times n ys
times-append n [] ys = sym (zero-add (times n ys))
times-append n (x ∷ xs) ys = by_test (bytes_eq x n) (times-append n xs ys)
  where
    by_test : (b : Bool) → times n (xs ++ ys) ≡ times n xs + times n ys → (if b then suc (times n (xs ++ ys)) else times n (xs ++ ys)) ≡ (if b then suc (times n xs) else times n xs) + times n ys
    by_test true later = omega (arith, later)
    by_test false later = later

-- a name that no test finds
pub times-none : (n : List ℕ) (xs : List (List ℕ)) → list_any (bytes_eq n) xs ≡ false → times n xs ≡ 0
times-none n [] none = refl
times-none n (x ∷ xs) none = by_test (bytes_eq n x) refl none (times-none n xs)
  where
    by_test : (b : Bool) → bytes_eq n x ≡ b → (b || list_any (bytes_eq n) xs) ≡ false → (list_any (bytes_eq n) xs ≡ false → times n xs ≡ 0) → (if bytes_eq x n then suc (times n xs) else times n xs) ≡ 0
    by_test true is none later = cc
    by_test false is none later = ap (λ b. if b then suc (times n xs) else times n xs) (bytes_eq-sym x n ∙ is) ∙ later none

module _ {A : Type 0} (name : A → List ℕ) where
  abbrev count : List ℕ → List A → ℕ
  count n xs = times n (map name xs)

  pub times-inserted : (n : List ℕ) (x : A) (xs : List A) → times n (map name (inserted name x xs)) ≡ times n (name x ∷ map name xs)
  times-inserted n x [] = refl
  times-inserted n x (y ∷ ys) = by_test (is_le (slice_cmp nat_cmp (name x) (name y))) (times-inserted n x ys)
    where
      both : (a b : Bool) (k : ℕ) → (if b then suc (if a then suc k else k) else (if a then suc k else k)) ≡ (if a then suc (if b then suc k else k) else (if b then suc k else k))
      both true true k = refl
      both true false k = refl
      both false b k = refl

      by_test : (b : Bool) → times n (map name (inserted name x ys)) ≡ times n (name x ∷ map name ys) → times n (map name (if b then x ∷ y ∷ ys else y ∷ inserted name x ys)) ≡ times n (name x ∷ name y ∷ map name ys)
      by_test true later = refl
      by_test false later = ap (λ k. if bytes_eq (name y) n then suc k else k) later ∙ both (bytes_eq (name x) n) (bytes_eq (name y) n) (times n (map name ys))

  pub times-filter : (p : A → Bool) (n : List ℕ) (xs : List A) → times n (map name (filter p xs)) ≤ times n (map name xs)
  times-filter p n [] = omega arith
  times-filter p n (x ∷ xs) = by_test (p x) (times-filter p n xs)
    where
      grown : (b : Bool) (j k : ℕ) → j ≤ k → (if b then suc j else j) ≤ (if b then suc k else k)
      grown true j k le = omega (arith, le)
      grown false j k le = le

      more : (b : Bool) (j k : ℕ) → j ≤ k → j ≤ (if b then suc k else k)
      more true j k le = omega (arith, le)
      more false j k le = le

      by_test : (a : Bool) → times n (map name (filter p xs)) ≤ times n (map name xs) → times n (map name (cond a (x ∷ filter p xs) (filter p xs))) ≤ times n (name x ∷ map name xs)
      by_test true later = grown (bytes_eq (name x) n) (times n (map name (filter p xs))) (times n (map name xs)) later
      by_test false later = more (bytes_eq (name x) n) (times n (map name (filter p xs))) (times n (map name xs)) later

  pub length-inserted : (x : A) (xs : List A) → length (inserted name x xs) ≡ suc (length xs)
  length-inserted x [] = refl
  length-inserted x (y ∷ ys) = by_test (is_le (slice_cmp nat_cmp (name x) (name y))) (length-inserted x ys)
    where
      by_test : (b : Bool) → length (inserted name x ys) ≡ suc (length ys) → length (if b then x ∷ y ∷ ys else y ∷ inserted name x ys) ≡ suc (suc (length ys))
      by_test true later = refl
      by_test false later = ap suc later

  pub length-updated : (n : List ℕ) (g : A → A) (xs : List A) → length (updated name n g xs) ≡ length xs
  length-updated n g [] = refl
  length-updated n g (x ∷ xs) = by_test (bytes_eq (name x) n) (length-updated n g xs)
    where
      by_test : (b : Bool) → length (updated name n g xs) ≡ length xs → length (if b then g x ∷ xs else x ∷ updated name n g xs) ≡ suc (length xs)
      by_test true later = refl
      by_test false later = ap suc later

  pub length-filter : (p : A → Bool) (xs : List A) → length (filter p xs) ≤ length xs
  length-filter p [] = omega arith
  length-filter p (x ∷ xs) = by_test (p x) (length-filter p xs)
    where
      by_test : (b : Bool) → length (filter p xs) ≤ length xs → length (cond b (x ∷ filter p xs) (filter p xs)) ≤ suc (length xs)
      by_test true later = omega (arith, later)
      by_test false later = omega (arith, later)

-- ---- lists by names

-- a name that stands nowhere is found nowhere
pub none_named : {A : Type 0} (name : A → List ℕ) (n : List ℕ) (xs : List A) → times n (map name xs) ≡ 0 → found_by name n xs ≡ None
none_named name n [] none = refl
none_named name n (x ∷ xs) none = by_test (bytes_eq (name x) n) none (none_named name n xs)
  where
    by_test : (b : Bool) → (if b then suc (times n (map name xs)) else times n (map name xs)) ≡ 0 → (times n (map name xs) ≡ 0 → found_by name n xs ≡ None) → (if b then Some x else found_by name n xs) ≡ None
    by_test true none later = absurd (omega (arith, none))
    by_test false none later = later none

pub some_named : {A : Type 0} (name : A → List ℕ) (n : List ℕ) (xs : List A) (x : A) → found_by name n xs ≡ Some x → 1 ≤ times n (map name xs)
some_named name n [] x found = absurd (none_not_some found)
some_named name n (y ∷ ys) x found = by_test (bytes_eq (name y) n) found (some_named name n ys x)
  where
    by_test : (b : Bool) → (if b then Some y else found_by name n ys) ≡ Some x → (found_by name n ys ≡ Some x → 1 ≤ times n (map name ys)) → 1 ≤ (if b then suc (times n (map name ys)) else times n (map name ys))
    by_test true found later = omega arith
    by_test false found later = later found

-- names that differ
pub apart_of : (a n : List ℕ) (xs : List (List ℕ)) → times a xs ≡ 0 → 1 ≤ times n xs → bytes_eq a n ≡ false
apart_of a n xs none some = false_from_ne_true (bytes_eq a n) (λ is. zero_some (subst (λ m. times m xs ≡ 0) ((bytes_eq-Decides a n).0 is) none))
  where
    zero_some : times n xs ≡ 0 → ⊥
    zero_some none_there = omega (arith, none_there, some)

pub other_head : (x : List ℕ) (y : List ℕ) (ys : List (List ℕ)) → times x (y ∷ ys) ≡ 0 → (bytes_eq y x ≡ false) × (times x ys ≡ 0)
other_head x y ys none = by_test (bytes_eq y x) refl none
  where
    by_test : (b : Bool) → bytes_eq y x ≡ b → (if b then suc (times x ys) else times x ys) ≡ 0 → (bytes_eq y x ≡ false) × (times x ys ≡ 0)
    by_test true is none = absurd (omega (arith, none))
    by_test false is none = (is, none)

module _ {A : Type 0} (name : A → List ℕ) where
  ascend_above : (p : List ℕ) (xs : List A) → Each (IsBefore p) (map name xs) → (x : A) → IsBefore p (name x) → Each (IsBefore p) (map name (inserted name x xs))
  ascend_above p [] each x before = (before, tt)
  ascend_above p (y ∷ ys) each x before = by_test (is_le (slice_cmp nat_cmp (name x) (name y))) (ascend_above p ys each.1 x before)
    where
      by_test : (b : Bool) → Each (IsBefore p) (map name (inserted name x ys)) → Each (IsBefore p) (map name (if b then x ∷ y ∷ ys else y ∷ inserted name x ys))
      by_test true later = (before, each)
      by_test false later = (each.0, later)

  -- one put among others, where its name is new
  pub ascend_inserted : (x : A) (xs : List A) → KeysAscend (map name xs) → times (name x) (map name xs) ≡ 0 → KeysAscend (map name (inserted name x xs))
  ascend_inserted x [] ascend none = (tt, tt)
  ascend_inserted x (y ∷ ys) ascend none =
      let other = other_head (name x) (name y) (map name ys) none in
      by_order (slice_cmp nat_cmp (name x) (name y)) refl other.0 (ascend_inserted x ys ascend.1 other.1)
    where
      greater_before : slice_cmp nat_cmp (name x) (name y) ≡ Greater → IsBefore (name y) (name x)
      greater_before is = nat_list_cmp_total.antisymm (name y) (name x) ∙ ap ordering_reverse is

      by_order : (o : Ordering) → slice_cmp nat_cmp (name x) (name y) ≡ o → bytes_eq (name y) (name x) ≡ false → KeysAscend (map name (inserted name x ys)) → KeysAscend (map name (if is_le o then x ∷ y ∷ ys else y ∷ inserted name x ys))
      by_order Less is other later =
          ((is, Each-weaker (IsBefore (name y)) (IsBefore (name x)) (λ n before. before_chain (name x) (name y) n is before) (map name ys) ascend.0), ascend)
      by_order Equal is other later = absurd (both_ways (bytes_eq (name y) (name x)) other ((bytes_eq-Decides (name y) (name x)).1 (sym (exact_bytes (name x) (name y) is))))
      by_order Greater is other later = (ascend_above (name y) ys ascend.0 x (greater_before is), later)

  pub ascend_filter : (p : A → Bool) (xs : List A) → KeysAscend (map name xs) → KeysAscend (map name (filter p xs))
  ascend_filter p [] ascend = tt
  ascend_filter p (x ∷ xs) ascend = by_test (p x) (ascend_filter p xs ascend.1)
    where
      among : (q : List ℕ) (ys : List A) → Each (IsBefore q) (map name ys) → Each (IsBefore q) (map name (filter p ys))
      among q [] each = tt
      among q (y ∷ ys) each = by_head (p y) (among q ys each.1)
        where
          by_head : (b : Bool) → Each (IsBefore q) (map name (filter p ys)) → Each (IsBefore q) (map name (cond b (y ∷ filter p ys) (filter p ys)))
          by_head true later = (each.0, later)
          by_head false later = later

      by_test : (b : Bool) → KeysAscend (map name (filter p xs)) → KeysAscend (map name (cond b (x ∷ filter p xs) (filter p xs)))
      by_test true later = (among (name x) xs ascend.0, later)
      by_test false later = later

-- one put among others is found by its name, where that is new
pub named_new : {A : Type 0} (name : A → List ℕ) (x : A) (xs : List A) → times (name x) (map name xs) ≡ 0 → found_by name (name x) (inserted name x xs) ≡ Some x
named_new name x [] none = ap (λ b. if b then Some x else None) (bytes_eq-itself (name x))
named_new name x (y ∷ ys) none =
    let other = other_head (name x) (name y) (map name ys) none in
    by_test (is_le (slice_cmp nat_cmp (name x) (name y))) other.0 (named_new name x ys other.1)
  where
    by_test : (b : Bool) → bytes_eq (name y) (name x) ≡ false → found_by name (name x) (inserted name x ys) ≡ Some x → found_by name (name x) (if b then x ∷ y ∷ ys else y ∷ inserted name x ys) ≡ Some x
    by_test true other later = ap (λ b. if b then Some x else found_by name (name x) (y ∷ ys)) (bytes_eq-itself (name x))
    by_test false other later = ap (λ b. if b then Some y else found_by name (name x) (inserted name x ys)) other ∙ later

-- what is taken out was there
pub length-without : {A : Type 0} (name : A → List ℕ) (n : List ℕ) (xs : List A) (x : A) → found_by name n xs ≡ Some x → suc (length (without name n xs)) ≤ length xs
length-without name n [] x found = absurd (none_not_some found)
length-without name n (y ∷ ys) x found = by_test (bytes_eq (name y) n) found (length-without name n ys x) (length-filter name (λ z. not (bytes_eq (name z) n)) ys)
  where
    by_test : (b : Bool) → (if b then Some y else found_by name n ys) ≡ Some x → (found_by name n ys ≡ Some x → suc (length (without name n ys)) ≤ length ys) → length (without name n ys) ≤ length ys → suc (length (cond (not b) (y ∷ without name n ys) (without name n ys))) ≤ suc (length ys)
    by_test true found later fewer = omega (arith, fewer)
    by_test false found later fewer = let less = later found in omega (arith, less)
