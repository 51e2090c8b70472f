-- Look-ups and changes by name go through what keeps names.
use Rattle.std.specs.Prelude.{◌≡◌, ℕ, Bool, not, true, false, cond, List, [], ◌∷◌, map, filter, Some, None, if◌then◌else◌, bytes_eq}
use Rattle.std.specs.List.{find}
use Rattle.std.specs.Option.{option_map}
use Rattle.std.specs.Ordering.{is_le, nat_cmp}
use Rattle.std.specs.Cmp.Lexicographic.{slice_cmp}
use Rattle.std.proofs.Common.{refl, ap, ◌∙◌, sym, subst}
use Rattle.std.proofs.lemmas.Bool.{both_ways}
use Rattle.std.proofs.lemmas.Slice.Eq.{bytes_eq-Decides}
use Rattle.row_cells.specs.Each.{Each}
use Rattle.stream_catalog.specs.Lists.{found_by, updated, inserted, without}

pub none_not_some : {A : Type 0} {a : A} → None ≡ Some a → ⊥
none_not_some e = cc

pub some_is : {A : Type 0} {a b : A} → Some a ≡ Some b → a ≡ b
some_is e = cc

pub cons_eq : {A : Type 0} {x y : A} {xs ys : List A} → x ≡ y → xs ≡ ys → x ∷ xs ≡ y ∷ ys
cons_eq p q = cc

-- ---- a list and its image

module _ {A B : Type 0} (f : A → B) (a_name : A → List ℕ) (b_name : B → List ℕ) (same : (a : A) → b_name (f a) ≡ a_name a) where
  pub named-map : (n : List ℕ) (xs : List A) → found_by b_name n (map f xs) ≡ option_map f (found_by a_name n xs)
  named-map n [] = refl
  named-map n (x ∷ xs) =
      ap (λ m. if bytes_eq m n then Some (f x) else found_by b_name n (map f xs)) (same x) ∙ by_test (bytes_eq (a_name x) n) (named-map n xs)
    where
      by_test : (b : Bool) → found_by b_name n (map f xs) ≡ option_map f (found_by a_name n xs)
          → (if b then Some (f x) else found_by b_name n (map f xs)) ≡ option_map f (if b then Some x else found_by a_name n xs)
      by_test true later = refl
      by_test false later = later

  pub updated-map : (n : List ℕ) (g : A → A) (h : B → B) (xs : List A) → ((x : A) → found_by a_name n xs ≡ Some x → f (g x) ≡ h (f x)) →
      map f (updated a_name n g xs) ≡ updated b_name n h (map f xs)
  updated-map n g h [] step = refl
  updated-map n g h (x ∷ xs) step =
      by_test (bytes_eq (a_name x) n) (λ found. updated-map n g h xs found) step
      ∙ sym (ap (λ m. if bytes_eq m n then h (f x) ∷ map f xs else f x ∷ updated b_name n h (map f xs)) (same x))
    where
      by_test : (b : Bool) → (((y : A) → found_by a_name n xs ≡ Some y → f (g y) ≡ h (f y)) → map f (updated a_name n g xs) ≡ updated b_name n h (map f xs))
          → ((y : A) → (if b then Some x else found_by a_name n xs) ≡ Some y → f (g y) ≡ h (f y))
          → map f (if b then g x ∷ xs else x ∷ updated a_name n g xs) ≡ (if b then h (f x) ∷ map f xs else f x ∷ updated b_name n h (map f xs))
      by_test true later step = ap (λ y. y ∷ map f xs) (step x refl)
      by_test false later step = ap (λ ys. f x ∷ ys) (later step)

  pub inserted-map : (x : A) (xs : List A) → map f (inserted a_name x xs) ≡ inserted b_name (f x) (map f xs)
  inserted-map x [] = refl
  inserted-map x (y ∷ ys) =
      by_test (is_le (slice_cmp nat_cmp (a_name x) (a_name y))) (inserted-map x ys)
      ∙ (ap (λ m. if is_le (slice_cmp nat_cmp m (a_name y)) then f x ∷ f y ∷ map f ys else f y ∷ inserted b_name (f x) (map f ys)) (sym (same x))
      ∙ ap (λ m. if is_le (slice_cmp nat_cmp (b_name (f x)) m) then f x ∷ f y ∷ map f ys else f y ∷ inserted b_name (f x) (map f ys)) (sym (same y)))
    where
      by_test : (b : Bool) → map f (inserted a_name x ys) ≡ inserted b_name (f x) (map f ys)
          → map f (if b then x ∷ y ∷ ys else y ∷ inserted a_name x ys) ≡ (if b then f x ∷ f y ∷ map f ys else f y ∷ inserted b_name (f x) (map f ys))
      by_test true later = refl
      by_test false later = ap (λ zs. f y ∷ zs) later

  pub without-map : (n : List ℕ) (xs : List A) → map f (without a_name n xs) ≡ without b_name n (map f xs)
  without-map n xs = filter-map (λ x. not (bytes_eq (a_name x) n)) (λ y. not (bytes_eq (b_name y) n)) (λ x. ap (λ m. not (bytes_eq m n)) (same x)) xs
    where
      filter-map : (p : A → Bool) (q : B → Bool) → ((x : A) → q (f x) ≡ p x) → (ys : List A) → map f (filter p ys) ≡ filter q (map f ys)
      filter-map p q alike [] = refl
      filter-map p q alike (y ∷ ys) = by_test (p y) (filter-map p q alike ys) ∙ sym (ap (λ b. cond b (f y ∷ filter q (map f ys)) (filter q (map f ys))) (alike y))
        where
          by_test : (b : Bool) → map f (filter p ys) ≡ filter q (map f ys) → map f (cond b (y ∷ filter p ys) (filter p ys)) ≡ cond b (f y ∷ filter q (map f ys)) (filter q (map f ys))
          by_test true later = ap (λ zs. f y ∷ zs) later
          by_test false later = later

-- a test that goes through
pub filter-map_alike : {A B : Type 0} (f : A → B) (p : A → Bool) (q : B → Bool) → ((x : A) → q (f x) ≡ p x) → (xs : List A) → map f (filter p xs) ≡ filter q (map f xs)
filter-map_alike f p q alike [] = refl
filter-map_alike f p q alike (x ∷ xs) = by_test (p x) (filter-map_alike f p q alike xs) ∙ sym (ap (λ b. cond b (f x ∷ filter q (map f xs)) (filter q (map f xs))) (alike x))
  where
    by_test : (b : Bool) → map f (filter p xs) ≡ filter q (map f xs) → map f (cond b (x ∷ filter p xs) (filter p xs)) ≡ cond b (f x ∷ filter q (map f xs)) (filter q (map f xs))
    by_test true later = ap (λ zs. f x ∷ zs) later
    by_test false later = later

-- ---- what holds of each

module _ {A : Type 0} (name : A → List ℕ) (P : A → Type 0) where
  pub each_found : (n : List ℕ) (xs : List A) (x : A) → found_by name n xs ≡ Some x → Each P xs → P x
  each_found n [] x found each = absurd (none_not_some found)
  each_found n (y ∷ ys) x found each = by_test (bytes_eq (name y) n) (λ is. each_found n ys x is each.1) found
    where
      by_test : (b : Bool) → (found_by name n ys ≡ Some x → P x) → (if b then Some y else found_by name n ys) ≡ Some x → P x
      by_test true later found = subst P (some_is found) each.0
      by_test false later found = later found

  pub each_updated : (n : List ℕ) (g : A → A) (xs : List A) → ((x : A) → found_by name n xs ≡ Some x → P (g x)) → Each P xs → Each P (updated name n g xs)
  each_updated n g [] step each = tt
  each_updated n g (x ∷ xs) step each = by_test (bytes_eq (name x) n) (λ found. each_updated n g xs found each.1) step
    where
      by_test : (b : Bool) → (((y : A) → found_by name n xs ≡ Some y → P (g y)) → Each P (updated name n g xs))
          → ((y : A) → (if b then Some x else found_by name n xs) ≡ Some y → P (g y))
          → Each P (if b then g x ∷ xs else x ∷ updated name n g xs)
      by_test true later step = (step x refl, each.1)
      by_test false later step = (each.0, later step)

  pub each_inserted : (x : A) (xs : List A) → P x → Each P xs → Each P (inserted name x xs)
  each_inserted x [] here each = (here, tt)
  each_inserted x (y ∷ ys) here each = by_test (is_le (slice_cmp nat_cmp (name x) (name y))) (each_inserted x ys here each.1)
    where
      by_test : (b : Bool) → Each P (inserted name x ys) → Each P (if b then x ∷ y ∷ ys else y ∷ inserted name x ys)
      by_test true later = (here, each)
      by_test false later = (each.0, later)

-- ---- what is found

module _ {A : Type 0} (name : A → List ℕ) where
  pub found_name : (n : List ℕ) (xs : List A) (x : A) → found_by name n xs ≡ Some x → bytes_eq (name x) n ≡ true
  found_name n [] x found = absurd (none_not_some found)
  found_name n (y ∷ ys) x found = by_test (bytes_eq (name y) n) refl (λ is. found_name n ys x is) found
    where
      by_test : (b : Bool) → bytes_eq (name y) n ≡ b → (found_by name n ys ≡ Some x → bytes_eq (name x) n ≡ true) → (if b then Some y else found_by name n ys) ≡ Some x → bytes_eq (name x) n ≡ true
      by_test true same later found = ap (λ z. bytes_eq (name z) n) (sym (some_is found)) ∙ same
      by_test false same later found = later found

  -- an element of another name hides nothing
  pub named_inserted : (n : List ℕ) (x : A) (xs : List A) → bytes_eq (name x) n ≡ false → found_by name n (inserted name x xs) ≡ found_by name n xs
  named_inserted n x [] other = ap (λ b. if b then Some x else None) other
  named_inserted n x (y ∷ ys) other = by_test (is_le (slice_cmp nat_cmp (name x) (name y))) (named_inserted n x ys other)
    where
      by_test : (b : Bool) → found_by name n (inserted name x ys) ≡ found_by name n ys → found_by name n (if b then x ∷ y ∷ ys else y ∷ inserted name x ys) ≡ found_by name n (y ∷ ys)
      by_test true later = ap (λ b. if b then Some x else found_by name n (y ∷ ys)) other
      by_test false later = ap (λ o. if bytes_eq (name y) n then Some y else o) later

  -- look-ups of other names don't miss what was taken out
  pub named_without : (n m : List ℕ) (xs : List A) → bytes_eq n m ≡ false → found_by name m (without name n xs) ≡ found_by name m xs
  named_without n m [] other = refl
  named_without n m (x ∷ xs) other = by_tests (bytes_eq (name x) n) (bytes_eq (name x) m) refl refl (named_without n m xs other)
    where
      by_tests : (a b : Bool) → bytes_eq (name x) n ≡ a → bytes_eq (name x) m ≡ b → found_by name m (without name n xs) ≡ found_by name m xs
          → found_by name m (cond (not a) (x ∷ without name n xs) (without name n xs)) ≡ (if b then Some x else found_by name m xs)
      by_tests true true gone same later = absurd (both_ways (bytes_eq n m) other (ap (λ k. bytes_eq k m) (sym ((bytes_eq-Decides (name x) n).0 gone)) ∙ same))
      by_tests true false gone same later = later
      by_tests false true gone same later = rw same refl
      by_tests false false gone same later = rw same later

  -- look-ups after a change that keeps names
  pub named_updated : (n m : List ℕ) (g : A → A) (xs : List A) → ((x : A) → name (g x) ≡ name x) → bytes_eq n m ≡ false → found_by name m (updated name n g xs) ≡ found_by name m xs
  named_updated n m g [] keeps other = refl
  named_updated n m g (x ∷ xs) keeps other = by_tests (bytes_eq (name x) n) (bytes_eq (name x) m) refl refl (named_updated n m g xs keeps other)
    where
      by_tests : (a b : Bool) → bytes_eq (name x) n ≡ a → bytes_eq (name x) m ≡ b → found_by name m (updated name n g xs) ≡ found_by name m xs
          → found_by name m (if a then g x ∷ xs else x ∷ updated name n g xs) ≡ (if b then Some x else found_by name m xs)
      by_tests true true here same later = absurd (both_ways (bytes_eq n m) other (ap (λ k. bytes_eq k m) (sym ((bytes_eq-Decides (name x) n).0 here)) ∙ same))
      by_tests true false here same later = ap (λ b. if b then Some (g x) else found_by name m xs) (ap (λ k. bytes_eq k m) (keeps x) ∙ same)
      by_tests false true here same later = rw same refl
      by_tests false false here same later = rw same later

  pub named_updated_here : (n : List ℕ) (g : A → A) (xs : List A) → ((x : A) → name (g x) ≡ name x) → found_by name n (updated name n g xs) ≡ option_map g (found_by name n xs)
  named_updated_here n g [] keeps = refl
  named_updated_here n g (x ∷ xs) keeps = by_test (bytes_eq (name x) n) refl (named_updated_here n g xs keeps)
    where
      by_test : (b : Bool) → bytes_eq (name x) n ≡ b → found_by name n (updated name n g xs) ≡ option_map g (found_by name n xs)
          → found_by name n (if b then g x ∷ xs else x ∷ updated name n g xs) ≡ option_map g (if b then Some x else found_by name n xs)
      by_test true here later = ap (λ b. if b then Some (g x) else found_by name n xs) (ap (λ k. bytes_eq k n) (keeps x) ∙ here)
      by_test false here later = rw here later

  -- a change that keeps names
  pub names_updated : (n : List ℕ) (g : A → A) (xs : List A) → ((x : A) → name (g x) ≡ name x) → map name (updated name n g xs) ≡ map name xs
  names_updated n g [] keeps = refl
  names_updated n g (x ∷ xs) keeps = by_test (bytes_eq (name x) n) (names_updated n g xs keeps)
    where
      by_test : (b : Bool) → map name (updated name n g xs) ≡ map name xs → map name (if b then g x ∷ xs else x ∷ updated name n g xs) ≡ name x ∷ map name xs
      by_test true later = ap (λ m. m ∷ map name xs) (keeps x)
      by_test false later = ap (λ ms. name x ∷ ms) later

-- ---- what no test finds

pub none_found : {A : Type 0} (test : A → Bool) (xs : List A) → find test xs ≡ None → Each (λ x. test x ≡ false) xs
none_found test [] none = tt
none_found test (x ∷ xs) none = by_test (test x) refl none (none_found test xs)
  where
    by_test : (b : Bool) → test x ≡ b → cond b (Some x) (find test xs) ≡ None → (find test xs ≡ None → Each (λ y. test y ≡ false) xs) → (test x ≡ false) × Each (λ y. test y ≡ false) xs
    by_test true is none later = absurd (none_not_some (sym none))
    by_test false is none later = (is, later none)
