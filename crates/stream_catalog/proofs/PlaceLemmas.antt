-- Where a name stands in a list that stands by names, and what is changed there.
use Rattle.std.specs.Prelude.{◌≡◌, ℕ, zero, suc, ◌≤◌, ◌<◌, Bool, not, true, false, cond, List, [], ◌∷◌, map, length, Some, None, if◌then◌else◌, bytes_eq}
use Rattle.std.specs.List.{insert, remove}
use Rattle.std.specs.Ordering.{is_le, is_lt, nat_cmp, ordering_reverse}
use Rattle.std.specs.Cmp.Lexicographic.{slice_cmp, nat_list_cmp_total}
use Rattle.std.specs.declared.cmp.Ordering.{Ordering}
use Rattle.std.specs.declared.cmp.Ordering.TheVariants.{Less, Equal, Greater}
use Rattle.std.proofs.Common.{refl, ap, ◌∙◌, sym, subst, arith, get_or, set}
use Rattle.std.proofs.lemmas.Bool.{both_ways}
use Rattle.std.proofs.lemmas.List.{get_or_default}
use Rattle.std.proofs.lemmas.Map.Lookups.{exact_bytes}
use Rattle.std.proofs.lemmas.Map.Text.{is_eq-slice_cmp}
use Rattle.row_cells.specs.Each.{Each}
use Rattle.row_cells.specs.EachLaws.{Each-weaker}
use Rattle.row_cells.specs.Dimensions.{IsBefore}
use Rattle.row_cells.specs.JoinLaws.{before_chain}
use Rattle.downsample_fold.specs.Laws.{KeysAscend}
use Rattle.stream_catalog.specs.Lists.{found_by, updated, inserted, without}
use Rattle.stream_catalog.specs.Places.{IsAbsentAt, IsHereAt, place_of}
use Rattle.stream_catalog.specs.Sound.{times}
use Rattle.stream_catalog.proofs.NamedLemmas.{none_not_some, names_updated}
use Rattle.stream_catalog.proofs.CountLemmas.{bytes_eq-sym, bytes_eq-itself, ascend_inserted, ascend_filter}
use Rattle.stream_catalog.proofs.TemplateLemmas.{without-gone}

-- ---- orders of names

is_less : (o : Ordering) → is_lt o ≡ true → o ≡ Less
is_less Less is = refl
is_less Equal is = cc
is_less Greater is = cc

other_by : (a b : List ℕ) (o : Ordering) → slice_cmp nat_cmp a b ≡ o → is_lt o ≡ true → bytes_eq a b ≡ false
other_by a b Less is less = sym (is_eq-slice_cmp a b) ∙ rw is refl
other_by a b Equal is less = cc
other_by a b Greater is less = cc

-- a lesser name is another one
less_other : (a b : List ℕ) → is_lt (slice_cmp nat_cmp a b) ≡ true → bytes_eq a b ≡ false
less_other a b less = other_by a b (slice_cmp nat_cmp a b) refl less

before_other : (a b : List ℕ) → IsBefore a b → bytes_eq b a ≡ false
before_other a b before = bytes_eq-sym b a ∙ other_by a b Less before refl

turned_by : (a b : List ℕ) (o : Ordering) → slice_cmp nat_cmp a b ≡ o → is_le (slice_cmp nat_cmp b a) ≡ not (is_lt o)
turned_by a b Less is = ap is_le (nat_list_cmp_total.antisymm b a ∙ ap ordering_reverse is)
turned_by a b Equal is = ap is_le (nat_list_cmp_total.antisymm b a ∙ ap ordering_reverse is)
turned_by a b Greater is = ap is_le (nat_list_cmp_total.antisymm b a ∙ ap ordering_reverse is)

-- one is up to another where that isn't less
turned : (a b : List ℕ) → is_le (slice_cmp nat_cmp b a) ≡ not (is_lt (slice_cmp nat_cmp a b))
turned a b = turned_by a b (slice_cmp nat_cmp a b) refl

behind_by : (a b : List ℕ) (o : Ordering) → slice_cmp nat_cmp a b ≡ o → is_lt o ≡ false → bytes_eq a b ≡ false → IsBefore b a
behind_by a b Less is least other = cc
behind_by a b Equal is least other = absurd (both_ways (bytes_eq a b) other (sym (is_eq-slice_cmp a b) ∙ rw is refl))
behind_by a b Greater is least other = nat_list_cmp_total.antisymm b a ∙ ap ordering_reverse is

-- one that is neither less nor the same stands behind
behind : (a b : List ℕ) → is_lt (slice_cmp nat_cmp a b) ≡ false → bytes_eq a b ≡ false → IsBefore b a
behind a b least other = behind_by a b (slice_cmp nat_cmp a b) refl least other

-- ---- where a name stands

module _ {A : Type 0} (name : A → List ℕ) (n : List ℕ) where
  pub place-within : (xs : List A) → place_of name n xs ≤ length xs
  place-within [] = omega arith
  place-within (x ∷ xs) = by_test (is_lt (slice_cmp nat_cmp (name x) n)) (place-within xs)
    where
      by_test : (b : Bool) → place_of name n xs ≤ length xs → (if b then suc (place_of name n xs) else 0) ≤ suc (length xs)
      by_test true later = omega (arith, later)
      by_test false later = omega arith

  -- it stands no further than one that isn't less
  pub place-upto : (xs : List A) (m : ℕ) (d : A) → m < length xs → is_lt (slice_cmp nat_cmp (name (get_or xs m d)) n) ≡ false → place_of name n xs ≤ m
  place-upto [] m d within is = absurd (omega (arith, within))
  place-upto (x ∷ xs) zero d within is = rw is (omega arith)
  place-upto (x ∷ xs) (suc m) d within is = by_test (is_lt (slice_cmp nat_cmp (name x) n)) (place-upto xs m d (omega (arith, within)) is)
    where
      by_test : (b : Bool) → place_of name n xs ≤ m → (if b then suc (place_of name n xs) else 0) ≤ suc m
      by_test true later = omega (arith, later)
      by_test false later = omega arith

  before_at : (p : List ℕ) (xs : List A) (m : ℕ) (d : A) → m < length xs → Each (IsBefore p) (map name xs) → IsBefore p (name (get_or xs m d))
  before_at p [] m d within each = absurd (omega (arith, within))
  before_at p (x ∷ xs) zero d within each = each.0
  before_at p (x ∷ xs) (suc m) d within each = before_at p xs m d (omega (arith, within)) each.1

  -- it stands behind one that is less
  pub place-past : (xs : List A) (m : ℕ) (d : A) → KeysAscend (map name xs) → m < length xs → is_lt (slice_cmp nat_cmp (name (get_or xs m d)) n) ≡ true → m < place_of name n xs
  place-past [] m d ascend within is = absurd (omega (arith, within))
  place-past (x ∷ xs) zero d ascend within is = rw is (omega arith)
  place-past (x ∷ xs) (suc m) d ascend within is = rw first (omega (arith, place-past xs m d ascend.1 (omega (arith, within)) is))
    where
      first : is_lt (slice_cmp nat_cmp (name x) n) ≡ true
      first = ap is_lt (before_chain (name x) (name (get_or xs m d)) n (before_at (name x) xs m d (omega (arith, within)) ascend.0) (is_less (slice_cmp nat_cmp (name (get_or xs m d)) n) is))

  -- ---- what is found there

  pub found_here : (xs : List A) (d : A) → place_of name n xs < length xs → bytes_eq (name (get_or xs (place_of name n xs) d)) n ≡ true → found_by name n xs ≡ Some (get_or xs (place_of name n xs) d)
  found_here [] d within same = absurd (omega (arith, within))
  found_here (x ∷ xs) d within same = by_test (is_lt (slice_cmp nat_cmp (name x) n)) refl (found_here xs d) within same
    where
      by_test : (b : Bool) → is_lt (slice_cmp nat_cmp (name x) n) ≡ b → (place_of name n xs < length xs → bytes_eq (name (get_or xs (place_of name n xs) d)) n ≡ true → found_by name n xs ≡ Some (get_or xs (place_of name n xs) d))
          → (if b then suc (place_of name n xs) else 0) < suc (length xs) → bytes_eq (name (get_or (x ∷ xs) (if b then suc (place_of name n xs) else 0) d)) n ≡ true
          → (if bytes_eq (name x) n then Some x else found_by name n xs) ≡ Some (get_or (x ∷ xs) (if b then suc (place_of name n xs) else 0) d)
      by_test true less later within same = rw (less_other (name x) n less) (later (omega (arith, within)) same)
      by_test false less later within same = rw same refl

  -- names that stand behind another aren't it
  none_behind : (xs : List A) → Each (IsBefore n) (map name xs) → found_by name n xs ≡ None
  none_behind [] each = refl
  none_behind (x ∷ xs) each = rw (before_other n (name x) each.0) (none_behind xs each.1)

  pub none_here : (xs : List A) (d : A) → KeysAscend (map name xs) → (place_of name n xs < length xs → bytes_eq (name (get_or xs (place_of name n xs) d)) n ≡ false) → found_by name n xs ≡ None
  none_here [] d ascend other = refl
  none_here (x ∷ xs) d ascend other = by_test (is_lt (slice_cmp nat_cmp (name x) n)) refl (none_here xs d ascend.1) other
    where
      by_test : (b : Bool) → is_lt (slice_cmp nat_cmp (name x) n) ≡ b → ((place_of name n xs < length xs → bytes_eq (name (get_or xs (place_of name n xs) d)) n ≡ false) → found_by name n xs ≡ None)
          → ((if b then suc (place_of name n xs) else 0) < suc (length xs) → bytes_eq (name (get_or (x ∷ xs) (if b then suc (place_of name n xs) else 0) d)) n ≡ false)
          → (if bytes_eq (name x) n then Some x else found_by name n xs) ≡ None
      by_test true less later other = rw (less_other (name x) n less) (later (λ within. other (omega (arith, within))))
      by_test false less later other =
          let here = other (omega arith) in
          rw here (none_behind xs (Each-weaker (IsBefore (name x)) (IsBefore n) (λ m before. before_chain n (name x) m (behind (name x) n less here) before) (map name xs) ascend.0))

  -- all stand before it
  none_end : (xs : List A) → place_of name n xs ≡ length xs → found_by name n xs ≡ None
  none_end [] end = refl
  none_end (x ∷ xs) end = by_test (is_lt (slice_cmp nat_cmp (name x) n)) refl (none_end xs) end
    where
      by_test : (b : Bool) → is_lt (slice_cmp nat_cmp (name x) n) ≡ b → (place_of name n xs ≡ length xs → found_by name n xs ≡ None) → (if b then suc (place_of name n xs) else 0) ≡ suc (length xs)
          → (if bytes_eq (name x) n then Some x else found_by name n xs) ≡ None
      by_test true less later end = rw (less_other (name x) n less) (later (omega (arith, end)))
      by_test false less later end = absurd (omega (arith, end))

  -- ---- what isn't found

  pub none_counted : (xs : List A) → found_by name n xs ≡ None → times n (map name xs) ≡ 0
  none_counted [] none = refl
  none_counted (x ∷ xs) none = by_test (bytes_eq (name x) n) none (none_counted xs)
    where
      by_test : (b : Bool) → (if b then Some x else found_by name n xs) ≡ None → (found_by name n xs ≡ None → times n (map name xs) ≡ 0) → (if b then suc (times n (map name xs)) else times n (map name xs)) ≡ 0
      by_test true none later = absurd (none_not_some (sym none))
      by_test false none later = later none

  pub without-none : (xs : List A) → found_by name n xs ≡ None → without name n xs ≡ xs
  without-none [] none = refl
  without-none (x ∷ xs) none = by_test (bytes_eq (name x) n) none (without-none xs)
    where
      by_test : (b : Bool) → (if b then Some x else found_by name n xs) ≡ None → (found_by name n xs ≡ None → without name n xs ≡ xs) → cond (not b) (x ∷ without name n xs) (without name n xs) ≡ x ∷ xs
      by_test true none later = absurd (none_not_some (sym none))
      by_test false none later = ap (λ ys. x ∷ ys) (later none)

  pub updated-none : (g : A → A) (xs : List A) → found_by name n xs ≡ None → updated name n g xs ≡ xs
  updated-none g [] none = refl
  updated-none g (x ∷ xs) none = by_test (bytes_eq (name x) n) none (updated-none g xs)
    where
      by_test : (b : Bool) → (if b then Some x else found_by name n xs) ≡ None → (found_by name n xs ≡ None → updated name n g xs ≡ xs) → (if b then g x ∷ xs else x ∷ updated name n g xs) ≡ x ∷ xs
      by_test true none later = absurd (none_not_some (sym none))
      by_test false none later = ap (λ ys. x ∷ ys) (later none)

  -- ---- what is changed there

  pub updated_here : (g : A → A) (xs : List A) (d : A) → place_of name n xs < length xs → bytes_eq (name (get_or xs (place_of name n xs) d)) n ≡ true →
      updated name n g xs ≡ set xs (place_of name n xs) (g (get_or xs (place_of name n xs) d))
  updated_here g [] d within same = refl
  updated_here g (x ∷ xs) d within same = by_test (is_lt (slice_cmp nat_cmp (name x) n)) refl (updated_here g xs d) within same
    where
      by_test : (b : Bool) → is_lt (slice_cmp nat_cmp (name x) n) ≡ b
          → (place_of name n xs < length xs → bytes_eq (name (get_or xs (place_of name n xs) d)) n ≡ true → updated name n g xs ≡ set xs (place_of name n xs) (g (get_or xs (place_of name n xs) d)))
          → (if b then suc (place_of name n xs) else 0) < suc (length xs) → bytes_eq (name (get_or (x ∷ xs) (if b then suc (place_of name n xs) else 0) d)) n ≡ true
          → (if bytes_eq (name x) n then g x ∷ xs else x ∷ updated name n g xs) ≡ set (x ∷ xs) (if b then suc (place_of name n xs) else 0) (g (get_or (x ∷ xs) (if b then suc (place_of name n xs) else 0) d))
      by_test true less later within same = rw (less_other (name x) n less) (ap (λ ys. x ∷ ys) (later (omega (arith, within)) same))
      by_test false less later within same = rw same refl

  -- the first of the name gone, all others are others
  without_first : (x : A) (xs : List A) → KeysAscend (map name (x ∷ xs)) → is_lt (slice_cmp nat_cmp (name x) n) ≡ false → bytes_eq (name x) n ≡ true → found_by name n xs ≡ None
  without_first x xs ascend least same = none_behind xs (subst (λ m. Each (IsBefore m) (map name xs)) (exact_bytes (name x) n (equal (slice_cmp nat_cmp (name x) n) (is_eq-slice_cmp (name x) n ∙ same))) ascend.0)
    where
      equal : (o : Ordering) → Rattle.std.specs.Ordering.is_eq o ≡ true → o ≡ Equal
      equal Less is = cc
      equal Equal is = refl
      equal Greater is = cc

  pub without_here : (xs : List A) (d : A) → KeysAscend (map name xs) → place_of name n xs < length xs → bytes_eq (name (get_or xs (place_of name n xs) d)) n ≡ true → without name n xs ≡ remove xs (place_of name n xs)
  without_here [] d ascend within same = absurd (omega (arith, within))
  without_here (x ∷ xs) d ascend within same = by_test (is_lt (slice_cmp nat_cmp (name x) n)) refl (without_here xs d ascend.1) within same
    where
      by_test : (b : Bool) → is_lt (slice_cmp nat_cmp (name x) n) ≡ b
          → (place_of name n xs < length xs → bytes_eq (name (get_or xs (place_of name n xs) d)) n ≡ true → without name n xs ≡ remove xs (place_of name n xs))
          → (if b then suc (place_of name n xs) else 0) < suc (length xs) → bytes_eq (name (get_or (x ∷ xs) (if b then suc (place_of name n xs) else 0) d)) n ≡ true
          → cond (not (bytes_eq (name x) n)) (x ∷ without name n xs) (without name n xs) ≡ remove (x ∷ xs) (if b then suc (place_of name n xs) else 0)
      by_test true less later within same = rw (less_other (name x) n less) (ap (λ ys. x ∷ ys) (later (omega (arith, within)) same))
      by_test false less later within same = rw same (without-none xs (without_first x xs ascend less same))

module _ {A : Type 0} (name : A → List ℕ) (x : A) where
  pub inserted_here : (xs : List A) → inserted name x xs ≡ insert xs (place_of name (name x) xs) x
  inserted_here [] = refl
  inserted_here (y ∷ ys) = by_test (is_lt (slice_cmp nat_cmp (name y) (name x))) (turned (name y) (name x)) (inserted_here ys)
    where
      by_test : (b : Bool) → is_le (slice_cmp nat_cmp (name x) (name y)) ≡ not b → inserted name x ys ≡ insert ys (place_of name (name x) ys) x
          → (if is_le (slice_cmp nat_cmp (name x) (name y)) then x ∷ y ∷ ys else y ∷ inserted name x ys) ≡ insert (y ∷ ys) (if b then suc (place_of name (name x) ys) else 0) x
      by_test true is later = rw is (ap (λ zs. y ∷ zs) later)
      by_test false is later = rw is refl

  -- put before those that stand behind its name
  put_first : (xs : List A) → Each (IsBefore (name x)) (map name xs) → inserted name x xs ≡ x ∷ xs
  put_first [] each = refl
  put_first (y ∷ ys) each = rw each.0 refl

  -- put in the place of the one of its name
  pub exchanged_here : (xs : List A) (d : A) → KeysAscend (map name xs) → place_of name (name x) xs < length xs → bytes_eq (name (get_or xs (place_of name (name x) xs) d)) (name x) ≡ true →
      inserted name x (without name (name x) xs) ≡ set xs (place_of name (name x) xs) x
  exchanged_here [] d ascend within same = absurd (omega (arith, within))
  exchanged_here (y ∷ ys) d ascend within same = by_test (is_lt (slice_cmp nat_cmp (name y) (name x))) refl (exchanged_here ys d ascend.1) within same
    where
      by_test : (b : Bool) → is_lt (slice_cmp nat_cmp (name y) (name x)) ≡ b
          → (place_of name (name x) ys < length ys → bytes_eq (name (get_or ys (place_of name (name x) ys) d)) (name x) ≡ true → inserted name x (without name (name x) ys) ≡ set ys (place_of name (name x) ys) x)
          → (if b then suc (place_of name (name x) ys) else 0) < suc (length ys) → bytes_eq (name (get_or (y ∷ ys) (if b then suc (place_of name (name x) ys) else 0) d)) (name x) ≡ true
          → inserted name x (cond (not (bytes_eq (name y) (name x))) (y ∷ without name (name x) ys) (without name (name x) ys)) ≡ set (y ∷ ys) (if b then suc (place_of name (name x) ys) else 0) x
      by_test true less later within same = rw (less_other (name y) (name x) less, turned (name y) (name x) ∙ ap not less) (ap (λ zs. y ∷ zs) (later (omega (arith, within)) same))
      by_test false less later within same =
          let none = without_first name (name x) y ys ascend less same in
          rw (same, without-none name (name x) ys none) (put_first ys (subst (λ m. Each (IsBefore m) (map name ys)) (exact_bytes (name y) (name x) (equal (slice_cmp nat_cmp (name y) (name x)) (is_eq-slice_cmp (name y) (name x) ∙ same))) ascend.0))
        where
          equal : (o : Ordering) → Rattle.std.specs.Ordering.is_eq o ≡ true → o ≡ Equal
          equal Less is = cc
          equal Equal is = refl
          equal Greater is = cc

-- ---- what a search tells

-- the test that a search makes at a place
pub test_at : {A : Type 0} (name : A → List ℕ) (n m k : List ℕ) (b : Bool) (o : Ordering) (y x : A) → b ≡ is_lt o → o ≡ slice_cmp nat_cmp m n → m ≡ k → k ≡ name y → y ≡ x → is_lt (slice_cmp nat_cmp (name x) n) ≡ b
test_at name n m k b o y x tested compared bytes named is = cc

pub here_at : {A : Type 0} (name : A → List ℕ) (n : List ℕ) (xs : List A) (at : ℕ) (d : A) → KeysAscend (map name xs) → at ≡ place_of name n xs → at < length xs → bytes_eq (name (get_or xs at d)) n ≡ true → IsHereAt name n xs at
here_at name n xs at d ascend place within same =
    let inside : place_of name n xs < length xs = subst (λ k. k < length xs) place within in
    let is : (e : _) → bytes_eq (name (get_or xs (place_of name n xs) e)) n ≡ true = λ e. ap (λ x. bytes_eq (name x) n) (get_or_default xs (place_of name n xs) e d inside) ∙ subst (λ k. bytes_eq (name (get_or xs k d)) n ≡ true) place same in
    subst (IsHereAt name n xs) (sym place) (record {
      within = inside;
      found = λ e. found_here name n xs e inside (is e);
      changed = λ g e. updated_here name n g xs e inside (is e);
      left = without_here name n xs d ascend inside (is d);
      replaced = λ x named. subst (λ m. place_of name m xs < length xs → ((e : _) → bytes_eq (name (get_or xs (place_of name m xs) e)) m ≡ true) → inserted name x (without name m xs) ≡ set xs (place_of name m xs) x) named
          (λ less same_at. exchanged_here name x xs d ascend less (same_at d)) inside is;
    })

put_by_name : {A : Type 0} (name : A → List ℕ) (n : List ℕ) (xs : List A) (x : A) → name x ≡ n → inserted name x xs ≡ insert xs (place_of name n xs) x
put_by_name name n xs x named = subst (λ m. inserted name x xs ≡ insert xs (place_of name m xs) x) named (inserted_here name x xs)

pub absent_at : {A : Type 0} (name : A → List ℕ) (n : List ℕ) (xs : List A) (at : ℕ) (d : A) → KeysAscend (map name xs) → at ≡ place_of name n xs → bytes_eq (name (get_or xs at d)) n ≡ false → IsAbsentAt name n xs at
absent_at name n xs at d ascend place other = subst (IsAbsentAt name n xs) (sym place) (record {
  within = place-within name n xs;
  none = none_here name n xs d ascend (λ within. subst (λ k. bytes_eq (name (get_or xs k d)) n ≡ false) place other);
  put = put_by_name name n xs;
})

pub absent_end : {A : Type 0} (name : A → List ℕ) (n : List ℕ) (xs : List A) (at : ℕ) → at ≡ place_of name n xs → at ≡ length xs → IsAbsentAt name n xs at
absent_end name n xs at place end = subst (IsAbsentAt name n xs) (sym place) (record {
  within = place-within name n xs;
  none = none_end name n xs (sym place ∙ end);
  put = put_by_name name n xs;
})

-- the test that a search makes of the one that it found
pub named_at : {A : Type 0} (name : A → List ℕ) (n m k : List ℕ) (b : Bool) (y x : A) → b ≡ bytes_eq m n → m ≡ k → k ≡ name y → y ≡ x → bytes_eq (name x) n ≡ b
named_at name n m k b y x tested bytes named is = cc

-- ---- lists stay by names

pub put_ascends : {A : Type 0} (name : A → List ℕ) (x : A) (xs : List A) → KeysAscend (map name xs) → KeysAscend (map name (inserted name x (without name (name x) xs)))
put_ascends name x xs ascend = ascend_inserted name x (without name (name x) xs) (ascend_filter name (λ y. not (bytes_eq (name y) (name x))) xs ascend) (without-gone name (name x) xs)

module _ {A : Type 0} (name : A → List ℕ) (n : List ℕ) (searched xs : List A) (at : ℕ) (same : searched ≡ xs) where
  here_in : IsHereAt name n searched at → IsHereAt name n xs at
  here_in here = subst (λ ys. IsHereAt name n ys at) same here

  absent_in : IsAbsentAt name n searched at → IsAbsentAt name n xs at
  absent_in absent = subst (λ ys. IsAbsentAt name n ys at) same absent

  pub replaced_ascends : (x : A) → IsHereAt name n searched at → name x ≡ n → KeysAscend (map name xs) → KeysAscend (map name (set xs at x))
  replaced_ascends x here named ascend = subst (λ ys. KeysAscend (map name ys)) (ap (λ m. inserted name x (without name m xs)) named ∙ (here_in here).replaced x named) (put_ascends name x xs ascend)

  pub put_absent : (x : A) (ys : List A) → IsAbsentAt name n searched at → name x ≡ n → ys ≡ insert xs at x → ys ≡ inserted name x (without name (name x) xs)
  put_absent x ys absent named new =
      let there = absent_in absent in
      let none = without-none name n xs there.none in
      new ∙ (sym (there.put x named) ∙ ap (inserted name x) (sym (ap (λ m. without name m xs) named ∙ none)))

  pub put_absent_ascends : (x : A) (ys : List A) → IsAbsentAt name n searched at → name x ≡ n → ys ≡ insert xs at x → KeysAscend (map name xs) → KeysAscend (map name ys)
  put_absent_ascends x ys absent named new ascend = subst (λ zs. KeysAscend (map name zs)) (sym (put_absent x ys absent named new)) (put_ascends name x xs ascend)

  pub left_ascends : (ys : List A) → IsHereAt name n searched at → ys ≡ remove xs at → KeysAscend (map name xs) → KeysAscend (map name ys)
  left_ascends ys here new ascend = subst (λ zs. KeysAscend (map name zs)) ((here_in here).left ∙ sym new) (ascend_filter name (λ y. not (bytes_eq (name y) n)) xs ascend)

  pub left_absent : IsAbsentAt name n searched at → xs ≡ without name n xs
  left_absent absent = sym (without-none name n xs (absent_in absent).none)

  pub changed_absent : (g : A → A) → IsAbsentAt name n searched at → xs ≡ updated name n g xs
  changed_absent g absent = sym (updated-none name n g xs (absent_in absent).none)

  pub changed_ascends : (g : A → A) (y z : A) → ((x : A) → name (g x) ≡ name x) → IsHereAt name n searched at → z ≡ g y → y ≡ get_or xs at y → KeysAscend (map name xs) → KeysAscend (map name (set xs at z))
  changed_ascends g y z keeps here changed is ascend =
      let e : updated name n g xs ≡ set xs at z = (here_in here).changed g y ∙ ap (λ x. set xs at x) (ap g (sym is) ∙ sym changed) in
      subst (λ ys. KeysAscend (map name ys)) e (subst KeysAscend (sym (names_updated name n g xs keeps)) ascend)

-- ---- what was put in is taken out again

pub without_inserted : {A : Type 0} (name : A → List ℕ) (x : A) (xs : List A) → found_by name (name x) xs ≡ None → without name (name x) (inserted name x xs) ≡ xs
without_inserted name x [] none = rw (bytes_eq-itself (name x)) refl
without_inserted name x (y ∷ ys) none = by_name (bytes_eq (name y) (name x)) refl none (without_inserted name x ys)
  where
    by_order : (b : Bool) → bytes_eq (name y) (name x) ≡ false → without name (name x) (inserted name x ys) ≡ ys → without name (name x) (y ∷ ys) ≡ y ∷ ys → without name (name x) (if b then x ∷ y ∷ ys else y ∷ inserted name x ys) ≡ y ∷ ys
    by_order true other later all = rw (bytes_eq-itself (name x)) all
    by_order false other later all = rw other (ap (λ zs. y ∷ zs) later)

    by_name : (b : Bool) → bytes_eq (name y) (name x) ≡ b → (if b then Some y else found_by name (name x) ys) ≡ None → (found_by name (name x) ys ≡ None → without name (name x) (inserted name x ys) ≡ ys)
        → without name (name x) (inserted name x (y ∷ ys)) ≡ y ∷ ys
    by_name true same none later = absurd (none_not_some (sym none))
    by_name false other none later =
        by_order (is_le (slice_cmp nat_cmp (name x) (name y))) other (later none) (rw other (ap (λ zs. y ∷ zs) (without-none name (name x) ys none)))
