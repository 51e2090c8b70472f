-- Lists that are changed place by place, and members that are put in and taken out.
use Rattle.std.specs.Prelude.{◌≡◌, int_lt, ℕ, zero, suc, ◌+◌, ◌<◌, Bool, true, false, cond, List, [], ◌∷◌, ◌++◌, map, filter, take, drop, length, Some, if◌then◌else◌, bytes_eq}
use Rattle.std.specs.List.{remove}
use Rattle.std.proofs.Common.{refl, ap, ◌∙◌, sym, subst, arith, get_or, set, add-one}
use Rattle.stream_catalog.specs.declared.facts.HeldIndex.{HeldIndex}
use Rattle.stream_catalog.specs.Lists.{found_by, updated, with_found, facts_named}
use Rattle.stream_catalog.specs.Moves.{insert_member}
use Rattle.stream_catalog.specs.Places.{AllKept}
use Rattle.stream_catalog.proofs.NamedLemmas.{some_is}

-- ---- each is changed

-- the next of those that aren't changed yet
pub changed_next : {A : Type 0} (f : A → A) (xs ys : List A) (m : ℕ) (x y : A) → ys ≡ map f (take m xs) ++ drop m xs → x ≡ get_or ys m x → y ≡ f x →
    set ys m y ≡ map f (take (m + 1) xs) ++ drop (m + 1) xs
changed_next f xs ys m x y are is new = ap (λ zs. set zs m y) are ∙ (rw add-one (go xs m (is ∙ ap (λ zs. get_or zs m x) are)))
  where
    go : (xs : List _) (m : ℕ) → x ≡ get_or (map f (take m xs) ++ drop m xs) m x → set (map f (take m xs) ++ drop m xs) m y ≡ map f (take (suc m) xs) ++ drop (suc m) xs
    go [] zero is = refl
    go [] (suc m) is = refl
    go (z ∷ xs) zero is = ap (λ w. w ∷ xs) (new ∙ ap f is)
    go (z ∷ xs) (suc m) is = ap (λ zs. f z ∷ zs) (go xs m is)

-- ---- a list without those of a name

module _ {A : Type 0} (p : A → Bool) where
  -- one that a test leaves out is taken out
  pub filter-removed : (xs : List A) (m : ℕ) (d : A) → m < length xs → p (get_or xs m d) ≡ false → filter p (remove xs m) ≡ filter p xs
  filter-removed [] m d within out = absurd (omega (arith, within))
  filter-removed (x ∷ xs) zero d within out = rw out refl
  filter-removed (x ∷ xs) (suc m) d within out = ap (λ ys. cond (p x) (x ∷ ys) ys) (filter-removed xs m d (omega (arith, within)) out)

  pub drop-removed : (xs : List A) (m : ℕ) → drop m (remove xs m) ≡ drop (suc m) xs
  drop-removed [] zero = refl
  drop-removed [] (suc m) = refl
  drop-removed (x ∷ xs) zero = refl
  drop-removed (x ∷ xs) (suc m) = drop-removed xs m

  pub kept-removed : (xs : List A) (m : ℕ) → AllKept p xs (suc m) → AllKept p (remove xs m) m
  kept-removed xs m kept = ap (filter p) (drop-removed xs m) ∙ (kept ∙ sym (drop-removed xs m))

  pub kept-more : (xs : List A) (m : ℕ) (d : A) → m < length xs → p (get_or xs m d) ≡ true → AllKept p xs (suc m) → AllKept p xs m
  kept-more [] m d within keeps kept = absurd (omega (arith, within))
  kept-more (x ∷ xs) zero d within keeps kept = rw keeps (ap (λ ys. x ∷ ys) kept)
  kept-more (x ∷ xs) (suc m) d within keeps kept = kept-more xs m d (omega (arith, within)) keeps kept

  pub kept-next : (xs : List A) (m : ℕ) (d : A) → m < length xs → p (get_or xs m d) ≡ true → AllKept p xs (m + 1) → AllKept p xs m
  kept-next xs m d within keeps kept = let e : m + 1 ≡ suc m = omega arith in kept-more xs m d within keeps (subst (AllKept p xs) e kept)

-- ---- the one of a name is changed alike

pub updated_found : {A : Type 0} (name : A → List ℕ) (n : List ℕ) (g h : A → A) (xs : List A) (x : A) → found_by name n xs ≡ Some x → g x ≡ h x → updated name n g xs ≡ updated name n h xs
updated_found name n g h [] x found same = refl
updated_found name n g h (y ∷ ys) x found same = by_test (bytes_eq (name y) n) found (λ is. updated_found name n g h ys x is same)
  where
    by_test : (b : Bool) → (if b then Some y else found_by name n ys) ≡ Some x → (found_by name n ys ≡ Some x → updated name n g ys ≡ updated name n h ys) → (if b then g y ∷ ys else y ∷ updated name n g ys) ≡ (if b then h y ∷ ys else y ∷ updated name n h ys)
    by_test true found later = ap (λ z. z ∷ ys) (ap g (some_is found) ∙ (same ∙ ap h (sym (some_is found))))
    by_test false found later = ap (λ zs. y ∷ zs) (later found)

-- ---- where a member is put

-- an index stands before the first member whose window begins later
pub insert_here : (is : List HeldIndex) (i : HeldIndex) (ms : List (List ℕ)) (k : ℕ) (m : List ℕ) → k < length ms → m ≡ get_or ms k m → with_found (facts_named m is) false (λ j. int_lt i.start j.start) ≡ true →
    insert_member is i (drop k ms) ≡ i.name ∷ drop k ms
insert_here is i [] k m within at later = absurd (omega (arith, within))
insert_here is i (x ∷ ms) zero m within at later = rw (ap (λ n. with_found (facts_named n is) false (λ j. int_lt i.start j.start)) (sym at) ∙ later) refl
insert_here is i (x ∷ ms) (suc k) m within at later = insert_here is i ms k m (omega (arith, within)) at later

-- behind a member whose window begins no later
pub insert_further : (is : List HeldIndex) (i : HeldIndex) (ms : List (List ℕ)) (k : ℕ) (m : List ℕ) → k < length ms → m ≡ get_or ms k m → with_found (facts_named m is) false (λ j. int_lt i.start j.start) ≡ false →
    take k ms ++ insert_member is i (drop k ms) ≡ take (k + 1) ms ++ insert_member is i (drop (k + 1) ms)
insert_further is i ms k m within at sooner = rw add-one (go ms k within at)
  where
    go : (ms : List (List ℕ)) (k : ℕ) → k < length ms → m ≡ get_or ms k m → take k ms ++ insert_member is i (drop k ms) ≡ take (suc k) ms ++ insert_member is i (drop (suc k) ms)
    go [] k within at = absurd (omega (arith, within))
    go (x ∷ ms) zero within at = rw (ap (λ n. with_found (facts_named n is) false (λ j. int_lt i.start j.start)) (sym at) ∙ sooner) refl
    go (x ∷ ms) (suc k) within at = ap (λ ns. x ∷ ns) (go ms k (omega (arith, within)) at)

-- ---- lists by names stay so

pub names_mapped : {A : Type 0} (name : A → List ℕ) (g : A → A) (xs : List A) → ((x : A) → name (g x) ≡ name x) → map name (map g xs) ≡ map name xs
names_mapped name g [] keeps = refl
names_mapped name g (x ∷ xs) keeps = rw (keeps x, names_mapped name g xs keeps) refl
