-- Changes by name of indices and of the rows beside them.
use Rattle.std.specs.Prelude.{◌≡◌, ℕ, Bool, true, false, cond, List, [], ◌∷◌, map, filter, Option, Some, None, if◌then◌else◌, bytes_eq}
use Rattle.std.specs.Ordering.{is_le, nat_cmp}
use Rattle.std.specs.Cmp.Lexicographic.{slice_cmp}
use Rattle.std.proofs.Common.{refl, ap, ◌∙◌, sym, subst}
use Rattle.row_cells.specs.declared.rows.Row.{Row}
use Rattle.stream_catalog.specs.declared.facts.HeldIndex.{HeldIndex}
use Rattle.stream_catalog.specs.declared.held_rows.HeldRows.{HeldRows}
use Rattle.stream_catalog.specs.Beside.{AreBeside, AreRowsBy, catalog_of, index_of, joined, rows_name}
use Rattle.stream_catalog.specs.Lists.{facts_name, found_by, index_name, inserted, updated}
use Rattle.stream_catalog.specs.Plain.{PlainIndex, PlainFacts, facts_of}
use Rattle.stream_catalog.specs.RowChanges.{IsChange}

-- ---- the facts come back

joined_facts : (is : List HeldIndex) (xs : List HeldRows) → AreBeside is xs → map (λ (p : PlainIndex). p.facts) (joined is xs) ≡ is
joined_facts [] [] all = refl
joined_facts (i ∷ is) (x ∷ xs) all = ap (λ js. i ∷ js) (joined_facts is xs all.1)
joined_facts [] (x ∷ xs) all = absurd all
joined_facts (i ∷ is) [] all = absurd all

pub facts_back : (f : PlainFacts) (xs : List HeldRows) → AreBeside f.indices xs → facts_of (catalog_of f xs) ≡ f
facts_back f xs all = ap (λ is. record f { indices = is }) (joined_facts f.indices xs all)

-- ---- one more

-- rows stand before others where their indices do
before_alike : (i j : HeldIndex) (x y : HeldRows) → AreRowsBy i x → AreRowsBy j y → is_le (slice_cmp nat_cmp (rows_name x) (rows_name y)) ≡ is_le (slice_cmp nat_cmp (facts_name i) (facts_name j))
before_alike i j x y one other = ap (λ n. is_le (slice_cmp nat_cmp n y.name)) one.name ∙ ap (λ n. is_le (slice_cmp nat_cmp i.name n)) other.name

pub inserted_beside : (i : HeldIndex) (x : HeldRows) (is : List HeldIndex) (xs : List HeldRows) → AreRowsBy i x → AreBeside is xs → AreBeside (inserted facts_name i is) (inserted rows_name x xs)
inserted_beside i x [] [] one all = (one, tt)
inserted_beside i x [] (y ∷ xs) one all = absurd all
inserted_beside i x (j ∷ is) [] one all = absurd all
inserted_beside i x (j ∷ is) (y ∷ xs) one all =
    let test = is_le (slice_cmp nat_cmp (facts_name i) (facts_name j)) in
    subst (λ b. AreBeside (if test then i ∷ j ∷ is else j ∷ inserted facts_name i is) (if b then x ∷ y ∷ xs else y ∷ inserted rows_name x xs)) (sym (before_alike i j x y one all.0))
    (by_test test (inserted_beside i x is xs one all.1))
  where
    by_test : (b : Bool) → AreBeside (inserted facts_name i is) (inserted rows_name x xs)
        → AreBeside (if b then i ∷ j ∷ is else j ∷ inserted facts_name i is) (if b then x ∷ y ∷ xs else y ∷ inserted rows_name x xs)
    by_test true later = (one, all)
    by_test false later = (all.0, later)

pub joined_inserted : (i : HeldIndex) (x : HeldRows) (is : List HeldIndex) (xs : List HeldRows) → AreRowsBy i x → AreBeside is xs →
    joined (inserted facts_name i is) (inserted rows_name x xs) ≡ inserted index_name (index_of i x) (joined is xs)
joined_inserted i x [] [] one all = refl
joined_inserted i x [] (y ∷ xs) one all = absurd all
joined_inserted i x (j ∷ is) [] one all = absurd all
joined_inserted i x (j ∷ is) (y ∷ xs) one all =
    let test = is_le (slice_cmp nat_cmp (facts_name i) (facts_name j)) in
    ap (λ b. joined (if test then i ∷ j ∷ is else j ∷ inserted facts_name i is) (if b then x ∷ y ∷ xs else y ∷ inserted rows_name x xs)) (before_alike i j x y one all.0)
    ∙ by_test test (joined_inserted i x is xs one all.1)
  where
    by_test : (b : Bool) → joined (inserted facts_name i is) (inserted rows_name x xs) ≡ inserted index_name (index_of i x) (joined is xs)
        → joined (if b then i ∷ j ∷ is else j ∷ inserted facts_name i is) (if b then x ∷ y ∷ xs else y ∷ inserted rows_name x xs)
        ≡ (if b then index_of i x ∷ index_of j y ∷ joined is xs else index_of j y ∷ inserted index_name (index_of i x) (joined is xs))
    by_test true later = refl
    by_test false later = ap (λ ps. index_of j y ∷ ps) later

-- ---- some of them, by a test of names

module _ (test : List ℕ → Bool) where
  pub filtered_beside : (is : List HeldIndex) (xs : List HeldRows) → AreBeside is xs → AreBeside (filter (λ i. test (facts_name i)) is) (filter (λ x. test (rows_name x)) xs)
  filtered_beside [] [] all = tt
  filtered_beside [] (x ∷ xs) all = absurd all
  filtered_beside (i ∷ is) [] all = absurd all
  filtered_beside (i ∷ is) (x ∷ xs) all =
      let left = filter (λ j. test (facts_name j)) is in
      subst (λ b. AreBeside (cond (test i.name) (i ∷ left) left) (cond b (x ∷ filter (λ y. test (rows_name y)) xs) (filter (λ y. test (rows_name y)) xs))) (sym (ap test all.0.name))
      (by_test (test i.name) (filtered_beside is xs all.1))
    where
      by_test : (b : Bool) → AreBeside (filter (λ j. test (facts_name j)) is) (filter (λ y. test (rows_name y)) xs)
          → AreBeside (cond b (i ∷ filter (λ j. test (facts_name j)) is) (filter (λ j. test (facts_name j)) is)) (cond b (x ∷ filter (λ y. test (rows_name y)) xs) (filter (λ y. test (rows_name y)) xs))
      by_test true later = (all.0, later)
      by_test false later = later

  pub joined_filtered : (is : List HeldIndex) (xs : List HeldRows) → AreBeside is xs →
      joined (filter (λ i. test (facts_name i)) is) (filter (λ x. test (rows_name x)) xs) ≡ filter (λ p. test (index_name p)) (joined is xs)
  joined_filtered [] [] all = refl
  joined_filtered [] (x ∷ xs) all = absurd all
  joined_filtered (i ∷ is) [] all = absurd all
  joined_filtered (i ∷ is) (x ∷ xs) all =
      let left = filter (λ j. test (facts_name j)) is in
      ap (λ b. joined (cond (test i.name) (i ∷ left) left) (cond b (x ∷ filter (λ y. test (rows_name y)) xs) (filter (λ y. test (rows_name y)) xs))) (ap test all.0.name)
      ∙ by_test (test i.name) (joined_filtered is xs all.1)
    where
      by_test : (b : Bool) → joined (filter (λ j. test (facts_name j)) is) (filter (λ y. test (rows_name y)) xs) ≡ filter (λ p. test (index_name p)) (joined is xs)
          → joined (cond b (i ∷ filter (λ j. test (facts_name j)) is) (filter (λ j. test (facts_name j)) is)) (cond b (x ∷ filter (λ y. test (rows_name y)) xs) (filter (λ y. test (rows_name y)) xs))
          ≡ cond b (index_of i x ∷ filter (λ p. test (index_name p)) (joined is xs)) (filter (λ p. test (index_name p)) (joined is xs))
      by_test true later = ap (λ ps. index_of i x ∷ ps) later
      by_test false later = later

-- ---- one changed

module _ (n : List ℕ) (g : HeldIndex → HeldIndex) where
  pub updated_beside : ((i : HeldIndex) → (g i).name ≡ i.name) → ((i : HeldIndex) → (g i).mapping.schema ≡ i.mapping.schema) → (is : List HeldIndex) (xs : List HeldRows) → AreBeside is xs →
      AreBeside (updated facts_name n g is) xs
  updated_beside name schema [] [] all = tt
  updated_beside name schema [] (x ∷ xs) all = absurd all
  updated_beside name schema (i ∷ is) [] all = absurd all
  updated_beside name schema (i ∷ is) (x ∷ xs) all = by_test (bytes_eq i.name n) (updated_beside name schema is xs all.1)
    where
      by_test : (b : Bool) → AreBeside (updated facts_name n g is) xs → AreBeside (if b then g i ∷ is else i ∷ updated facts_name n g is) (x ∷ xs)
      by_test true later = (record { name = all.0.name ∙ sym (name i); schema = all.0.schema ∙ sym (schema i) }, all.1)
      by_test false later = (all.0, later)

  pub joined_updated : (h : PlainIndex → PlainIndex) → ((i : HeldIndex) (x : HeldRows) → index_of (g i) x ≡ h (index_of i x)) → (is : List HeldIndex) (xs : List HeldRows) → AreBeside is xs →
      joined (updated facts_name n g is) xs ≡ updated index_name n h (joined is xs)
  joined_updated h same [] [] all = refl
  joined_updated h same [] (x ∷ xs) all = absurd all
  joined_updated h same (i ∷ is) [] all = absurd all
  joined_updated h same (i ∷ is) (x ∷ xs) all = by_test (bytes_eq i.name n) (joined_updated h same is xs all.1)
    where
      by_test : (b : Bool) → joined (updated facts_name n g is) xs ≡ updated index_name n h (joined is xs)
          → joined (if b then g i ∷ is else i ∷ updated facts_name n g is) (x ∷ xs) ≡ (if b then h (index_of i x) ∷ joined is xs else index_of i x ∷ updated index_name n h (joined is xs))
      by_test true later = ap (λ p. p ∷ joined is xs) (same i x)
      by_test false later = ap (λ ps. index_of i x ∷ ps) later

-- ---- rows of one changed

-- an index with other rows
abbrev pub with_rows : (List Row → List Row) → PlainIndex → PlainIndex
with_rows h i = record i { rows = h i.rows }

rows_changed : (h : List Row → List Row) (i : HeldIndex) (old new : HeldRows) → IsChange h old new → index_of i new ≡ with_rows h (index_of i old)
rows_changed h i old new change = ap (λ rows. record { facts = i; rows = rows }) change.rows

module _ (n : List ℕ) (new : HeldRows) (h : List Row → List Row) where
  -- a test of names is the same of rows and of their index
  same_test : (i : HeldIndex) (x : HeldRows) → AreRowsBy i x → bytes_eq (rows_name x) n ≡ bytes_eq (facts_name i) n
  same_test i x one = ap (λ m. bytes_eq m n) one.name

  pub changed_beside : (is : List HeldIndex) (xs : List HeldRows) → AreBeside is xs → ((x : HeldRows) → found_by rows_name n xs ≡ Some x → IsChange h x new) → AreBeside is (updated rows_name n (λ x. new) xs)
  changed_beside [] [] all change = tt
  changed_beside [] (x ∷ xs) all change = absurd all
  changed_beside (i ∷ is) [] all change = absurd all
  changed_beside (i ∷ is) (x ∷ xs) all change = by_test (bytes_eq (rows_name x) n) (λ found. changed_beside is xs all.1 found) change
    where
      by_test : (b : Bool) → (((y : HeldRows) → found_by rows_name n xs ≡ Some y → IsChange h y new) → AreBeside is (updated rows_name n (λ y. new) xs))
          → ((y : HeldRows) → (if b then Some x else found_by rows_name n xs) ≡ Some y → IsChange h y new)
          → AreBeside (i ∷ is) (if b then new ∷ xs else x ∷ updated rows_name n (λ y. new) xs)
      by_test true later change = (record { name = (change x refl).name ∙ all.0.name; schema = (change x refl).schema ∙ all.0.schema }, all.1)
      by_test false later change = (all.0, later change)

  pub joined_changed : (is : List HeldIndex) (xs : List HeldRows) → AreBeside is xs → ((x : HeldRows) → found_by rows_name n xs ≡ Some x → IsChange h x new) →
      joined is (updated rows_name n (λ x. new) xs) ≡ updated index_name n (with_rows h) (joined is xs)
  joined_changed [] [] all change = refl
  joined_changed [] (x ∷ xs) all change = absurd all
  joined_changed (i ∷ is) [] all change = absurd all
  joined_changed (i ∷ is) (x ∷ xs) all change =
      by_test (bytes_eq (rows_name x) n) (λ found. joined_changed is xs all.1 found) change
      ∙ ap (λ b. if b then with_rows h (index_of i x) ∷ joined is xs else index_of i x ∷ updated index_name n (with_rows h) (joined is xs)) (same_test i x all.0)
    where
      by_test : (b : Bool) → (((y : HeldRows) → found_by rows_name n xs ≡ Some y → IsChange h y new) → joined is (updated rows_name n (λ y. new) xs) ≡ updated index_name n (with_rows h) (joined is xs))
          → ((y : HeldRows) → (if b then Some x else found_by rows_name n xs) ≡ Some y → IsChange h y new)
          → joined (i ∷ is) (if b then new ∷ xs else x ∷ updated rows_name n (λ y. new) xs) ≡ (if b then with_rows h (index_of i x) ∷ joined is xs else index_of i x ∷ updated index_name n (with_rows h) (joined is xs))
      by_test true later change = ap (λ p. p ∷ joined is xs) (rows_changed h i x new (change x refl))
      by_test false later change = ap (λ ps. index_of i x ∷ ps) (later change)

-- ---- what is found

-- an index and its rows are found together, or neither
abbrev pub AreFound : Option HeldIndex → Option HeldRows → Option PlainIndex → Type 0
AreFound None None None = Unit {0}
AreFound (Some i) (Some x) (Some p) = AreRowsBy i x × (p ≡ index_of i x)
AreFound i x p = ⊥

pub found_beside : (n : List ℕ) (is : List HeldIndex) (xs : List HeldRows) → AreBeside is xs → AreFound (found_by facts_name n is) (found_by rows_name n xs) (found_by index_name n (joined is xs))
found_beside n [] [] all = tt
found_beside n [] (x ∷ xs) all = absurd all
found_beside n (i ∷ is) [] all = absurd all
found_beside n (i ∷ is) (x ∷ xs) all =
    let test = bytes_eq i.name n in
    subst (λ b. AreFound (if test then Some i else found_by facts_name n is) (if b then Some x else found_by rows_name n xs) (if test then Some (index_of i x) else found_by index_name n (joined is xs)))
    (sym (ap (λ m. bytes_eq m n) all.0.name)) (by_test test (found_beside n is xs all.1))
  where
    by_test : (b : Bool) → AreFound (found_by facts_name n is) (found_by rows_name n xs) (found_by index_name n (joined is xs))
        → AreFound (if b then Some i else found_by facts_name n is) (if b then Some x else found_by rows_name n xs) (if b then Some (index_of i x) else found_by index_name n (joined is xs))
    by_test true later = (all.0, refl)
    by_test false later = later
