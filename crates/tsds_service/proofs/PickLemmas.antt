-- The member whose window has a time: it is found again by its own name, and is the same in what is seen.
use Rattle.std.specs.Prelude.{◌≡◌, ℕ, ℤ, Bool, true, false, cond, bytes_eq, List, [], ◌∷◌, map, Option, Some, None, if◌then◌else◌}
use Rattle.std.specs.List.{cons_option, filter_map, find}
use Rattle.std.specs.Option.{option_map}
use Rattle.std.proofs.Common.{refl, ap, ◌∙◌, subst, Decides}
use Rattle.std.proofs.lemmas.Slice.Eq.{bytes_eq-Decides}
use Rattle.row_cells.specs.Each.{Each}
use Rattle.stream_catalog.specs.Laws.{LookupsStay}
use Rattle.stream_catalog.specs.Lists.{facts_named, index_named, members_of}
use Rattle.stream_catalog.specs.Plain.{PlainIndex, PlainStream, PlainCatalog}
use Rattle.stream_catalog.specs.Puts.{has_time, member_at}
use Rattle.stream_catalog.specs.Ways.{see_index, see_catalog}

none_not_some : {A : Type 0} {a : A} → None ≡ Some a → ⊥
none_not_some e = cc

some_is : {A : Type 0} {a b : A} → Some a ≡ Some b → a ≡ b
some_is e = cc

-- what is found of a name has it
named_as : (n : List ℕ) (is : List PlainIndex) (i : PlainIndex) → index_named n is ≡ Some i → i.facts.name ≡ n
named_as n [] i found = absurd (none_not_some found)
named_as n (j ∷ js) i found = by_test (bytes_eq j.facts.name n) (bytes_eq-Decides j.facts.name n) found (named_as n js i)
  where
    by_test : (b : Bool) → Decides b (j.facts.name ≡ n) → (if b then Some j else index_named n js) ≡ Some i → (index_named n js ≡ Some i → i.facts.name ≡ n) → i.facts.name ≡ n
    by_test true same found later = subst (λ (k : PlainIndex). k.facts.name ≡ n) (some_is found) (same.0 refl)
    by_test false other found later = later found

pub facts-index : (n : List ℕ) (is : List PlainIndex) → facts_named n (map (λ i. i.facts) is) ≡ option_map (λ i. i.facts) (index_named n is)
facts-index n [] = refl
facts-index n (i ∷ is) = by_test (bytes_eq i.facts.name n) (facts-index n is)
  where
    by_test : (b : Bool) → facts_named n (map (λ j. j.facts) is) ≡ option_map (λ j. j.facts) (index_named n is) →
        (if b then Some i.facts else facts_named n (map (λ j. j.facts) is)) ≡ option_map (λ j. j.facts) (if b then Some i else index_named n is)
    by_test true later = refl
    by_test false later = later

-- ---- members in what is seen

pub members-see : LookupsStay → (c : PlainCatalog) (ns : List (List ℕ)) → filter_map (λ n. index_named n (see_catalog c).indices) ns ≡ map see_index (filter_map (λ n. index_named n c.indices) ns)
members-see lookups c [] = refl
members-see lookups c (n ∷ ns) = ap (λ o. cons_option o (filter_map (λ k. index_named k (see_catalog c).indices) ns)) (lookups c n) ∙ by_found (index_named n c.indices) (members-see lookups c ns)
  where
    by_found : (o : Option PlainIndex) → filter_map (λ k. index_named k (see_catalog c).indices) ns ≡ map see_index (filter_map (λ k. index_named k c.indices) ns) →
        cons_option (option_map see_index o) (filter_map (λ k. index_named k (see_catalog c).indices) ns) ≡ map see_index (cons_option o (filter_map (λ k. index_named k c.indices) ns))
    by_found None later = later
    by_found (Some i) later = ap (λ is. see_index i ∷ is) later

-- the first whose window has a time
abbrev at : ℤ → List PlainIndex → Option PlainIndex
at time is = find (λ i. has_time i.facts time) is

at-see : (time : ℤ) (is : List PlainIndex) → at time (map see_index is) ≡ option_map see_index (at time is)
at-see time [] = refl
at-see time (i ∷ is) = by_test (has_time i.facts time) (at-see time is)
  where
    by_test : (b : Bool) → at time (map see_index is) ≡ option_map see_index (at time is) → cond b (Some (see_index i)) (at time (map see_index is)) ≡ option_map see_index (cond b (Some i) (at time is))
    by_test true later = refl
    by_test false later = later

pub member-see : LookupsStay → (c : PlainCatalog) (time : ℤ) (s : PlainStream) → member_at (see_catalog c) time s ≡ option_map see_index (member_at c time s)
member-see lookups c time s = ap (at time) (members-see lookups c s.facts.members) ∙ at-see time (members_of c s)

-- ---- the member of a time

-- an index is found by its own name
abbrev IsFound : PlainCatalog → PlainIndex → Type 0
IsFound c i = index_named i.facts.name c.indices ≡ Some i

members_found : (c : PlainCatalog) (ns : List (List ℕ)) → Each (IsFound c) (filter_map (λ n. index_named n c.indices) ns)
members_found c [] = tt
members_found c (n ∷ ns) = by_found (index_named n c.indices) refl (members_found c ns)
  where
    by_found : (o : Option PlainIndex) → index_named n c.indices ≡ o → Each (IsFound c) (filter_map (λ k. index_named k c.indices) ns) → Each (IsFound c) (cons_option o (filter_map (λ k. index_named k c.indices) ns))
    by_found None there later = later
    by_found (Some i) there later = (ap (λ m. index_named m c.indices) (named_as n c.indices i there) ∙ there, later)

pub record IsMemberAt (c : PlainCatalog) (time : ℤ) (i : PlainIndex) : Type 0 where
  pub there : index_named i.facts.name c.indices ≡ Some i
  pub within : has_time i.facts time ≡ true

found_at : (c : PlainCatalog) (time : ℤ) (is : List PlainIndex) (i : PlainIndex) → Each (IsFound c) is → at time is ≡ Some i → IsMemberAt c time i
found_at c time [] i each found = absurd (none_not_some found)
found_at c time (j ∷ js) i each found = by_test (has_time j.facts time) refl found (found_at c time js i each.1)
  where
    by_test : (b : Bool) → has_time j.facts time ≡ b → cond b (Some j) (at time js) ≡ Some i → (at time js ≡ Some i → IsMemberAt c time i) → IsMemberAt c time i
    by_test true within found later = subst (IsMemberAt c time) (some_is found) (record { there = each.0; within = within })
    by_test false within found later = later found

pub member_found : (c : PlainCatalog) (s : PlainStream) (time : ℤ) (i : PlainIndex) → member_at c time s ≡ Some i → IsMemberAt c time i
member_found c s time i found = found_at c time (members_of c s) i (members_found c s.facts.members) found
