-- Sorted lists by insertion; for private clauses.
use Rattle.std.specs.Prelude.{ℕ, List, [], ◌∷◌}
use Rattle.std.specs.BTreeSet.{insert_key}
use Rattle.std.specs.Cmp.Lexicographic.{slice_cmp}
use Rattle.std.specs.Ordering.{nat_cmp, match_ordering}
use Rattle.std.specs.declared.cmp.Ordering.{Ordering}

-- the texts of a set that more are put in
abbrev pub keys_after : List (List ℕ) → List (List ℕ) → List (List ℕ)
keys_after ks [] = ks
keys_after ks (t ∷ ts) = keys_after (insert_key (slice_cmp nat_cmp) ks t) ts

-- a list in order with one element more
abbrev pub put_sorted : {K : Type 0} → (K → K → Ordering) → K → List K → List K
put_sorted cmp k [] = k ∷ []
put_sorted cmp k (x ∷ xs) = match_ordering (cmp k x) (k ∷ x ∷ xs) (k ∷ x ∷ xs) (x ∷ put_sorted cmp k xs)

abbrev pub sorted_after : {K : Type 0} → (K → K → Ordering) → List K → List K → List K
sorted_after cmp ks [] = ks
sorted_after cmp ks (x ∷ xs) = sorted_after cmp (put_sorted cmp x ks) xs
