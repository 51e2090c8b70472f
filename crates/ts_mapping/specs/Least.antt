-- Paths at fault, and the least of them.
use Rattle.std.specs.Prelude.{◌≡◌, ℕ, Bool, true, false, List, [], ◌∷◌, ◌++◌, Option, Some, None}
use Rattle.std.specs.Cmp.Lexicographic.{slice_cmp}
use Rattle.std.specs.Ordering.{nat_cmp, match_ordering}
use Rattle.std.specs.declared.cmp.Ordering.TheVariants.{Greater}
use Rattle.ts_mapping.specs.Paths.{is_among}

-- the path, where something that has to hold doesn't
abbrev pub fault_unless : Bool → List ℕ → List (List ℕ)
fault_unless true path = []
fault_unless false path = path ∷ []

-- what the elements of a list have at fault, one after the other
abbrev pub all_faults : {T : Type 0} → (T → List (List ℕ)) → List T → List (List ℕ)
all_faults faults [] = []
all_faults faults (x ∷ xs) = faults x ++ all_faults faults xs

-- a path in place of one that is greater in byte order
abbrev pub lesser : Option (List ℕ) → List ℕ → Option (List ℕ)
lesser None p = Some p
lesser (Some q) p = match_ordering (slice_cmp nat_cmp p q) (Some p) (Some q) (Some q)

-- the least of the paths and one that is held
abbrev pub least_with : Option (List ℕ) → List (List ℕ) → Option (List ℕ)
least_with held [] = held
least_with held (p ∷ ps) = least_with (lesser held p) ps

-- the least of some paths in byte order, where there is any
abbrev pub least : List (List ℕ) → Option (List ℕ)
least ps = least_with None ps

-- p doesn't stand behind q in byte order
abbrev pub IsAtMost : List ℕ → List ℕ → Type 0
IsAtMost p q = slice_cmp nat_cmp p q ≡ Greater → ⊥

-- p is the least of the paths: one of them, and behind none of them
pub record IsLeast (ps : List (List ℕ)) (p : List ℕ) : Type 0 where
  pub among : is_among p ps ≡ true
  pub at_most : (q : List ℕ) → is_among q ps ≡ true → IsAtMost p q

-- a place in a body, and the member of that name there
abbrev pub under : List ℕ → List ℕ → List ℕ
under place name = place ++ 46 ∷ name
