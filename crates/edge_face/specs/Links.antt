-- Links that an acceptor gives and takes back.
use Rattle.std.specs.Prelude.{◌≡◌, ℕ, List, [], ◌∷◌, ◌++◌, Option, None, Some, MatchOption}
use Rattle.std.specs.Option.{option_map}

-- how a link ended: what it was given and what was left, where it told them, and its faults on both sides
pub record Ended : Type 0 where
  pub given : Option (List ℕ)
  pub left : Option (List ℕ)
  pub take_faults : ℕ
  pub put_faults : ℕ

-- the links that ended, with one more
abbrev pub finished : Option (List Ended) → Ended → Option (List Ended)
finished ended link = option_map (λ links. links ++ link ∷ []) ended

-- the first of the links to come has these bytes, and the others are still to come
pub record IsFirstLink (all : List (List ℕ)) (coming : Option (List (List ℕ))) (left given : Option (List ℕ)) : Type 0 where
  pub bytes : List ℕ
  pub others : List (List ℕ)
  pub first : all ≡ bytes ∷ others
  pub coming_is : coming ≡ Some others
  pub left_is : left ≡ Some bytes
  pub nothing : given ≡ Some []

-- a link is the next one, where the acceptor tells which links come
abbrev pub IsNextLink : Option (List (List ℕ)) → Option (List (List ℕ)) → Option (List ℕ) → Option (List ℕ) → Type 0
IsNextLink old new left given = MatchOption old (new ≡ None) (λ all. IsFirstLink all new left given)
