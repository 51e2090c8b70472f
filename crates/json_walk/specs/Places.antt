-- Places on the way through a tree.
use Rattle.std.specs.Prelude.{◌≡◌, ℕ, List, Bool, true, false, Option, Some, None}
use Rattle.json_walk.specs.Path.{below}

-- the place of the tree itself, or of what stands at a path
abbrev pub place_at : Bool → List ℕ → Option (List ℕ)
place_at false path = None
place_at true path = Some path

-- a member of this name stands at the place
abbrev pub IsOfMember : List ℕ → Option (List ℕ) → Type 0
IsOfMember name place = (here : Option (List ℕ)) × (place ≡ Some (below here name))
