-- The paths of a document's leaves.
use Rattle.std.specs.Prelude.{◌≢◌, ◌↔◌, ℕ, List, [], ◌∷◌, Option, Some, None, Contains}
use Rattle.std.specs.BTreeSet.{insert_key}
use Rattle.std.specs.Cmp.Lexicographic.{slice_cmp}
use Rattle.std.specs.List.Sorted.{IsStrictlySortedBy}
use Rattle.std.specs.Ordering.{nat_cmp}
use Rattle.serde_json.specs.Data.{Data}
use Rattle.json_walk.specs.Leaves.{leaves_of}

-- these are the paths with leaves, ascending by bytes and each once
pub record AreLeafPaths (stops : List (List ℕ)) (d : Data) (paths : List (List ℕ)) : Type 0 where
  pub ascending : IsStrictlySortedBy (slice_cmp nat_cmp) paths
  pub exact : (p : List ℕ) → Contains paths p ↔ (leaves_of stops d p ≢ [])

-- the paths, and that of a place; for private clauses
abbrev pub with_path : List (List ℕ) → Option (List ℕ) → List (List ℕ)
with_path paths None = paths
with_path paths (Some path) = insert_key (slice_cmp nat_cmp) paths path

-- the paths, and those of the leaves in their places; for private clauses
abbrev pub with_paths : List (List ℕ) → List (List ℕ × Data) → List (List ℕ)
with_paths paths [] = paths
with_paths paths (e ∷ es) = with_paths (insert_key (slice_cmp nat_cmp) paths e.0) es
