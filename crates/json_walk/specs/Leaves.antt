-- The leaves of a document at a path.
use Rattle.std.specs.Prelude.{◌≡◌, ℕ, List, [], ◌∷◌, ◌++◌, if◌then◌else◌, Option, Some, None, map, filter, bytes_eq}
use Rattle.serde_json.specs.Data.{Data, null, boolean, number, string, array, object, Items, no_items, item, Members, no_members, member}
use Rattle.json_walk.specs.Path.{Path, end, text, behind, below, is_stop}

-- a leaf stands at the end of the path
abbrev pub leaf : Data → Path → List Data
leaf d end = d ∷ []
leaf d (text t) = []

-- an object that is taken whole is a leaf, unless it is empty
abbrev pub whole_object : Members → Path → List Data
whole_object no_members p = []
whole_object (member k d ms) p = leaf (object (member k d ms)) p

-- what an answer gives, and nothing where there is none
abbrev pub given : (Path → List Data) → Option Path → List Data
given f None = []
given f (Some p) = f p

-- The leaves at a path from a value that stands `here`. The elements of an array are joined, and so are
-- the members of an object whose names begin the path, in byte order of the names. Null and what is empty
-- have none. An object at a stop is a leaf, and hides what is below it.
abbrev mutual
  pub at : List (List ℕ) → Option (List ℕ) → Data → Path → List Data
  at stops here null p = []
  at stops here (boolean b) p = leaf (boolean b) p
  at stops here (number n) p = leaf (number n) p
  at stops here (string s) p = leaf (string s) p
  at stops here (array ds) p = at_items stops here ds p
  at stops here (object ms) p = if is_stop stops here then whole_object ms p else at_members stops here ms p

  pub at_items : List (List ℕ) → Option (List ℕ) → Items → Path → List Data
  at_items stops here no_items p = []
  at_items stops here (item d ds) p = at stops here d p ++ at_items stops here ds p

  pub at_members : List (List ℕ) → Option (List ℕ) → Members → Path → List Data
  at_members stops here no_members p = []
  at_members stops here (member s d ms) p = given (λ r. at stops (Some (below here s)) d r) (behind s p) ++ at_members stops here ms p

-- the leaves of a document at the path
unfoldable pub leaves_of : List (List ℕ) → Data → List ℕ → List Data
leaves_of stops d p = at stops None d (text p)

-- of leaves with their paths, those at the path
abbrev pub placed_at : List ℕ → List (List ℕ × Data) → List Data
placed_at p es = map (λ e. e.1) (filter (λ e. bytes_eq e.0 p) es)

-- these are the leaves of the document, each with its path
unfoldable pub AreLeaves : List (List ℕ) → Data → List (List ℕ × Data) → Type 0
AreLeaves stops d es = (p : List ℕ) → placed_at p es ≡ leaves_of stops d p
