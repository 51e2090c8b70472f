-- All leaves of a value, in the order in which a walk comes to them; for private clauses.
use Rattle.std.specs.Prelude.{ℕ, List, [], ◌∷◌, ◌++◌, if◌then◌else◌, Option, Some, None}
use Rattle.serde_json.specs.Data.{Data, null, boolean, number, string, array, object, Items, no_items, item, Members, no_members, member}
use Rattle.json_walk.specs.Path.{below, is_stop}

abbrev pub placed : Option (List ℕ) → Data → List (List ℕ × Data)
placed None d = []
placed (Some q) d = (q, d) ∷ []

abbrev pub placed_object : Option (List ℕ) → Members → List (List ℕ × Data)
placed_object here no_members = []
placed_object here (member k d ms) = placed here (object (member k d ms))

abbrev mutual
  pub listed : List (List ℕ) → Option (List ℕ) → Data → List (List ℕ × Data)
  listed stops here null = []
  listed stops here (boolean b) = placed here (boolean b)
  listed stops here (number n) = placed here (number n)
  listed stops here (string s) = placed here (string s)
  listed stops here (array ds) = listed_items stops here ds
  listed stops here (object ms) = if is_stop stops here then placed_object here ms else listed_members stops here ms

  pub listed_items : List (List ℕ) → Option (List ℕ) → Items → List (List ℕ × Data)
  listed_items stops here no_items = []
  listed_items stops here (item d ds) = listed stops here d ++ listed_items stops here ds

  pub listed_members : List (List ℕ) → Option (List ℕ) → Members → List (List ℕ × Data)
  listed_members stops here no_members = []
  listed_members stops here (member s d ms) = listed stops (Some (below here s)) d ++ listed_members stops here ms
