-- What an object's members are called.
use Rattle.std.specs.Prelude.{ℕ, List, [], ◌∷◌, Bool, true, false, ◌&&◌, bytes_eq}
use Rattle.serde_json.specs.Data.{Data, null, boolean, number, string, array, object, Members, no_members, member}

-- the names of the members, in byte order, are these
abbrev pub are_names : List (List ℕ) → Members → Bool
are_names [] no_members = true
are_names [] (member k d ms) = false
are_names (n ∷ ns) no_members = false
are_names (n ∷ ns) (member k d ms) = bytes_eq n k && are_names ns ms

-- an object whose members have these names, and no other
abbrev pub has_names : List (List ℕ) → Data → Bool
has_names ns null = false
has_names ns (boolean b) = false
has_names ns (number n) = false
has_names ns (string s) = false
has_names ns (array ds) = false
has_names ns (object ms) = are_names ns ms
