-- What single values of a body say.
use Rattle.std.specs.Prelude.{ℕ, Bool, true, false, List, [], ◌++◌, bytes_eq, Option, Some, None, option_and_then}
use Rattle.serde_json.specs.Data.{Data, null, boolean, number, string, array, object, no_items, item, Members, no_members, member}
use Rattle.serde_json.specs.Find.{get}
use Rattle.json_walk.specs.Path.{below}
use Rattle.ts_mapping.specs.Least.{fault_unless}
use Rattle.ts_mapping.specs.Paths.{is_among}

abbrev pub is_flag : Data → Bool
is_flag null = false
is_flag (boolean b) = true
is_flag (number n) = false
is_flag (string s) = false
is_flag (array ds) = false
is_flag (object ms) = false

-- the value is this text
abbrev pub is_text : List ℕ → Data → Bool
is_text text null = false
is_text text (boolean b) = false
is_text text (number n) = false
is_text text (string s) = bytes_eq s text
is_text text (array ds) = false
is_text text (object ms) = false

-- the value is a list without elements
abbrev pub is_empty_list : Data → Bool
is_empty_list null = false
is_empty_list (boolean b) = false
is_empty_list (number n) = false
is_empty_list (string s) = false
is_empty_list (array no_items) = true
is_empty_list (array (item d ds)) = false
is_empty_list (object ms) = false

-- a member that has to be there, and passes a test
abbrev pub has_to_be : (Data → Bool) → Option Data → Bool
has_to_be test None = false
has_to_be test (Some d) = test d

-- a member that passes a test where it is there
abbrev pub may_be : (Data → Bool) → Option Data → Bool
may_be test None = true
may_be test (Some d) = test d

-- a member of a value that may be absent itself
abbrev pub member_of : List ℕ → Option Data → Option Data
member_of name d = option_and_then (get name) d

-- the members that have none of these names, by their places
abbrev pub unknown_members : List (List ℕ) → Option (List ℕ) → Members → List (List ℕ)
unknown_members known here no_members = []
unknown_members known here (member s d ms) = fault_unless (is_among s known) (below here s) ++ unknown_members known here ms

abbrev pub unknown_in : List (List ℕ) → Option (List ℕ) → Data → List (List ℕ)
unknown_in known here null = []
unknown_in known here (boolean b) = []
unknown_in known here (number n) = []
unknown_in known here (string s) = []
unknown_in known here (array ds) = []
unknown_in known here (object ms) = unknown_members known here ms
