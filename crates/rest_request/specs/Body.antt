-- What bodies are.
use Rattle.std.specs.Prelude.{ℕ, Bool, false, ◌||◌, nat_eq, List, [], length, if◌then◌else◌, Option, None, Some, option_and_then}
use Rattle.std.specs.Option.{option_map}
use Rattle.serde_json.specs.Data.{Data}
use Rattle.json_walk.specs.Names.{has_names}
use Rattle.json_walk.specs.Shapes.{is_object}
use Rattle.json_walk.specs.Tree.{tree_of}
use Rattle.bulk_json.specs.Lines.{is_blank}

abbrev pub tree_if_object : Data → Option Data
tree_if_object tree = if is_object tree then Some tree else None

-- the object that a body is
unfoldable pub object_of : List ℕ → Option Data
object_of body = option_and_then tree_if_object (tree_of body)

-- the object that a body is, or that it is empty
abbrev pub optional_of : List ℕ → Option (Option Data)
optional_of body = if nat_eq (length body) 0 then Some None else option_map Some (object_of body)

abbrev pub has_no_members : Option Data → Bool
has_no_members None = false
has_no_members (Some tree) = has_names [] tree

-- a body that counts as none: blank, or an object without members
unfoldable pub is_nothing : List ℕ → Bool
is_nothing body = is_blank body || has_no_members (object_of body)
