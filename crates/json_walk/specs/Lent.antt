-- Leaves that are lent, and what is left of a path in memory.
use Rattle.std.specs.Prelude.{ℕ, List, Option, Some, None, map, option_map}
use Rattle.std.specs.Borrow.{Bor}
use Rattle.serde_json.specs.Data.{Data}
use Rattle.serde_json.specs.View.{view}
use Rattle.json_walk.specs.Path.{Path, end, text}
use Rattle.json_walk.specs.declared.at.Leaf.{Leaf}

-- the leaf's value
abbrev pub value_of : Leaf → Option Data
value_of l = option_map (λ v. view v.now) l.value

abbrev pub lent : List Leaf → List (Option Data)
lent = map value_of

abbrev pub rest_path : Option (Bor (List ℕ)) → Path
rest_path None = end
rest_path (Some rest) = text rest.now

abbrev pub bytes_of : Option (Bor (List ℕ)) → Option (List ℕ)
bytes_of here = option_map (λ h. h.now) here
