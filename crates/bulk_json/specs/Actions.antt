-- Action lines of a bulk body.
use Rattle.std.specs.Prelude.{ℕ, Bool, true, false, List, [], ◌∷◌, codes, if◌then◌else◌, Option, Some, None, option_and_then}
use Rattle.std.specs.Option.{option_map}
use Rattle.serde_json.specs.Data.{Data}
use Rattle.serde_json.specs.Find.{get, as_str}
use Rattle.json_walk.specs.Names.{has_names}
use Rattle.json_walk.specs.Tree.{tree_of}
use Rattle.index_names.specs.Names.{is_stream_name}
use Rattle.bulk_json.specs.declared.action.Action.{Action}
use Rattle.bulk_json.specs.declared.action.Action.TheVariants.{Create, Index, Update, Delete}
use Rattle.bulk_json.specs.declared.action.Asked.{Asked}

abbrev pub action_name : Action → List ℕ
action_name Create = codes "create"
action_name Index = codes "index"
action_name Update = codes "update"
action_name Delete = codes "delete"

-- the next line is its source
abbrev pub takes_source : Action → Bool
takes_source Create = true
takes_source Index = true
takes_source Update = true
takes_source Delete = false

-- the action after which the one member of the object is named
abbrev pub action_in : Data → Option Action
action_in tree =
    if has_names (codes "create" ∷ []) tree then Some Create
    else (if has_names (codes "index" ∷ []) tree then Some Index
    else (if has_names (codes "update" ∷ []) tree then Some Update
    else (if has_names (codes "delete" ∷ []) tree then Some Delete
    else None)))

abbrev pub named : Option (List ℕ) → Option (List ℕ)
named None = None
named (Some name) = if is_stream_name name then Some name else None

-- the stream of an action, where the path may have one: that of `_index`, which has no other member beside it
unfoldable pub stream_in : Option (List ℕ) → Data → Option (List ℕ)
stream_in path inner =
    if has_names [] inner then path
    else (if has_names (codes "_index" ∷ []) inner then named (option_and_then as_str (get (codes "_index") inner)) else None)

abbrev pub asked_by : Option (List ℕ) → Action → Option Data → Option Asked
asked_by path action None = None
asked_by path action (Some inner) = option_map (λ stream. record { action = action; stream = stream }) (stream_in path inner)

abbrev pub asked_in : Option (List ℕ) → Data → Option Asked
asked_in path tree = option_and_then (λ action. asked_by path action (get (action_name action) tree)) (action_in tree)

-- what an action line asks, or nothing where the line is none
unfoldable pub asked_of : Option (List ℕ) → List ℕ → Option Asked
asked_of path line = option_and_then (asked_in path) (tree_of line)
