-- What each item keeps.
use Rattle.std.specs.Prelude.{◌≡◌, ℕ, List, [], ◌∷◌, Option, Some, None, is_some, IsTrue}
use Rattle.index_names.specs.Names.{is_stream_name}
use Rattle.bulk_json.specs.Actions.{takes_source}
use Rattle.bulk_json.specs.declared.items.Item.{Item}

-- its stream has the name of a stream, and it has a source exactly where its action takes one
pub record IsItem (i : Item) : Type 0 where
  pub stream : IsTrue (is_stream_name i.stream)
  pub source : is_some i.source ≡ takes_source i.action

abbrev pub AreItems : List Item → Type 0
AreItems [] = Unit {0}
AreItems (i ∷ is) = IsItem i × AreItems is

-- the path of a bulk request: of none, or of a stream
abbrev pub IsPath : Option (List ℕ) → Type 0
IsPath None = Unit {0}
IsPath (Some name) = IsTrue (is_stream_name name)
