-- An action line names a stream.
use Rattle.std.proofs.Common.{◌≡◌, ℕ, List, [], ◌∷◌, Bool, true, false, cond, Option, Some, None, option_map, option_and_then, refl, sym, subst, ◌∙◌}
use Rattle.std.specs.Prelude.{codes, IsTrue}
use Rattle.serde_json.specs.Data.{Data}
use Rattle.serde_json.specs.Find.{get, as_str}
use Rattle.json_walk.specs.Names.{has_names}
use Rattle.json_walk.specs.Tree.{tree_of}
use Rattle.index_names.specs.Names.{is_stream_name}
use Rattle.bulk_json.specs.Actions.{action_name, action_in, named, stream_in, asked_by, asked_in, asked_of}
use Rattle.bulk_json.specs.Sound.{IsPath}
use Rattle.bulk_json.specs.declared.action.Action.{Action}
use Rattle.bulk_json.specs.declared.action.Asked.{Asked}

named_so : (o : Option (List ℕ)) → IsPath (named o)
named_so None = tt
named_so (Some name) = go (is_stream_name name) refl
  where
    go : (v : Bool) → is_stream_name name ≡ v → IsPath (cond v (Some name) None)
    go true is = is
    go false is = tt

stream_so : (path : Option (List ℕ)) (inner : Data) → IsPath path → IsPath (stream_in path inner)
unfolding stream_in
stream_so path inner is = go (has_names [] inner) (has_names (codes "_index" ∷ []) inner)
  where
    go : (v w : Bool) → IsPath (cond v path (cond w (named (option_and_then as_str (get (codes "_index") inner))) None))
    go true w = is
    go false true = named_so (option_and_then as_str (get (codes "_index") inner))
    go false false = tt

abbrev IsOfStream : Option Asked → Type 0
IsOfStream None = Unit {0}
IsOfStream (Some asked) = IsTrue (is_stream_name asked.stream)

by_so : (path : Option (List ℕ)) (action : Action) (o : Option Data) → IsPath path → IsOfStream (asked_by path action o)
by_so path action None is = tt
by_so path action (Some inner) is = go (stream_in path inner) (stream_so path inner is)
  where
    go : (s : Option (List ℕ)) → IsPath s → IsOfStream (option_map (λ stream. record { action = action; stream = stream }) s)
    go None is = tt
    go (Some s) is = is

in_so : (path : Option (List ℕ)) (tree : Data) → IsPath path → IsOfStream (asked_in path tree)
in_so path tree is = go (action_in tree)
  where
    go : (o : Option Action) → IsOfStream (option_and_then (λ action. asked_by path action (get (action_name action) tree)) o)
    go None = tt
    go (Some action) = by_so path action (get (action_name action) tree) is

of_so : (path : Option (List ℕ)) (line : List ℕ) → IsPath path → IsOfStream (asked_of path line)
unfolding asked_of
of_so path line is = go (tree_of line)
  where
    go : (o : Option Data) → IsOfStream (option_and_then (asked_in path) o)
    go None = tt
    go (Some tree) = in_so path tree is

-- the stream of an action line under such a path is a stream's name
pub asked_stream : (path : Option (List ℕ)) (line : List ℕ) (found : Option Asked) (asked : Asked) → IsPath path → found ≡ asked_of path line → found ≡ Some asked → IsTrue (is_stream_name asked.stream)
asked_stream path line found asked is told some = subst IsOfStream (sym told ∙ some) (of_so path line is)
