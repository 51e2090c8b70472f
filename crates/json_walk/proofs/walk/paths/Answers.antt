use Rattle.std.proofs.Common.{◌≡◌, ◌≢◌, ◌↔◌, [], sym, ap₂, ◌∙◌, subst}
use Rattle.std.specs.Prelude.{Contains, None}
use Rattle.serde_json.specs.View.{view}
use Rattle.json_walk.specs.Leaves.{leaves_of}
use Rattle.json_walk.specs.Listed.{listed}
use Rattle.json_walk.specs.Paths.{with_paths}
use Rattle.json_walk.specs.WalkLaws.{listed_are_leaves}
use Rattle.json_walk.proofs.Ascending.{are_leaf_paths}
use Rattle.json_walk.proofs.walk.paths.Goals as goal

pub returns : goal.returns
returns c =
    let stops = c.args.stops.now in
    let d = view c.args.doc.now in
    let all : c.in_ok-paths.paths.items ≡ with_paths [] (listed stops None d) =
    c.in_ok-paths.ensures.keys ∙ (c.in_ok-walk.ensures.paths ∙ ap₂ (λ ks p. with_paths ks (listed stops p d)) c.new-sorted.ensures.empty c.in_ok-place.ensures) in record {
      ascending = c.in_ok-paths.ensures.ascending;
      exact = λ p. subst (λ ks. Contains ks p ↔ (leaves_of stops d p ≢ [])) (sym all) (are_leaf_paths stops d (listed stops None d) (listed_are_leaves stops d) p);
    }
