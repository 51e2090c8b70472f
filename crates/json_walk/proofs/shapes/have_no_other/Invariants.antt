use Rattle.std.proofs.Common.{◌≡◌}
use Rattle.std.specs.Prelude.{map}
use Rattle.serde_json.specs.View.{members_view}
use Rattle.json_walk.specs.Shapes.{are_among}
use Rattle.json_walk.proofs.shapes.have_no_other.Given as goal

abbrev pub invariant-loop-name : goal.invariant-loop-name
invariant-loop-name l = are_among (map (λ n. n.now) l.names) (members_view l.members.entries) ≡ are_among (map (λ n. n.now) l.names) (members_view l.name-iterator)
