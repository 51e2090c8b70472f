use Rattle.std.proofs.Common.{◌≡◌, map, ◌≤◌, drop, length}
use Rattle.serde_json.specs.View.{members_view}
use Rattle.json_walk.specs.Names.{are_names}
use Rattle.json_walk.proofs.names.are_named.Given as goal

-- the names that are left answer for all of them
abbrev pub invariant-loop-name : goal.invariant-loop-name
invariant-loop-name l = record {
  within : l.at ≤ length l.names;
  same : are_names (map (λ n. n.now) (drop l.at l.names)) (members_view l.name-iterator) ≡ are_names (map (λ n. n.now) l.names) (members_view l.members.entries);
}
