use Rattle.std.proofs.Common.{◌≡◌}
use Rattle.std.specs.Prelude.{map}
use Rattle.serde_json.specs.View.{members_view}
use Rattle.ts_mapping.specs.Least.{least_with}
use Rattle.ts_mapping.specs.Seen.{bytes_of}
use Rattle.ts_mapping.specs.Trees.{unknown_members}
use Rattle.ts_mapping.proofs.trees.check_members.Given as goal

abbrev pub invariant-loop-name : goal.invariant-loop-name
invariant-loop-name l =
    let known = map (λ n. n.now) l.known in
    least_with l.least (unknown_members known (bytes_of l.here) (members_view l.name-iterator)) ≡ least_with l.initial.least (unknown_members known (bytes_of l.here) (members_view l.members.entries))
