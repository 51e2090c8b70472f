use Rattle.std.proofs.Common.{◌≡◌, List, length}
use Rattle.row_cells.specs.Dimensions.{AreDimensions, Dimension, key_bytes}
use Rattle.shard_route.specs.Routing.{Ascend, routing_paths}
use Rattle.shard_route.specs.RoutingLaws.{Walked}
use Rattle.shard_route.proofs.routing.routing_hash.Given as goal

abbrev pub invariant-loop-entry : goal.invariant-loop-entry
invariant-loop-entry l = record {
  ascend : Ascend (routing_paths l.fields l.left);
  walked : (ds : List Dimension) → AreDimensions ds → key_bytes ds ≡ l.fn.bytes → Walked (routing_paths l.fields l.left) (routing_paths l.fields l.fn.places) l.hash l.rest ds;
}

abbrev pub decreases-loop-entry : goal.decreases-loop-entry
decreases-loop-entry l = length l.rest
