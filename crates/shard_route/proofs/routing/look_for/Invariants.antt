use Rattle.std.proofs.Common.{◌≡◌, length}
use Rattle.shard_route.specs.Routing.{Looked, is_among, routing_paths}
use Rattle.shard_route.proofs.routing.look_for.Given as goal

abbrev pub invariant-loop-place : goal.invariant-loop-place
invariant-loop-place l = record {
  looked : Looked l.path (routing_paths l.fields l.left) (routing_paths l.fields l.fn.places);
  among : is_among l.path (routing_paths l.fields l.left) ≡ is_among l.path (routing_paths l.fields l.fn.places);
}

abbrev pub decreases-loop-place : goal.decreases-loop-place
decreases-loop-place l = length l.left
