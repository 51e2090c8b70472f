use Rattle.std.proofs.Common.{◌≡◌, drop}
use Rattle.shard_route.specs.Routing.{fnv_from}
use Rattle.shard_route.proofs.hashing.hash_on.Given as goal

abbrev pub invariant-loop-byte : goal.invariant-loop-byte
invariant-loop-byte l = fnv_from l.hash (drop l.byte-index l.bytes) ≡ fnv_from l.fn.hash l.bytes
