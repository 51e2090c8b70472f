use Rattle.tsds_index.specs.Segments.{AreOfSchema}
use Rattle.probe_index.proofs.filling.segments_of.Given as goal

abbrev pub invariant-loop-shard : goal.invariant-loop-shard
invariant-loop-shard l = AreOfSchema l.schema l.segments.items
