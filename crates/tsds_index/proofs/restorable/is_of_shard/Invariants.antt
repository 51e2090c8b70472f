use Rattle.std.proofs.Common.{◌≡◌, ℕ, ◌<◌, [], slice_index_or}
use Rattle.index_segment.specs.Directory.{keys_of}
use Rattle.tsds_index.specs.Sound.{shard_for}
use Rattle.tsds_index.proofs.restorable.is_of_shard.Given as goal

abbrev pub invariant-loop-series : goal.invariant-loop-series
invariant-loop-series l = (k : ℕ) → k < l.series → shard_for l.schema l.shards (slice_index_or (keys_of l.segment.rows) k []) ≡ l.shard
