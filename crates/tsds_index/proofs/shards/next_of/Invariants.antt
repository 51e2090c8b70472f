use Rattle.std.proofs.Common.{length}
use Rattle.std.specs.Option.{option_copied}
use Rattle.tsds_index.specs.Shards.{parts_of}
use Rattle.tsds_index.specs.Spread.{all_rows}
use Rattle.tsds_index.proofs.Nexts.{LookedAt}
use Rattle.tsds_index.proofs.shards.next_of.Given as goal

abbrev pub invariant-loop-shard : goal.invariant-loop-shard
invariant-loop-shard l = LookedAt (option_copied l.before) (all_rows (parts_of l.shards)) (option_copied l.least) (all_rows (parts_of l.left))

abbrev pub decreases-loop-shard : goal.decreases-loop-shard
decreases-loop-shard l = length l.left
