use Rattle.std.proofs.Common.{◌≡◌, ◌-◌, ◌≤◌, replicate, []}
use Rattle.row_cells.specs.Each.{Each}
use Rattle.tsds_index.specs.Shards.{parts_of}
use Rattle.tsds_index.specs.Spread.{no_part}
use Rattle.tsds_index.proofs.shards.empty_shards.Given as goal

abbrev pub invariant-loop-left : goal.invariant-loop-left
invariant-loop-left l = record {
  least : l.left ≤ l.shards;
  parts : parts_of l.made.items ≡ replicate (l.shards - l.left) no_part;
  unsealed : Each (λ shard. shard.sealed.items ≡ []) l.made.items;
}

abbrev pub decreases-loop-left : goal.decreases-loop-left
decreases-loop-left l = l.left
