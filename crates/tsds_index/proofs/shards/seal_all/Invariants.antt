use Rattle.std.proofs.Common.{◌≡◌, length, take}
use Rattle.tsds_index.specs.Kept.{AreSealed, AreShards}
use Rattle.tsds_index.specs.Shards.{parts_of}
use Rattle.tsds_index.specs.Spread.{all_rows}
use Rattle.tsds_index.proofs.Alike.{Alike}
use Rattle.tsds_index.proofs.shards.seal_all.Given as goal

abbrev pub invariant-loop-place : goal.invariant-loop-place
invariant-loop-place l = record {
  shards : AreShards l.schema l.shards.items;
  as_many : length l.shards.items ≡ length l.initial.shards.items;
  rows : Alike (all_rows (parts_of l.shards.items)) (all_rows (parts_of l.initial.shards.items));
  sealed : AreSealed (take l.place l.shards.items);
}
