use Rattle.std.proofs.Common.{to_z, of_z, w64}
use Rattle.std.proofs.lemmas.Int.{to_z-of_z}
use Rattle.tsds_index.proofs.Lodged.{range_distinct, range_known, range_told}
use Rattle.tsds_index.proofs.index.TsdsIndex.read_series.Goals as goal

pub in_order-requires : goal.in_order-requires
in_order-requires c =
    range_distinct c.self.inside.schema c.self.inside.shards.items c.self.invariant.are c.args.self.now c.self.view_is c.args.key.now c.shard_at.result c.shard_at.ensures.is c.shard_at.ensures.within c.index-shard.result.now c.index-shard.ensures (to_z w64 (of_z w64 c.args.from)) (to_z w64 (of_z w64 c.args.to)) c.in_ok-rows.rows.items c.in_ok-rows.ensures

pub returns-clause-is : goal.returns-clause-is
returns-clause-is c =
    range_told c.self.inside.schema c.self.inside.shards.items c.self.invariant.are c.args.self.now c.self.view_is c.args.key.now c.shard_at.result c.shard_at.ensures.is c.shard_at.ensures.within c.index-shard.result.now c.index-shard.ensures c.args.from c.args.to (to_z w64 (of_z w64 c.args.from)) (to_z w64 (of_z w64 c.args.to)) c.in_ok-rows.rows.items c.in_ok-rows-2.rows.items (to_z-of_z w64 c.args.from c.ranges.from) (to_z-of_z w64 c.args.to c.ranges.to) c.in_ok-rows.ensures c.in_ok-rows-2.ensures

pub returns-clause-rows : goal.returns-clause-rows
returns-clause-rows c =
    range_known c.self.inside.schema c.self.inside.shards.items c.self.invariant.are c.args.self.now c.self.view_is c.args.key.now c.shard_at.result c.shard_at.ensures.is c.shard_at.ensures.within c.index-shard.result.now c.index-shard.ensures c.args.from c.args.to (to_z w64 (of_z w64 c.args.from)) (to_z w64 (of_z w64 c.args.to)) c.in_ok-rows.rows.items c.in_ok-rows-2.rows.items (to_z-of_z w64 c.args.from c.ranges.from) (to_z-of_z w64 c.args.to c.ranges.to) c.in_ok-rows.ensures c.in_ok-rows-2.ensures
