use Rattle.std.proofs.Common.{to_z, of_z, w64}
use Rattle.std.proofs.lemmas.Int.{to_z-of_z}
use Rattle.tsds_index.proofs.Lodged.{gauge_told, room_told}
use Rattle.tsds_index.proofs.index.TsdsIndex.gauge.Goals as goal

pub gauge-requires-clause-room : goal.gauge-requires-clause-room
gauge-requires-clause-room c =
    room_told c.self.inside.schema c.self.inside.shards.items c.self.invariant.are c.args.self.now c.self.view_is c.args.key.now c.shard_at.result c.shard_at.ensures.is c.shard_at.ensures.within c.index-shard.result.now c.index-shard.ensures c.args.field c.requires

pub returns : goal.returns
returns c =
    gauge_told c.self.inside.schema c.self.inside.shards.items c.self.invariant.are c.args.self.now c.self.view_is c.args.key.now c.shard_at.result c.shard_at.ensures.is c.shard_at.ensures.within c.index-shard.result.now c.index-shard.ensures c.args.field c.requires c.args.from c.args.to (to_z w64 (of_z w64 c.args.from)) (to_z w64 (of_z w64 c.args.to)) c.gauge.result (to_z-of_z w64 c.args.from c.ranges.from) (to_z-of_z w64 c.args.to c.ranges.to) c.gauge.ensures
