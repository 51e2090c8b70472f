use Rattle.std.proofs.Common.{to_z, of_z, w64}
use Rattle.std.proofs.lemmas.Int.{to_z-of_z}
use Rattle.tsds_index.proofs.Lodged.{place_told}
use Rattle.tsds_index.proofs.index.TsdsIndex.has.Goals as goal

pub returns : goal.returns
returns c =
    place_told c.self.inside.schema c.self.inside.shards.items c.self.invariant.are c.args.self.now c.self.view_is c.args.key.now c.shard_at-shard.result c.shard_at-shard.ensures.is c.shard_at-shard.ensures.within c.index.result.now c.index.ensures c.args.time (to_z w64 (of_z w64 c.args.time)) c.has.result (to_z-of_z w64 c.args.time c.ranges.time) c.has.ensures
