use Rattle.std.proofs.Common.{to_z, of_z, w64}
use Rattle.std.proofs.lemmas.Int.{to_z-of_z}
use Rattle.tsds_index.proofs.Lodged.{row_told}
use Rattle.tsds_index.proofs.index.TsdsIndex.get.Goals as goal

pub returns : goal.returns
returns c =
    row_told c.self.inside.schema c.self.inside.shards.items c.self.invariant.are c.args.self.now c.self.view_is c.args.key.now c.shard_at.result c.shard_at.ensures.is c.shard_at.ensures.within c.index-shard.result.now c.index-shard.ensures c.args.time (to_z w64 (of_z w64 c.args.time)) c.in_ok-found.found (to_z-of_z w64 c.args.time c.ranges.time) c.in_ok-found.ensures
