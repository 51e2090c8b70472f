use Rattle.std.proofs.Common.{to_z, of_z, w64}
use Rattle.std.proofs.lemmas.Int.{to_z-of_z}
use Rattle.tsds_index.proofs.Lodged.{count_few, count_told}
use Rattle.tsds_index.proofs.index.TsdsIndex.row_count.Goals as goal

pub row_count-requires : goal.row_count-requires
row_count-requires c =
    count_few c.self.inside.schema c.self.inside.shards.items c.self.invariant.are c.args.self.now c.self.view_is c.args.key.now c.shard_at.result c.shard_at.ensures.is c.shard_at.ensures.within c.index-shard.result.now c.index-shard.ensures

pub returns : goal.returns
returns c =
    count_told c.self.inside.schema c.self.inside.shards.items c.self.invariant.are c.args.self.now c.self.view_is c.args.key.now c.shard_at.result c.shard_at.ensures.is c.shard_at.ensures.within c.index-shard.result.now c.index-shard.ensures c.args.from c.args.to (to_z w64 (of_z w64 c.args.from)) (to_z w64 (of_z w64 c.args.to)) c.row_count.result (to_z-of_z w64 c.args.from c.ranges.from) (to_z-of_z w64 c.args.to c.ranges.to) c.row_count.ensures
