use Rattle.tsds_index.proofs.Exchanged.{shard_is}
use Rattle.tsds_index.proofs.Lodged.{inside}
use Rattle.tsds_index.proofs.index.TsdsIndex.shard_bytes.Goals as goal

pub bytes-requires-clause-shard : goal.bytes-requires-clause-shard
bytes-requires-clause-shard c = shard_is c.self.inside.schema c.self.inside.shards.items c.self.invariant.are c.args.shard (inside c.self.inside.schema c.self.inside.shards.items c.args.self.now c.args.shard c.self.view_is c.requires) c.index-one.result.now c.index-one.ensures
