use Rattle.std.proofs.Common.{◌∙◌}
use Rattle.tsds_index.proofs.Lodged.{number_told}
use Rattle.tsds_index.proofs.index.TsdsIndex.shard_at.Goals as goal

pub returns-clause-is : goal.returns-clause-is
returns-clause-is c = number_told c.self.inside.schema c.self.inside.shards.items c.args.key.now c.len.result c.shard_of.result c.args.self.now c.shard_of.ensures.is (c.len.ensures ∙ c.self.inside.shards.ok.0) c.self.view_is
