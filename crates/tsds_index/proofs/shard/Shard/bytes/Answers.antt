use Rattle.std.proofs.Common.{refl}
use Rattle.tsds_index.proofs.Sealed.{one_segment}
use Rattle.tsds_index.proofs.shard.Shard.bytes.Goals as goal

pub returns-then-is_sealed : goal.returns-then-is_sealed
returns-then-is_sealed c = one_segment c.args.schema.now c.args.self.now c.index.result.now c.in_ok-bytes.bytes c.requires.shard (c.if-is_sealed.ensures.one refl) (c.if-is_sealed.ensures.empty refl) c.index.ensures c.in_ok-bytes.ensures
