use Rattle.tsds_index.proofs.Sealed.{few_lists}
use Rattle.tsds_index.proofs.shard.Shard.make_room.Goals as goal

pub place_to_join-first-requires : goal.place_to_join-first-requires
place_to_join-first-requires c = record { few = few_lists c.args.schema.now c.args.self.now c.as_slice.result.now c.requires.shard c.as_slice.ensures.value }
