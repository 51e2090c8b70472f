use Rattle.std.proofs.Common.{refl, to_z, of_z, w64}
use Rattle.std.proofs.lemmas.Int.{to_z-of_z}
use Rattle.tsds_index.specs.Segments.{lists_in}
use Rattle.tsds_index.specs.Spread.{newest_first}
use Rattle.tsds_index.proofs.Looked.{has_behind, has_front}
use Rattle.tsds_index.proofs.shard.Shard.has.Goals as goal

pub returns-in-Some : goal.returns-in-Some
returns-in-Some c =
    let shard = c.args.self.now in
    has_front c.args.key.now c.args.time (to_z w64 (of_z w64 c.args.time)) (to_z-of_z w64 c.args.time c.ranges.time) shard.buffer (newest_first (lists_in shard.sealed.items)) (newest_first (lists_in shard.sealed.items)) c.in-Some.field-0.now c.in-Some.ensures

pub returns-in-None : goal.returns-in-None
returns-in-None c =
    let shard = c.args.self.now in
    has_behind c.args.key.now c.args.time (to_z w64 (of_z w64 c.args.time)) (to_z-of_z w64 c.args.time c.ranges.time) shard.buffer (newest_first (lists_in shard.sealed.items)) (newest_first (lists_in shard.sealed.items)) c.has_sealed.result c.in-None.ensures refl c.has_sealed.ensures
