use Rattle.std.proofs.Common.{ap, to_z, of_z, w64}
use Rattle.std.proofs.lemmas.Int.{to_z-of_z}
use Rattle.std.specs.Prelude.{List}
use Rattle.index_segment.specs.Held.{Held}
use Rattle.tsds_index.specs.Segments.{lists_in}
use Rattle.tsds_index.specs.Spread.{newest_first}
use Rattle.tsds_index.proofs.Looked.{got_behind, got_front}
use Rattle.tsds_index.proofs.shard.Shard.get.Goals as goal

pub returns-in_ok-copy_row-in-Some : goal.returns-in_ok-copy_row-in-Some
returns-in_ok-copy_row-in-Some c =
    let shard = c.args.self.now in
    got_front c.args.key.now c.args.time (to_z w64 (of_z w64 c.args.time)) (to_z-of_z w64 c.args.time c.ranges.time) shard.buffer (newest_first (lists_in shard.sealed.items)) (newest_first (lists_in shard.sealed.items)) c.in-Some.row.now c.in_ok-copy_row-in-Some.field-0 c.in-Some.ensures c.in_ok-copy_row-in-Some.ensures

pub returns-in_ok-found-in-None : goal.returns-in_ok-found-in-None
returns-in_ok-found-in-None c =
    let shard = c.args.self.now in
    got_behind c.args.key.now c.args.time (to_z w64 (of_z w64 c.args.time)) (to_z-of_z w64 c.args.time c.ranges.time) shard.buffer (newest_first (lists_in c.as_slice.result.now)) (newest_first (lists_in shard.sealed.items)) c.in_ok-found-in-None.found c.in-None.ensures (ap (λ (hs : List Held). newest_first (lists_in hs)) c.as_slice.ensures.value) c.in_ok-found-in-None.ensures
