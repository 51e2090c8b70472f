use Rattle.std.proofs.Common.{List, ap, ◌∙◌, to_z, of_z, w64}
use Rattle.std.proofs.lemmas.Int.{to_z-of_z}
use Rattle.fold_law.specs.Gauges.{merge_gauges}
use Rattle.index_segment.specs.Held.{Held}
use Rattle.index_segment.specs.Looks.{gauge_of}
use Rattle.tsds_index.specs.Segments.{lists_in}
use Rattle.tsds_index.specs.Spread.{newest_first}
use Rattle.tsds_index.proofs.Gauged.{both_gauges, room_left, room_within, taken_once}
use Rattle.tsds_index.proofs.shard.Shard.gauge.Goals as goal

pub with_rows-waiting-requires : goal.with_rows-waiting-requires
with_rows-waiting-requires c =
    let shard = c.args.self.now in
    room_within c.args.field c.args.key.now (to_z w64 (of_z w64 c.args.from)) (to_z w64 (of_z w64 c.args.to)) c.none.result c.rows_between-rows.result.now c.rows.result.now shard.buffer (newest_first (lists_in shard.sealed.items)) c.none.ensures c.rows_between-rows.ensures c.rows.ensures.is c.requires.room

pub with_sealed-requires-clause-room : goal.with_sealed-requires-clause-room
with_sealed-requires-clause-room c =
    let shard = c.args.self.now in
    room_left c.args.field c.args.key.now c.args.from c.args.to (to_z w64 (of_z w64 c.args.from)) (to_z w64 (of_z w64 c.args.to)) (to_z-of_z w64 c.args.from c.ranges.from) (to_z-of_z w64 c.args.to c.ranges.to) c.none.result c.with_rows-waiting.result c.rows.result.now shard.buffer (newest_first (lists_in c.as_slice.result.now)) (newest_first (lists_in shard.sealed.items)) c.none.ensures (c.with_rows-waiting.ensures ∙ ap (λ rows. merge_gauges c.none.result (gauge_of c.args.field rows)) (taken_once c.args.field c.args.key.now (to_z w64 (of_z w64 c.args.from)) (to_z w64 (of_z w64 c.args.to)) c.rows_between-rows.result.now c.rows.result.now c.rows_between-rows.ensures)) c.rows.ensures.is (ap (λ (gs : List Held). newest_first (lists_in gs)) c.as_slice.ensures.value) c.requires.room

pub returns : goal.returns
returns c =
    let shard = c.args.self.now in
    both_gauges c.args.field c.args.key.now c.args.from c.args.to (to_z w64 (of_z w64 c.args.from)) (to_z w64 (of_z w64 c.args.to)) (to_z-of_z w64 c.args.from c.ranges.from) (to_z-of_z w64 c.args.to c.ranges.to) c.none.result c.with_rows-waiting.result c.rows.result.now shard.buffer (newest_first (lists_in c.as_slice.result.now)) (newest_first (lists_in shard.sealed.items)) c.none.ensures (c.with_rows-waiting.ensures ∙ ap (λ rows. merge_gauges c.none.result (gauge_of c.args.field rows)) (taken_once c.args.field c.args.key.now (to_z w64 (of_z w64 c.args.from)) (to_z w64 (of_z w64 c.args.to)) c.rows_between-rows.result.now c.rows.result.now c.rows_between-rows.ensures)) c.rows.ensures.is (ap (λ (gs : List Held). newest_first (lists_in gs)) c.as_slice.ensures.value) c.with_sealed.result c.with_sealed.ensures
