use Rattle.std.proofs.Common.{◌+◌, arith, length, to_z, of_z, w64}
use Rattle.index_segment.specs.Looks.{rows_within}
use Rattle.tsds_index.specs.Segments.{lists_in}
use Rattle.tsds_index.specs.Spread.{newest_first}
use Rattle.tsds_index.proofs.Ranged.{counted_on, few_on, room_on}
use Rattle.tsds_index.proofs.counts.count_sealed.Goals as goal

pub overflow_add-count : goal.overflow_add-count
overflow_add-count c =
    let f = to_z w64 (of_z w64 c.args.from) in
    let t = to_z w64 (of_z w64 c.args.to) in
    omega (arith, room_on c.args.key.now f t c.loop-segment.left.now c.in-Some.older.now c.in-Some.segment.now c.in-Some.ensures.cases.0 c.loop-segment.count c.count_in.result c.count_in.ensures c.loop-segment.invariant.few)

pub loop-segment-preserved : goal.loop-segment-preserved
loop-segment-preserved c =
    let f = to_z w64 (of_z w64 c.args.from) in
    let t = to_z w64 (of_z w64 c.args.to) in
    record {
      counted = counted_on c.args.key.now f t c.loop-segment.left.now c.in-Some.older.now c.in-Some.segment.now c.in-Some.ensures.cases.0 c.loop-segment.count c.count_in.result (c.args.total + length (rows_within c.args.key.now f t (newest_first (lists_in c.args.segments.now)))) c.count_in.ensures c.loop-segment.invariant.counted;
      few = few_on c.args.key.now f t c.loop-segment.left.now c.in-Some.older.now c.in-Some.segment.now c.in-Some.ensures.cases.0 c.loop-segment.count c.count_in.result c.count_in.ensures c.loop-segment.invariant.few;
    }
