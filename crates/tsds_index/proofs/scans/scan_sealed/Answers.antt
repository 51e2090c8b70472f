use Rattle.std.proofs.Common.{◌++◌, to_z, of_z, w64}
use Rattle.index_segment.specs.Looks.{rows_within}
use Rattle.tsds_index.specs.Segments.{lists_in}
use Rattle.tsds_index.specs.Spread.{newest_first}
use Rattle.tsds_index.proofs.Scanned.{range_before}
use Rattle.tsds_index.proofs.scans.scan_sealed.Goals as goal

pub loop-segment-preserved : goal.loop-segment-preserved
loop-segment-preserved c =
    let f = to_z w64 (of_z w64 c.args.from) in
    let t = to_z w64 (of_z w64 c.args.to) in
    range_before c.args.key.now f t c.loop-segment.into.items c.append.new.self.items c.in_ok-rows.rows.items (c.args.into.now.items ++ rows_within c.args.key.now f t (newest_first (lists_in c.args.segments.now))) c.loop-segment.left.now c.in-Some.older.now c.in-Some.segment.now c.in-Some.ensures.cases.0 c.in_ok-rows.ensures c.in_ok-append.ensures.items c.loop-segment.invariant
