use Rattle.std.proofs.Common.{length}
use Rattle.tsds_index.specs.Answers.{restored}
use Rattle.tsds_index.specs.Segments.{lists_in}
use Rattle.tsds_index.specs.Spread.{all_rows}
use Rattle.tsds_index.proofs.Restored.{count_more}
use Rattle.tsds_index.proofs.restoring.count_rows.Goals as goal

pub loop-segment-preserved : goal.loop-segment-preserved
loop-segment-preserved c = count_more c.in-Some.segment.now c.in-Some.rest.now c.loop-segment.left.now c.loop-segment.total c.len.result (length (all_rows (restored (lists_in c.args.segments.now)))) c.in-Some.ensures.cases.0 c.len.ensures c.loop-segment.invariant
