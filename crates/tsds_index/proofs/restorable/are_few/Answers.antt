use Rattle.std.proofs.Common.{arith}
use Rattle.row_cells.specs.RowLists.{documents}
use Rattle.tsds_index.specs.Answers.{restored}
use Rattle.tsds_index.specs.Segments.{lists_in}
use Rattle.tsds_index.specs.Spread.{all_rows}
use Rattle.tsds_index.proofs.Restored.{never, total_more}
use Rattle.tsds_index.proofs.restorable.are_few.Goals as goal

pub returns-then-total-gt-MOST_DOCUMENTS : goal.returns-then-total-gt-MOST_DOCUMENTS
returns-then-total-gt-MOST_DOCUMENTS c =
    let more = total_more c.in-Some.segment.now c.in-Some.rest.now c.loop-segment.left.now c.loop-segment.total c.documents-total.result (documents (all_rows (restored (lists_in c.args.segments.now)))) c.in-Some.ensures.cases.0 c.documents-total.ensures c.loop-segment.invariant.counted in
    (λ off. never off, λ few. absurd (omega (arith, more, few)))

pub loop-segment-preserved : goal.loop-segment-preserved
loop-segment-preserved c = record {
  few = omega arith;
  counted = total_more c.in-Some.segment.now c.in-Some.rest.now c.loop-segment.left.now c.loop-segment.total c.documents-total.result (documents (all_rows (restored (lists_in c.args.segments.now)))) c.in-Some.ensures.cases.0 c.documents-total.ensures c.loop-segment.invariant.counted;
}
