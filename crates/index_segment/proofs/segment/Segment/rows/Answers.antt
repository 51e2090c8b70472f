use Rattle.std.specs.Prelude.{◌≤◌, ◌++◌, slice_range}
use Rattle.std.proofs.Common.{arith, ap, sym, ◌∙◌}
use Rattle.packed_lists.specs.Laws.Placing.{range-on}
use Rattle.index_segment.proofs.segment.Segment.rows.Goals as goal

pub loop-at-preserved : goal.loop-at-preserved
loop-at-preserved c =
    let l = c.loop-at in
    let rows = c.args.self.now.rows in
    let end = c.min-end.result in
    let on : l.at ≤ end = omega (arith, c.min-end.ensures, c.series_rows.ensures.last, c.series_at-series.ensures.behind, c.loop-at-test.true) in
    record {
      start = omega (arith, on, l.invariant.start);
      end = omega (arith, c.min-end.ensures);
      made = c.in_ok-push_piece.ensures ∙ (ap (λ made. made ++ slice_range rows l.at end) l.invariant.made ∙ sym (range-on rows c.args.from l.at end l.invariant.start on));
    }
