use Rattle.std.proofs.Common.{◌≡◌, ◌∙◌, ap, sym, arith, ◌≤◌, map}
use Rattle.std.specs.Prelude.{slice_range}
use Rattle.fold_law.specs.Laws.{fold_of}
use Rattle.fold_law.specs.Gauges.{no_gauge, merge_gauges, gauge_of_one}
use Rattle.fold_law.specs.GaugeLaws.{gauge_laws}
use Rattle.column_block.specs.Presence.{present}
use Rattle.row_cells.specs.Merging.{parts_of_value}
use Rattle.packed_lists.specs.Laws.Placing.{range-none}
use Rattle.column_block.proofs.Folding.{reach-block, reach-merged, fold-block}
use Rattle.column_block.proofs.whole.WholeColumn.gauge_numbers.Goals as goal

pub loop-at-init : goal.loop-at-init
loop-at-init c = record {
  order = omega arith;
  within = λ h. h;
  gauge = c.none-gauge.ensures ∙ ap (fold_of no_gauge merge_gauges gauge_of_one) (sym (range-none (map parts_of_value (present c.args.self.now)) c.args.from));
}

pub gauge_part-requires-clause-reach : goal.gauge_part-requires-clause-reach
gauge_part-requires-clause-reach c =
    omega (arith, reach-block gauge_laws gauge_of_one (map parts_of_value (present c.args.self.now)) c.args.from c.loop-at.at c.leave-end.result c.args.to _ c.loop-at.gauge c.loop-at.invariant.order (omega (arith, c.leave-end.ensures, c.loop-at-test.true)) (omega (arith, c.leave-end.ensures)) c.requires.reach c.loop-at.invariant.gauge)

pub merge-gauge-requires : goal.merge-gauge-requires
merge-gauge-requires c =
    reach-merged gauge_laws gauge_of_one (map parts_of_value (present c.args.self.now)) c.args.from c.loop-at.at c.leave-end.result c.args.to _ c.loop-at.gauge c.gauge_part.result c.loop-at.invariant.order (omega (arith, c.leave-end.ensures, c.loop-at-test.true)) (omega (arith, c.leave-end.ensures)) c.requires.reach c.loop-at.invariant.gauge c.gauge_part.ensures

pub loop-at-preserved : goal.loop-at-preserved
loop-at-preserved c = let up : c.loop-at.at ≤ c.leave-end.result = omega (arith, c.leave-end.ensures, c.loop-at-test.true) in record {
  order = omega (arith, up, c.loop-at.invariant.order);
  within = λ h. omega (arith, c.leave-end.ensures);
  gauge = c.merge-gauge.ensures ∙ ap (merge_gauges c.loop-at.gauge) c.gauge_part.ensures
      ∙ fold-block gauge_laws gauge_of_one (map parts_of_value (present c.args.self.now)) c.args.from c.loop-at.at c.leave-end.result c.loop-at.gauge c.loop-at.invariant.order up c.loop-at.invariant.gauge;
}

pub returns : goal.returns
returns c =
    let e : c.loop-at.at ≡ c.args.to = omega (arith, c.loop-at-test.false, c.loop-at.invariant.within c.requires.order) in
    c.loop-at.invariant.gauge ∙ ap (λ z. fold_of no_gauge merge_gauges gauge_of_one (slice_range (map parts_of_value (present c.args.self.now)) c.args.from z)) e
