use Rattle.std.proofs.Common.{◌∙◌, ap, subst, ◌≤◌, ◌^◌}
use Rattle.fold_law.specs.Laws.{fold_of, reach_of_items}
use Rattle.fold_law.specs.Gauges.{no_gauge, merge_gauges, gauge_of_one, reach_of_gauge}
use Rattle.column_block.specs.Columned.{values_in}
use Rattle.column_block.specs.Ranges.{parts_of}
use Rattle.column_block.proofs.Clamped.{same-between}
use Rattle.column_block.proofs.columns.Column.gauge.Goals as goal

pub returns-clause-gauge : goal.returns-clause-gauge
returns-clause-gauge c =
    let same = same-between (values_in c.self.inside.packed) c.args.self.now c.args.from c.args.to c.clamp-range.result.from c.clamp-range.result.to c.len_of.result c.self.view_is c.len_of.ensures c.clamp-range.ensures.from c.clamp-range.ensures.to in
    c.gauge_of_rows.ensures.gauge ∙ ap (λ z. fold_of no_gauge merge_gauges gauge_of_one (parts_of z)) same

pub returns-clause-reach : goal.returns-clause-reach
returns-clause-reach c =
    let same = same-between (values_in c.self.inside.packed) c.args.self.now c.args.from c.args.to c.clamp-range.result.from c.clamp-range.result.to c.len_of.result c.self.view_is c.len_of.ensures c.clamp-range.ensures.from c.clamp-range.ensures.to in
    subst (λ z. reach_of_items reach_of_gauge gauge_of_one (parts_of z) ≤ 2 ^ 119) same c.gauge_of_rows.ensures.reach
