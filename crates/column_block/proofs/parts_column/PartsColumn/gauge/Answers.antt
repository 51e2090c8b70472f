use Rattle.std.proofs.Common.{◌∙◌, ap, sym, subst, arith, ◌≤◌, ◌^◌}
use Rattle.std.specs.Prelude.{slice_range}
use Rattle.fold_law.specs.Laws.{fold_of, reach_of_items}
use Rattle.fold_law.specs.Gauges.{no_gauge, merge_gauges, gauge_of_one, reach_of_gauge}
use Rattle.column_block.specs.Presence.{present}
use Rattle.row_cells.specs.Each.{Each}
use Rattle.column_block.specs.Rules.{AreParts}
use Rattle.column_block.proofs.Aheads.{count-order, count-whole}
use Rattle.column_block.specs.EachLaws.{each-range}
use Rattle.column_block.proofs.Folding.{range-there, range-size, parts-within}
use Rattle.column_block.proofs.parts_column.PartsColumn.gauge.Goals as goal

pub fold_parts-requires-clause-order : goal.fold_parts-requires-clause-order
fold_parts-requires-clause-order c = omega (arith, c.count_to-first.ensures.count, c.count_to-last.ensures.count, count-order c.args.self.now c.args.from c.args.to c.requires.order)

pub fold_parts-requires-clause-within : goal.fold_parts-requires-clause-within
fold_parts-requires-clause-within c = omega (arith, c.count_to-last.ensures.count, count-whole c.args.self.now c.args.to)

pub fold_parts-requires-clause-reach : goal.fold_parts-requires-clause-reach
fold_parts-requires-clause-reach c =
    let vs = c.args.self.now in
    let few : reach_of_items reach_of_gauge gauge_of_one (present (slice_range vs c.args.from c.args.to)) ≤ 2 ^ 119 = parts-within (present (slice_range vs c.args.from c.args.to)) (subst (λ z. Each AreParts z) (range-there vs c.args.from c.args.to c.count_to-first.result c.count_to-last.result c.requires.order c.count_to-first.ensures.count c.count_to-last.ensures.count) (each-range AreParts (present vs) c.count_to-first.result c.count_to-last.result c.count_to-last.ensures.rules)) (range-size vs c.args.from c.args.to c.count_to-last.result c.requires.order c.count_to-last.ensures.count c.count_to-last.ensures.few) in
    subst (λ z. reach_of_items reach_of_gauge gauge_of_one z ≤ 2 ^ 120) (sym (range-there vs c.args.from c.args.to c.count_to-first.result c.count_to-last.result c.requires.order c.count_to-first.ensures.count c.count_to-last.ensures.count)) (omega (arith, few))

pub returns-clause-gauge : goal.returns-clause-gauge
returns-clause-gauge c =
    let vs = c.args.self.now in
    c.fold_parts.ensures ∙ ap (λ z. fold_of no_gauge merge_gauges gauge_of_one z) (range-there vs c.args.from c.args.to c.count_to-first.result c.count_to-last.result c.requires.order c.count_to-first.ensures.count c.count_to-last.ensures.count)

pub returns-clause-reach : goal.returns-clause-reach
returns-clause-reach c =
    let vs = c.args.self.now in
    parts-within (present (slice_range vs c.args.from c.args.to)) (subst (λ z. Each AreParts z) (range-there vs c.args.from c.args.to c.count_to-first.result c.count_to-last.result c.requires.order c.count_to-first.ensures.count c.count_to-last.ensures.count) (each-range AreParts (present vs) c.count_to-first.result c.count_to-last.result c.count_to-last.ensures.rules)) (range-size vs c.args.from c.args.to c.count_to-last.result c.requires.order c.count_to-last.ensures.count c.count_to-last.ensures.few)
