use Rattle.std.proofs.Common.{◌∙◌, ap, sym, subst, arith, ◌≤◌, ◌^◌, map}
use Rattle.std.specs.Prelude.{slice_range, FitsSigned}
use Rattle.std.specs.Int.{w64}
use Rattle.std.specs.List.{All}
use Rattle.fold_law.specs.Laws.{fold_of, reach_of_items}
use Rattle.fold_law.specs.Gauges.{no_gauge, merge_gauges, gauge_of_one, reach_of_gauge}
use Rattle.column_block.specs.Presence.{present}
use Rattle.row_cells.specs.Merging.{parts_of_value}
use Rattle.column_block.proofs.Aheads.{count-order, count-whole}
use Rattle.column_block.proofs.Folding.{range-there, range-mapped, range-size, numbers-within, fits-range}
use Rattle.column_block.proofs.whole.WholeColumn.gauge.Goals as goal

pub gauge_numbers-requires-clause-order : goal.gauge_numbers-requires-clause-order
gauge_numbers-requires-clause-order c = omega (arith, c.count_to-first.ensures.count, c.count_to-last.ensures.count, count-order c.args.self.now c.args.from c.args.to c.requires.order)

pub gauge_numbers-requires-clause-within : goal.gauge_numbers-requires-clause-within
gauge_numbers-requires-clause-within c = omega (arith, c.count_to-last.ensures.count, count-whole c.args.self.now c.args.to)

pub gauge_numbers-requires-clause-reach : goal.gauge_numbers-requires-clause-reach
gauge_numbers-requires-clause-reach c =
    let vs = c.args.self.now in
    let few : reach_of_items reach_of_gauge gauge_of_one (map parts_of_value (present (slice_range vs c.args.from c.args.to))) ≤ 2 ^ 119 = numbers-within (present (slice_range vs c.args.from c.args.to)) (subst (λ z. All (FitsSigned w64) z) (range-there vs c.args.from c.args.to c.count_to-first.result c.count_to-last.result c.requires.order c.count_to-first.ensures.count c.count_to-last.ensures.count) (fits-range (present vs) c.count_to-first.result c.count_to-last.result c.count_to-last.ensures.fit)) (range-size vs c.args.from c.args.to c.count_to-last.result c.requires.order c.count_to-last.ensures.count c.count_to-last.ensures.few) in
    subst (λ z. reach_of_items reach_of_gauge gauge_of_one z ≤ 2 ^ 120) (sym (range-mapped parts_of_value vs c.args.from c.args.to c.count_to-first.result c.count_to-last.result c.requires.order c.count_to-first.ensures.count c.count_to-last.ensures.count)) (omega (arith, few))

pub returns-clause-gauge : goal.returns-clause-gauge
returns-clause-gauge c =
    let vs = c.args.self.now in
    c.gauge_numbers.ensures ∙ ap (λ z. fold_of no_gauge merge_gauges gauge_of_one z) (range-mapped parts_of_value vs c.args.from c.args.to c.count_to-first.result c.count_to-last.result c.requires.order c.count_to-first.ensures.count c.count_to-last.ensures.count)

pub returns-clause-reach : goal.returns-clause-reach
returns-clause-reach c =
    let vs = c.args.self.now in
    numbers-within (present (slice_range vs c.args.from c.args.to)) (subst (λ z. All (FitsSigned w64) z) (range-there vs c.args.from c.args.to c.count_to-first.result c.count_to-last.result c.requires.order c.count_to-first.ensures.count c.count_to-last.ensures.count) (fits-range (present vs) c.count_to-first.result c.count_to-last.result c.count_to-last.ensures.fit)) (range-size vs c.args.from c.args.to c.count_to-last.result c.requires.order c.count_to-last.ensures.count c.count_to-last.ensures.few)
