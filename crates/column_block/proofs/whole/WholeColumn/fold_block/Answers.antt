use Rattle.std.proofs.Common.{◌∙◌, ap, sym, subst, arith, ◌≤◌, ◌^◌}
use Rattle.fold_law.specs.Laws.{fold_of, reach_of_items}
use Rattle.row_cells.specs.Merging.{parts_of_value}
use Rattle.column_block.proofs.Aheads.{count-order, count-whole}
use Rattle.column_block.proofs.Folding.{range-mapped}
use Rattle.column_block.proofs.whole.WholeColumn.fold_block.Goals as goal

pub fold_numbers-requires-clause-order : goal.fold_numbers-requires-clause-order
fold_numbers-requires-clause-order g c = omega (arith, c.count_to-first.ensures.count, c.count_to-last.ensures.count, count-order c.args.self.now c.args.from c.args.to c.requires.order)

pub fold_numbers-requires-clause-within : goal.fold_numbers-requires-clause-within
fold_numbers-requires-clause-within g c = omega (arith, c.count_to-last.ensures.count, count-whole c.args.self.now c.args.to)

pub fold_numbers-requires-clause-reach : goal.fold_numbers-requires-clause-reach
fold_numbers-requires-clause-reach g c =
    let vs = c.args.self.now in
    subst (λ z. reach_of_items g.F.Fold.reach g.F.Fold.one z ≤ 2 ^ 120) (sym (range-mapped parts_of_value vs c.args.from c.args.to c.count_to-first.result c.count_to-last.result c.requires.order c.count_to-first.ensures.count c.count_to-last.ensures.count)) c.requires.reach

pub returns : goal.returns
returns g c =
    let vs = c.args.self.now in
    c.fold_numbers.ensures ∙ ap (λ z. fold_of g.F.Fold.none g.F.Fold.merge g.F.Fold.one z) (range-mapped parts_of_value vs c.args.from c.args.to c.count_to-first.result c.count_to-last.result c.requires.order c.count_to-first.ensures.count c.count_to-last.ensures.count)
