use Rattle.std.proofs.Common.{◌∙◌, ap, sym, subst, arith}
use Rattle.std.specs.List.{All}
use Rattle.column_block.specs.Cutting.{IsSize, total}
use Rattle.column_block.specs.Spelling.{lengths}
use Rattle.column_block.proofs.Cuts.{lengths-sizes, sizes-range, joined-total, cut-enough, cut-range, joined-few, range-numbers}
use Rattle.column_block.proofs.list_rows.ListRows.values.Goals as goal

pub sum_of-requires-clause-sizes : goal.sum_of-requires-clause-sizes
sum_of-requires-clause-sizes c =
    subst (λ z. All IsSize z) (sym (c.as_slice.ensures.value ∙ c.in_ok-sizes.ensures)) (sizes-range (lengths c.args.self.now.lists) c.args.from c.args.to (lengths-sizes c.args.self.now.lists c.len.ensures.short))

pub numbers_between-requires-clause-within : goal.numbers_between-requires-clause-within
numbers_between-requires-clause-within c =
    let lists = c.args.self.now.lists in
    omega (arith, joined-total lists c.args.from c.args.to c.in_ok-first.first c.requires.order c.in_ok-first.ensures, c.sum_of.ensures.sum, ap total (c.as_slice.ensures.value ∙ c.in_ok-sizes.ensures))

pub overflow_add-last : goal.overflow_add-last
overflow_add-last c =
    let lists = c.args.self.now.lists in
    record { fits = omega (arith, joined-total lists c.args.from c.args.to c.in_ok-first.first c.requires.order c.in_ok-first.ensures, c.sum_of.ensures.sum, ap total (c.as_slice.ensures.value ∙ c.in_ok-sizes.ensures), joined-few lists c.len.ensures.short, c.len.ensures.few, c.len.ensures.is) }

pub cut_into-requires-clause-sizes : goal.cut_into-requires-clause-sizes
cut_into-requires-clause-sizes c =
    subst (λ z. All IsSize z) (sym (c.as_slice-2.ensures.value ∙ c.in_ok-sizes.ensures)) (sizes-range (lengths c.args.self.now.lists) c.args.from c.args.to (lengths-sizes c.args.self.now.lists c.len.ensures.short))

pub cut_into-requires-clause-as_many : goal.cut_into-requires-clause-as_many
cut_into-requires-clause-as_many c =
    cut-enough c.args.self.now.lists c.args.from c.args.to c.as_slice-2.result.now c.as_slice-3.result.now (c.as_slice-2.ensures.value ∙ c.in_ok-sizes.ensures)
    (range-numbers c.args.self.now.lists c.args.from c.args.to c.in_ok-first.first c.sum_of.result c.in_ok-sizes.sizes.items c.as_slice.result.now c.as_slice-3.result.now c.in_ok-numbers.numbers.items
    c.in_ok-first.ensures c.sum_of.ensures.sum c.as_slice.ensures.value c.in_ok-sizes.ensures c.as_slice-3.ensures.value c.in_ok-numbers.ensures)

pub returns : goal.returns
returns c =
    c.in_ok-lists.ensures ∙ cut-range c.args.self.now.lists c.args.from c.args.to c.as_slice-2.result.now c.as_slice-3.result.now (c.as_slice-2.ensures.value ∙ c.in_ok-sizes.ensures)
    (range-numbers c.args.self.now.lists c.args.from c.args.to c.in_ok-first.first c.sum_of.result c.in_ok-sizes.sizes.items c.as_slice.result.now c.as_slice-3.result.now c.in_ok-numbers.numbers.items
    c.in_ok-first.ensures c.sum_of.ensures.sum c.as_slice.ensures.value c.in_ok-sizes.ensures c.as_slice-3.ensures.value c.in_ok-numbers.ensures)
