use Rattle.std.proofs.Common.{◌∙◌, ◌++◌, map, ap, sym, append-nil}
use Rattle.std.proofs.lemmas.List.{drop_all}
use Rattle.row_cells.specs.declared.scalars.Scalar.TheVariants.{Whole}
use Rattle.synthetic_source.proofs.Sorting.{sorted_wholes}
use Rattle.synthetic_source.proofs.ordering.wholes_in_order.Goals as goal

pub returns : goal.returns
returns c =
    let past = drop_all c.loop-number.number-index c.deref-number-items.result.now c.loop-number-test.false in
    c.from_vec.ensures
    ∙ (sym (append-nil c.loop-number.values.items)
    ∙ (ap (λ xs. c.loop-number.values.items ++ map Whole xs) (sym past)
    ∙ (c.loop-number.invariant
    ∙ (ap (map Whole) c.deref-number-items.ensures.value
    ∙ sorted_wholes c.args.numbers.items _ c.in_ok-sort.ensures.permutation c.in_ok-sort.ensures.sorted))))
