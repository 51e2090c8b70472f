use Rattle.std.proofs.Common.{◌∙◌, ◌++◌, map, ap, sym, append-nil}
use Rattle.std.proofs.lemmas.List.{drop_all}
use Rattle.row_cells.specs.declared.scalars.Scalar.TheVariants.{Flag}
use Rattle.synthetic_source.proofs.Sorting.{sorted_flags}
use Rattle.synthetic_source.proofs.ordering.flags_in_order.Goals as goal

pub returns : goal.returns
returns c =
    let past = drop_all c.loop-flag.flag-index c.deref-flag-items.result.now c.loop-flag-test.false in
    c.from_vec.ensures
    ∙ (sym (append-nil c.loop-flag.values.items)
    ∙ (ap (λ xs. c.loop-flag.values.items ++ map Flag xs) (sym past)
    ∙ (c.loop-flag.invariant
    ∙ (ap (map Flag) c.deref-flag-items.ensures.value
    ∙ sorted_flags c.args.flags.items _ c.in_ok-sort.ensures.permutation c.in_ok-sort.ensures.sorted))))
