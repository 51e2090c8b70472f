use Rattle.std.proofs.Common.{subst, sym, ◌∙◌}
use Rattle.row_cells.specs.SortedLaws.{sorted_ascends}
use Rattle.search_filter.specs.StableLaws.{stable_sorted}
use Rattle.search_filter.specs.ValueLaws.{AreInOrder, value_cmp_total}
use Rattle.search_filter.specs.Values.{value_cmp}
use Rattle.search_filter.proofs.value_set.ValueSet.new.Goals as goal

pub invariant_of-result : goal.invariant_of-result
invariant_of-result c =
    subst AreInOrder (sym (c.from_vec.ensures ∙ stable_sorted value_cmp value_cmp_total c.args.values.items c.sort.new.values.items c.in_ok-sort.ensures.sorted c.in_ok-sort.ensures.stable))
    (sorted_ascends value_cmp value_cmp_total c.args.values.items)

pub returns : goal.returns
returns c = c.from_vec.ensures ∙ stable_sorted value_cmp value_cmp_total c.args.values.items c.sort.new.values.items c.in_ok-sort.ensures.sorted c.in_ok-sort.ensures.stable
