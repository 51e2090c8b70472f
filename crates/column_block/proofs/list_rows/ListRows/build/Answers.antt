use Rattle.std.proofs.Common.{◌≡◌, ◌∙◌, sym, subst, rules, length}
use Rattle.std.specs.List.{All}
use Rattle.column_block.specs.Cutting.{IsSize}
use Rattle.column_block.proofs.Cuts.{lengths-sizes}
use Rattle.column_block.proofs.Rowed.{lists-are, built-rows}
use Rattle.column_block.proofs.list_rows.ListRows.build.Goals as goal

pub starts_of-requires-clause-sizes : goal.starts_of-requires-clause-sizes
starts_of-requires-clause-sizes c = subst (λ z. All IsSize z) (sym (c.as_slice-3.ensures.value ∙ c.in_ok-lens.ensures)) (lengths-sizes c.args.lists.now c.requires.short)

pub invariant_of-result : goal.invariant_of-result
invariant_of-result c =
    let before : c.len-before.result ≡ length c.args.front.items = search rules in
    let h = built-rows c.args.front.items c.put_numbers.new.into.items c.put_numbers-2.new.into.items c.in_ok-sizes.sizes.items c.in_ok-numbers.numbers.items c.in_ok-starts.starts.items c.len-before.result c.args.lists.now
    c.in_ok-lens.lens.items c.as_slice.result.now c.in_ok-all.all.items c.as_slice-2.result.now c.as_slice-3.result.now c.requires.few c.requires.short before c.in_ok-lens.ensures c.as_slice.ensures.value c.in_ok-all.ensures c.as_slice-2.ensures.value c.as_slice-3.ensures.value
    c.in_ok-sizes.ensures.spelled c.in_ok-sizes.ensures.placed c.in_ok-numbers.ensures.spelled c.in_ok-numbers.ensures.placed c.in_ok-starts.ensures in
    rw (lists-are _ _ _ _ _ _ c.args.lists.now h) h

pub returns-clause-lists : goal.returns-clause-lists
returns-clause-lists c =
    let before : c.len-before.result ≡ length c.args.front.items = search rules in
    let h = built-rows c.args.front.items c.put_numbers.new.into.items c.put_numbers-2.new.into.items c.in_ok-sizes.sizes.items c.in_ok-numbers.numbers.items c.in_ok-starts.starts.items c.len-before.result c.args.lists.now
    c.in_ok-lens.lens.items c.as_slice.result.now c.in_ok-all.all.items c.as_slice-2.result.now c.as_slice-3.result.now c.requires.few c.requires.short before c.in_ok-lens.ensures c.as_slice.ensures.value c.in_ok-all.ensures c.as_slice-2.ensures.value c.as_slice-3.ensures.value
    c.in_ok-sizes.ensures.spelled c.in_ok-sizes.ensures.placed c.in_ok-numbers.ensures.spelled c.in_ok-numbers.ensures.placed c.in_ok-starts.ensures in
    lists-are _ _ _ _ _ _ c.args.lists.now h
