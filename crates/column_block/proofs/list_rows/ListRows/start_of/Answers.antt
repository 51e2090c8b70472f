use Rattle.std.proofs.Common.{◌∙◌, sym, subst, arith}
use Rattle.std.specs.List.{All}
use Rattle.column_block.specs.Cutting.{IsSize, AreRows}
use Rattle.column_block.specs.Spelling.{lengths}
use Rattle.column_block.proofs.Cuts.{lengths-sizes, sizes-range, start-is, start-few}
use Rattle.column_block.proofs.list_rows.ListRows.start_of.Goals as goal

pub sum_of-requires-clause-sizes : goal.sum_of-requires-clause-sizes
sum_of-requires-clause-sizes c =
    let i = c.self.inside in
    let h : AreRows i.front i.rows i.bytes.items i.sizes.items i.numbers.items i.starts.items c.args.self.now.lists = rw (← c.self.view_is) c.self.invariant in
    subst (λ z. All IsSize z) (sym (c.as_slice-2.ensures.value ∙ c.in_ok-ahead.ensures)) (sizes-range (lengths c.args.self.now.lists) _ c.args.row (lengths-sizes c.args.self.now.lists h.short))

pub overflow_add-result : goal.overflow_add-result
overflow_add-result c =
    let i = c.self.inside in
    let h : AreRows i.front i.rows i.bytes.items i.sizes.items i.numbers.items i.starts.items c.args.self.now.lists = rw (← c.self.view_is) c.self.invariant in
    record {
      fits = omega (
        arith,
        h.few,
        h.length_is,
        start-few c.args.self.now.lists c.args.row h.short,
        start-is c.args.self.now.lists i.starts.items c.as_slice.result.now c.args.row c.sum_of.result c.as_slice-2.result.now h.started c.as_slice.ensures.value c.requires (c.as_slice-2.ensures.value ∙ c.in_ok-ahead.ensures) c.sum_of.ensures.sum,
      );
    }

pub returns : goal.returns
returns c =
    let i = c.self.inside in
    let h : AreRows i.front i.rows i.bytes.items i.sizes.items i.numbers.items i.starts.items c.args.self.now.lists = rw (← c.self.view_is) c.self.invariant in
    start-is c.args.self.now.lists i.starts.items c.as_slice.result.now c.args.row c.sum_of.result c.as_slice-2.result.now h.started c.as_slice.ensures.value c.requires (c.as_slice-2.ensures.value ∙ c.in_ok-ahead.ensures) c.sum_of.ensures.sum
