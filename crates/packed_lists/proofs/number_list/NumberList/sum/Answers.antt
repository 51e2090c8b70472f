use Rattle.std.proofs.Common.{◌≡◌, ◌∙◌, ◌+◌, ◌*◌, ◌^◌, ◌<◌, ℕ, List, length, take, to_z, of_z, sym, subst, ap, arith, rules}
use Rattle.std.specs.Prelude.{FitsSigned, ◌+ℤ◌, slice_range}
use Rattle.std.specs.Int.{w128}
use Rattle.std.proofs.lemmas.Int.{to_z-of_z}
use Rattle.column_pack.specs.Summary.{total_of}
use Rattle.packed_lists.specs.Decoded.{AreBlocksAt}
use Rattle.packed_lists.specs.Nums.{IsNums}
use Rattle.packed_lists.specs.Laws.Fronts.{nums-fit}
use Rattle.packed_lists.specs.Laws.Placing.{places-count}
use Rattle.packed_lists.proofs.Totals.{total-on, total-fits, total-all}
use Rattle.packed_lists.proofs.number_list.NumberList.sum.Goals as goal

pub summary_of-total-requires-clause-within : goal.summary_of-total-requires-clause-within
summary_of-total-requires-clause-within c =
    let i = c.self.inside in
    omega (arith, (places-count i.bytes.items i.places.items _ c.self.invariant.placed).0, c.self.invariant.count, c.loop-block-test.true, c.div_ceil-block-end.ensures, ap (λ (z : List ℕ). length z) c.as_slice-in-loop-block.ensures.value)

pub overflow_add-total : goal.overflow_add-total
overflow_add-total c =
    let vs = c.args.self.now in
    let k = c.loop-block.block in
    let placed : AreBlocksAt c.as_slice.result.now c.as_slice-in-loop-block.result.now vs = rw (c.as_slice.ensures.value, c.as_slice-in-loop-block.ensures.value, ← c.self.view_is) c.self.invariant.placed in
    let spelled : IsNums vs c.self.inside.bytes.items = rw (← c.self.view_is) c.self.invariant.spelled in
    let fits : FitsSigned w128 c.summary_of-total.result.sum = search rules in
    let range : c.self.inside.len < 2 ^ 64 = search rules in
    let count : c.self.inside.len ≡ length vs = rw (← c.self.view_is) c.self.invariant.count in
    let short : length vs < 2 ^ 64 = omega (arith, range, count) in
    let e : to_z w128 c.loop-block.total-bits +ℤ to_z w128 (of_z w128 c.summary_of-total.result.sum) ≡ total_of (take (128 * (k + 1)) vs) =
    ap (λ z. to_z w128 c.loop-block.total-bits +ℤ z) (to_z-of_z w128 c.summary_of-total.result.sum fits ∙ (c.summary_of-total.ensures vs placed).total) ∙ ap (λ z. z +ℤ total_of (slice_range vs (128 * k) (128 * k + 128))) c.loop-block.invariant ∙ sym (total-on vs k) in
    subst (FitsSigned w128) (sym e) (total-fits vs (128 * (k + 1)) (nums-fit vs c.self.inside.bytes.items spelled) short)

pub loop-block-preserved : goal.loop-block-preserved
loop-block-preserved c =
    let vs = c.args.self.now in
    let k = c.loop-block.block in
    let placed : AreBlocksAt c.as_slice.result.now c.as_slice-in-loop-block.result.now vs = rw (c.as_slice.ensures.value, c.as_slice-in-loop-block.ensures.value, ← c.self.view_is) c.self.invariant.placed in
    let spelled : IsNums vs c.self.inside.bytes.items = rw (← c.self.view_is) c.self.invariant.spelled in
    let fits : FitsSigned w128 c.summary_of-total.result.sum = search rules in
    let range : c.self.inside.len < 2 ^ 64 = search rules in
    let count : c.self.inside.len ≡ length vs = rw (← c.self.view_is) c.self.invariant.count in
    let short : length vs < 2 ^ 64 = omega (arith, range, count) in
    let e : to_z w128 c.loop-block.total-bits +ℤ to_z w128 (of_z w128 c.summary_of-total.result.sum) ≡ total_of (take (128 * (k + 1)) vs) =
    ap (λ z. to_z w128 c.loop-block.total-bits +ℤ z) (to_z-of_z w128 c.summary_of-total.result.sum fits ∙ (c.summary_of-total.ensures vs placed).total) ∙ ap (λ z. z +ℤ total_of (slice_range vs (128 * k) (128 * k + 128))) c.loop-block.invariant ∙ sym (total-on vs k) in
    to_z-of_z w128 _ (subst (FitsSigned w128) (sym e) (total-fits vs (128 * (k + 1)) (nums-fit vs c.self.inside.bytes.items spelled) short)) ∙ e

pub returns : goal.returns
returns c =
    let vs = c.args.self.now in
    let count : c.self.inside.len ≡ length vs = rw (← c.self.view_is) c.self.invariant.count in
    c.loop-block.invariant ∙ total-all vs c.loop-block.block (omega (arith, count, c.loop-block-test.false, c.div_ceil-block-end.ensures))
