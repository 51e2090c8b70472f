use Rattle.std.proofs.Common.{◌∙◌, ap, arith, ℕ, List, [], ◌∷◌, length}
use Rattle.packed_lists.specs.Decoded.{AreBlocksAt}
use Rattle.column_block.specs.Held.{IsWhole}
use Rattle.column_block.specs.Presence.{present}
use Rattle.column_block.proofs.Aheads.{flags-known, long-enough, count-order, count-whole}
use Rattle.column_block.proofs.Wholes.{numbers-are, rows-are, rows-count}
use Rattle.column_block.proofs.whole.WholeColumn.values.Goals as goal

pub overflow_sub-last : goal.overflow_sub-last
overflow_sub-last c = omega (arith, c.count_to-first.ensures.count, c.count_to-last.ensures.count, count-order c.args.self.now c.args.from c.args.to c.requires.order)

pub put_range-requires : goal.put_range-requires
put_range-requires c =
    let i = c.self.inside in
    let vs = c.args.self.now in
    let h : IsWhole i.rows i.bytes.items i.places.items i.counts.items vs = rw (← c.self.view_is) c.self.invariant in
    (present vs, rw (c.as_slice-bytes.ensures.value, c.as_slice.ensures.value) h.placed, omega (arith, c.count_to-first.ensures.count, c.count_to-last.ensures.count, count-order vs c.args.from c.args.to c.requires.order), omega (arith, c.count_to-last.ensures.count, count-whole vs c.args.to))

pub spread_over-requires-clause-within : goal.spread_over-requires-clause-within
spread_over-requires-clause-within c =
    let i = c.self.inside in
    let h : IsWhole i.rows i.bytes.items i.places.items i.counts.items c.args.self.now = rw (← c.self.view_is) c.self.invariant in
    omega (arith, c.requires.within, long-enough i.bytes.items c.args.self.now (present c.args.self.now ∷ []) h.spelled, ap (λ (z : List ℕ). length z) c.as_slice-bytes.ensures.value)

pub spread_over-requires-clause-as_many : goal.spread_over-requires-clause-as_many
spread_over-requires-clause-as_many c =
    let i = c.self.inside in
    let vs = c.args.self.now in
    let h : IsWhole i.rows i.bytes.items i.places.items i.counts.items vs = rw (← c.self.view_is) c.self.invariant in
    let placed : AreBlocksAt c.as_slice-bytes.result.now c.as_slice.result.now (present vs) = rw (c.as_slice-bytes.ensures.value, c.as_slice.ensures.value) h.placed in
    rows-count i.rows c.args.from c.args.to i.bytes.items c.as_slice-bytes.result.now vs c.as_slice-2.result.now c.as_slice-bytes.ensures.value (flags-known i.rows i.bytes.items vs (present vs ∷ []) h.length_is h.spelled) c.requires.order (omega (arith, c.requires.within, h.length_is))
    (numbers-are vs c.args.from c.args.to c.count_to-first.result c.count_to-last.result c.as_slice-2.result.now _ _ c.requires.order c.count_to-first.ensures.count c.count_to-last.ensures.count c.as_slice-2.ensures.value (c.in_ok-put_range.ensures (present vs) placed) c.in_ok-numbers.ensures.items)

pub returns : goal.returns
returns c =
    let i = c.self.inside in
    let vs = c.args.self.now in
    let h : IsWhole i.rows i.bytes.items i.places.items i.counts.items vs = rw (← c.self.view_is) c.self.invariant in
    let placed : AreBlocksAt c.as_slice-bytes.result.now c.as_slice.result.now (present vs) = rw (c.as_slice-bytes.ensures.value, c.as_slice.ensures.value) h.placed in
    c.in_ok-rows.ensures ∙ rows-are i.rows c.args.from c.args.to i.bytes.items c.as_slice-bytes.result.now vs c.as_slice-2.result.now c.as_slice-bytes.ensures.value (flags-known i.rows i.bytes.items vs (present vs ∷ []) h.length_is h.spelled) c.requires.order (omega (arith, c.requires.within, h.length_is))
    (numbers-are vs c.args.from c.args.to c.count_to-first.result c.count_to-last.result c.as_slice-2.result.now _ _ c.requires.order c.count_to-first.ensures.count c.count_to-last.ensures.count c.as_slice-2.ensures.value (c.in_ok-put_range.ensures (present vs) placed) c.in_ok-numbers.ensures.items)
