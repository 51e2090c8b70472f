use Rattle.std.proofs.Common.{ap, arith, ℕ, List, length}
use Rattle.column_block.specs.Held.{IsWhole}
use Rattle.column_block.specs.Presence.{present}
use Rattle.packed_lists.specs.Laws.Placing.{places-count}
use Rattle.column_block.proofs.whole.WholeColumn.summary.Goals as goal

pub summary_of-requires-clause-within : goal.summary_of-requires-clause-within
summary_of-requires-clause-within c =
    let i = c.self.inside in
    let h : IsWhole i.rows i.bytes.items i.places.items i.counts.items c.args.self.now = rw (← c.self.view_is) c.self.invariant in
    omega (arith, (places-count i.bytes.items i.places.items (present c.args.self.now) h.placed).0, c.requires, ap (λ (z : List ℕ). length z) c.as_slice-2.ensures.value)
