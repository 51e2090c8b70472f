use Rattle.std.proofs.Common.{◌≤◌, ◌-◌, sym, subst, arith, length, ℤ, List}
use Rattle.packed_lists.specs.Falling.{IsEdge}
use Rattle.packed_lists.specs.Decoded.{values_at}
use Rattle.std.specs.Int.{w64, cast_signed, cast_unsigned}
use Rattle.std.proofs.lemmas.Int.{to_z-of_z}
use Rattle.packed_lists.proofs.Loading.{block-there, loaded-cached, part-length, part-few}
use Rattle.packed_lists.proofs.Cutting.{edge-of, edge-before, edge-behind, doubled, all-paid}
use Rattle.packed_lists.proofs.cursor.Cursor.cut_at.Goals as goal

pub block_edge-block-requires-clause-within : goal.block_edge-block-requires-clause-within
block_edge-block-requires-clause-within g c =
    let i = c.self.inside in
    let most : c.args.to ≤ length _ = subst (λ (z : List ℤ). c.args.to ≤ length z) (sym c.self.view_is) c.requires.within in
    block-there i.bytes.now i.places.now _ (c.args.to - 1) c.self.invariant.placed (omega (arith, most, c.requires.order, c.if-from-to.false))

pub load-requires-clause-within : goal.load-requires-clause-within
load-requires-clause-within g c =
    let i = c.self.inside in
    let most : c.args.to ≤ length _ = subst (λ (z : List ℤ). c.args.to ≤ length z) (sym c.self.view_is) c.requires.within in
    omega (arith, c.block_edge-block.ensures.high, block-there i.bytes.now i.places.now _ (c.args.to - 1) c.self.invariant.placed (omega (arith, most, c.requires.order, c.if-from-to.false)))

pub edge_in-requires-clause-whole : goal.edge_in-requires-clause-whole
edge_in-requires-clause-whole g c =
    let vs = values_at c.self.inside.bytes.now c.self.inside.places.now in
    let most : c.args.to ≤ length vs = subst (λ (z : List ℤ). c.args.to ≤ length z) (sym c.self.view_is) c.requires.within in
    let h = c.load.ensures vs c.self.invariant.placed c.self.invariant.cached in
    omega (arith, h.which, h.count, part-length vs c.block_edge-block.result, most, c.block_edge-block.ensures.high, c.requires.order, c.if-from-to.false)

pub edge_in-requires-clause-few : goal.edge_in-requires-clause-few
edge_in-requires-clause-few g c =
    let vs = values_at c.self.inside.bytes.now c.self.inside.places.now in
    let h = c.load.ensures vs c.self.invariant.placed c.self.invariant.cached in
    omega (arith, h.count, part-few vs c.block_edge-block.result)

pub invariant_of-self : goal.invariant_of-self
invariant_of-self g c =
    let i = c.self.invariant in
    record { placed = i.placed; count = i.count; cached = loaded-cached _ c.block_edge-block.result c.load.new.cache (c.load.ensures _ i.placed i.cached) }

pub returns-clause-before : goal.returns-clause-before
returns-clause-before g c = λ k a b.
    let vs = values_at c.self.inside.bytes.now c.self.inside.places.now in
    let most : c.args.to ≤ length vs = subst (λ (z : List ℤ). c.args.to ≤ length z) (sym c.self.view_is) c.requires.within in
    let h = c.load.ensures vs c.self.invariant.placed c.self.invariant.cached in
    let e : IsEdge vs c.args.from c.args.to c.edge_in.result (cast_signed w64 (cast_unsigned w64 c.args.bound)) =
    edge-of vs c.args.from c.args.to c.block_edge-block.result c.edge_in.result _ c.load.new.cache (omega (arith, c.requires.order, c.if-from-to.false)) most (c.block_edge-block.ensures.edge vs c.self.invariant.placed) h c.edge_in.ensures in
    let f : IsEdge c.args.self.now c.args.from c.args.to c.edge_in.result c.args.bound =
    subst (λ (z : List ℤ). IsEdge z c.args.from c.args.to c.edge_in.result c.args.bound) c.self.view_is (subst (λ (z : ℤ). IsEdge vs c.args.from c.args.to c.edge_in.result z) (to_z-of_z w64 c.args.bound c.ranges.bound) e) in
    edge-before c.args.self.now c.args.from c.args.to c.edge_in.result c.args.bound c.requires.falling f k a b

pub returns-clause-behind : goal.returns-clause-behind
returns-clause-behind g c = λ k a b.
    let vs = values_at c.self.inside.bytes.now c.self.inside.places.now in
    let most : c.args.to ≤ length vs = subst (λ (z : List ℤ). c.args.to ≤ length z) (sym c.self.view_is) c.requires.within in
    let h = c.load.ensures vs c.self.invariant.placed c.self.invariant.cached in
    let e : IsEdge vs c.args.from c.args.to c.edge_in.result (cast_signed w64 (cast_unsigned w64 c.args.bound)) =
    edge-of vs c.args.from c.args.to c.block_edge-block.result c.edge_in.result _ c.load.new.cache (omega (arith, c.requires.order, c.if-from-to.false)) most (c.block_edge-block.ensures.edge vs c.self.invariant.placed) h c.edge_in.ensures in
    let f : IsEdge c.args.self.now c.args.from c.args.to c.edge_in.result c.args.bound =
    subst (λ (z : List ℤ). IsEdge z c.args.from c.args.to c.edge_in.result c.args.bound) c.self.view_is (subst (λ (z : ℤ). IsEdge vs c.args.from c.args.to c.edge_in.result z) (to_z-of_z w64 c.args.bound c.ranges.bound) e) in
    edge-behind c.args.self.now c.args.from c.args.to c.edge_in.result c.args.bound c.requires.falling f k a b

pub returns-clause-cost : goal.returns-clause-cost
returns-clause-cost g c =
    let vs = values_at c.self.inside.bytes.now c.self.inside.places.now in
    all-paid _ _ c.args.from c.args.to (length c.args.self.now) (omega (arith, c.requires.order, c.if-from-to.false)) c.requires.within c.block_edge-block.ensures.cost (doubled c.tick.new.self c.block_edge-block.new.steps c.args.steps.now c.block_edge-block.ensures.counted c.tick.ensures)
