use Rattle.std.proofs.Common.{refl, arith, drop}
use Rattle.column_block.proofs.SixLists.{none-lists, begins-first, lists-more}
use Rattle.column_block.proofs.six_lists.find_lists.Goals as goal

pub loop-init : goal.loop-init
loop-init c = none-lists c.args.bytes.now c.args.from c.args.count c.args.lists c.new-places.result.items c.requires c.new-places.ensures.items

pub find_numbers-requires : goal.find_numbers-requires
find_numbers-requires c = let (lists, h, n, ahead) = c.loop.invariant in h.within

pub returns-in_default-clause-none : goal.returns-in_default-clause-none
returns-in_default-clause-none c = λ _ b.
    let (lists, h, n, ahead) = c.loop.invariant in
    let (vs, nums, rest, m, k, e) = begins-first _ c.args.count (drop c.loop.end c.args.bytes.now) (ahead b) (omega (arith, c.loop-test.true)) in
    c.in_ok-found.ensures.none (rw c.in_default.is refl) vs nums rest m k e

pub loop-preserved : goal.loop-preserved
loop-preserved c =
    let (vs, f, m) = rw c.in-Some.is at c.in_ok-found.ensures.some in
    rw (c.in_ok-push.ensures.items, c.from_vec.ensures) (lists-more c.args.bytes.now c.args.from c.loop.end c.in-Some.found.end c.loop.places.items c.args.count c.loop.counter c.args.lists c.in-Some.found.places.items vs c.loop.invariant c.loop-test.true f m)

pub returns-clause-some : goal.returns-clause-some
returns-clause-some c =
    let (lists, h, n, ahead) = c.loop.invariant in
    (lists, rw c.from_vec-2.ensures h, omega (arith, n, c.loop.auto.counter-end, c.loop-test.false))
