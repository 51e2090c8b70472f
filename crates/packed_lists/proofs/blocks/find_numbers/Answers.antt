use Rattle.std.proofs.Common.{◌∙◌, sym, refl, drop}
use Rattle.std.proofs.lemmas.List.{take_rest}
use Rattle.packed_lists.specs.Laws.Putting.{none-found, found-more, begins-block}
use Rattle.packed_lists.proofs.blocks.find_numbers.Goals as goal

pub loop-left-init : goal.loop-left-init
loop-left-init c = none-found c.args.bytes.now c.args.from c.args.count c.new-places.result.items c.requires c.new-places.ensures.items

pub returns-in_default-clause-none : goal.returns-in_default-clause-none
returns-in_default-clause-none c = λ _ vs nums rest n h e.
    let (ws, block, behind, m, k, f) = begins-block c.loop-left.left (drop c.loop-left.end c.args.bytes.now) (c.loop-left.invariant.ahead (vs, nums, rest, n, h, e)) c.loop-left-test.true in
    c.in_default.ensures.none refl ws block behind (m ∙ sym c.min-size.ensures) k (take_rest c.args.bytes.now c.loop-left.end ∙ f)

pub loop-left-preserved : goal.loop-left-preserved
loop-left-preserved c =
    let l = c.loop-left in
    let (fits, (ws, k, n)) = c.in-Some.ensures.some in
    rw c.in_ok-push.ensures.items (found-more c.args.bytes.now c.args.from l.end l.places.items c.args.count l.left c.min-size.result c.in-Some.len ws l.invariant c.loop-left-test.true c.min-size.ensures fits k n)
