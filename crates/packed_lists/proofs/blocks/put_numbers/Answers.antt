use Rattle.std.proofs.Common.{◌≡◌, arith, rules, length, ◌*◌, ◌<◌}
use Rattle.packed_lists.specs.Laws.Putting.{put-more, take-part}
use Rattle.packed_lists.proofs.blocks.put_numbers.Goals as goal

pub loop-block-preserved : goal.loop-block-preserved
loop-block-preserved c =
    let vs = c.args.values.now in
    let done = c.loop-block.block in
    let inside : 128 * done < length vs = omega (arith, c.loop-block-test.true) in
    let n : c.len.result ≡ length c.loop-block.into.items = search rules in
    let (block, k, e) = c.in_ok-pack_block.ensures.ok in
    rw (e, c.in_ok-push.ensures.items, n) (put-more c.args.into.now.items c.loop-block.into.items c.loop-block.places.items done vs _ block c.loop-block.invariant inside (take-part vs (128 * done) c.min-to.result (omega arith) (omega arith)) k)
