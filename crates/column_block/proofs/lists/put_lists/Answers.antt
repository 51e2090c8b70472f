use Rattle.std.proofs.Common.{◌≡◌, ◌++◌, List, ℕ}
use Rattle.packed_lists.specs.Nums.{IsNums}
use Rattle.packed_lists.specs.Decoded.{AreBlocksAt}
use Rattle.packed_lists.specs.Laws.Spelled.{spelled-more, placed-more}
use Rattle.column_block.proofs.lists.put_lists.Goals as goal

pub loop-list-preserved : goal.loop-list-preserved
loop-list-preserved c =
    let l = c.loop-list in
    let now = c.put_numbers.new.into.items in
    let vs = c.list-item.result in
    let same = c.as_slice.ensures in
    let put : (nums : List ℕ) × IsNums vs nums × (now ≡ l.into.items ++ nums) = rw same at c.in_ok-put_numbers.ensures.spelled in
    let at : AreBlocksAt now c.in_ok-put_numbers.field-0.items vs = rw same at c.in_ok-put_numbers.ensures.placed in
    rw (c.in_ok-push.ensures.items, c.from_vec.ensures) (record {
      spelled = spelled-more c.args.lists.now l.list-index c.args.into.now.items l.into.items now vs c.loop-list-test.true c.list-item.is l.invariant.spelled put;
      placed = placed-more c.args.lists.now l.list-index l.into.items now l.places.items c.in_ok-put_numbers.field-0.items vs c.loop-list-test.true c.list-item.is l.invariant.placed put at;
    })
