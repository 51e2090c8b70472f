use Rattle.column_block.proofs.Aheads.{built-long}
use Rattle.column_block.proofs.Wholes.{whole-is, built-from}
use Rattle.column_block.proofs.whole.WholeColumn.build.Goals as goal

pub count_rows-requires : goal.count_rows-requires
count_rows-requires c =
    let (nums, h, f) = c.in_ok-places.ensures.spelled in
    built-long c.args.rows.now c.new-bytes.result.items c.put_presence.new.into.items c.put_numbers.new.into.items c.as_slice-2.result.now nums c.new-bytes.ensures.items c.in_ok-put_presence.ensures f c.as_slice-2.ensures.value

pub invariant_of-result : goal.invariant_of-result
invariant_of-result c =
    let h = built-from c.args.rows.now c.new-bytes.result.items c.put_presence.new.into.items c.put_numbers.new.into.items c.as_slice-2.result.now c.in_ok-places.places.items c.in_ok-counts.counts.items c.in_ok-numbers.numbers.items c.as_slice.result.now
    c.requires c.new-bytes.ensures.items c.in_ok-put_presence.ensures c.in_ok-numbers.ensures c.as_slice.ensures.value c.in_ok-places.ensures.spelled c.in_ok-places.ensures.placed c.as_slice-2.ensures.value c.in_ok-counts.ensures in
    rw (whole-is _ _ _ _ c.args.rows.now h) h

pub returns : goal.returns
returns c =
    whole-is _ _ _ _ c.args.rows.now (built-from c.args.rows.now c.new-bytes.result.items c.put_presence.new.into.items c.put_numbers.new.into.items c.as_slice-2.result.now c.in_ok-places.places.items c.in_ok-counts.counts.items c.in_ok-numbers.numbers.items c.as_slice.result.now
    c.requires c.new-bytes.ensures.items c.in_ok-put_presence.ensures c.in_ok-numbers.ensures c.as_slice.ensures.value c.in_ok-places.ensures.spelled c.in_ok-places.ensures.placed c.as_slice-2.ensures.value c.in_ok-counts.ensures)
