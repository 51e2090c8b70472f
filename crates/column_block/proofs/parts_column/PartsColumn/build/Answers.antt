use Rattle.column_block.proofs.Aheads.{built-long}
use Rattle.column_block.proofs.PartsColumns.{parts-are, parts-built}
use Rattle.column_block.proofs.parts_column.PartsColumn.build.Goals as goal

pub count_rows-requires : goal.count_rows-requires
count_rows-requires c =
    let (nums, h, f) = c.in_ok-places.ensures.spelled in
    built-long c.args.rows.now c.new-bytes.result.items c.put_presence.new.into.items c.put_parts.new.into.items c.as_slice-2.result.now nums c.new-bytes.ensures.items c.in_ok-put_presence.ensures f c.as_slice-2.ensures.value

pub invariant_of-result : goal.invariant_of-result
invariant_of-result c =
    let h = parts-built c.args.rows.now c.new-bytes.result.items c.put_presence.new.into.items c.put_parts.new.into.items c.as_slice-2.result.now c.in_ok-places.places c.in_ok-counts.counts.items c.in_ok-parts.parts.items c.as_slice.result.now
    c.requires.rules c.requires.few c.new-bytes.ensures.items c.in_ok-put_presence.ensures c.in_ok-parts.ensures c.as_slice.ensures.value c.in_ok-places.ensures.spelled c.in_ok-places.ensures.placed c.as_slice-2.ensures.value c.in_ok-counts.ensures in
    rw (parts-are _ _ _ _ c.args.rows.now h) h

pub returns : goal.returns
returns c =
    parts-are _ _ _ _ c.args.rows.now (parts-built c.args.rows.now c.new-bytes.result.items c.put_presence.new.into.items c.put_parts.new.into.items c.as_slice-2.result.now c.in_ok-places.places c.in_ok-counts.counts.items c.in_ok-parts.parts.items c.as_slice.result.now
    c.requires.rules c.requires.few c.new-bytes.ensures.items c.in_ok-put_presence.ensures c.in_ok-parts.ensures c.as_slice.ensures.value c.in_ok-places.ensures.spelled c.in_ok-places.ensures.placed c.as_slice-2.ensures.value c.in_ok-counts.ensures)
