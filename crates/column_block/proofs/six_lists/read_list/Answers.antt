use Rattle.std.proofs.Common.{arith, [], get_or}
use Rattle.column_block.specs.Spelling.{six_lists}
use Rattle.packed_lists.specs.Laws.Listed.{places-lists}
use Rattle.column_block.proofs.SixLists.{list-blocks, list-block-within, list-count, block-few, list-number}
use Rattle.column_block.proofs.six_lists.read_list.Goals as goal

pub bounds-places-list : goal.bounds-places-list
bounds-places-list c =
    let (ps, h, within) = c.requires.parts in
    omega (arith, places-lists c.args.bytes.now c.args.places.now (six_lists ps) h, c.requires.list)

pub read_block_of-requires-clause-within : goal.read_block_of-requires-clause-within
read_block_of-requires-clause-within c =
    let (ps, h, within) = c.requires.parts in
    list-block-within c.args.bytes.now c.args.places.now ps c.args.list c.args.block c.as_slice.result.now c.index-places-list.result h c.requires.list within c.index-places-list.is c.as_slice.ensures

pub returns-clause-count : goal.returns-clause-count
returns-clause-count c = λ ps h.
    list-count ps c.args.list c.args.block c.read_block_of.result c.requires.list
    (c.read_block_of.ensures.count (get_or (six_lists ps) c.args.list []) (list-blocks c.args.bytes.now c.args.places.now ps c.args.list c.as_slice.result.now c.index-places-list.result h c.requires.list c.index-places-list.is c.as_slice.ensures))

pub returns-clause-few : goal.returns-clause-few
returns-clause-few c =
    let (ps, h, within) = c.requires.parts in
    block-few (get_or (six_lists ps) c.args.list []) c.args.block c.read_block_of.result
    (c.read_block_of.ensures.count (get_or (six_lists ps) c.args.list []) (list-blocks c.args.bytes.now c.args.places.now ps c.args.list c.as_slice.result.now c.index-places-list.result h c.requires.list c.index-places-list.is c.as_slice.ensures))

pub returns-clause-numbers : goal.returns-clause-numbers
returns-clause-numbers c = λ ps h k l.
    let vs = get_or (six_lists ps) c.args.list [] in
    let at = list-blocks c.args.bytes.now c.args.places.now ps c.args.list c.as_slice.result.now c.index-places-list.result h c.requires.list c.index-places-list.is c.as_slice.ensures in
    list-number ps c.args.list c.args.block c.read_block_of.result k c.read_block_of.new.into _ c.requires.list (c.read_block_of.ensures.count vs at) l (c.read_block_of.ensures.numbers vs at)
