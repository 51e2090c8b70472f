use Rattle.row_cells.proofs.Beside.{room_here}
use Rattle.row_cells.proofs.folding.merge_all.Goals as goal

pub merge_one-requires : goal.merge_one-requires
merge_one-requires c =
    rw (← c.index-fields-i.is) (room_here c.args.fields.now c.args.earlier.now c.args.later.now c.loop-i.i c.index-fields-i.result c.index-earlier-i.result c.index-later-i.result c.loop-i-test.true c.index-fields-i.is c.index-earlier-i.is c.index-later-i.is c.requires c.loop-i.invariant.room).0
