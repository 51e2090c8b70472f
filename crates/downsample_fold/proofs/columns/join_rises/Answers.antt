use Rattle.std.proofs.Common.{◌-◌, arith}
use Rattle.downsample_fold.proofs.ColumnSteps.{rise_room, rise_more}
use Rattle.downsample_fold.proofs.columns.join_rises.Goals as goal

pub merge-rising-requires : goal.merge-rising-requires
merge-rising-requires c =
    rw (c.rising_of.ensures, c.cell_at-in-loop-at.ensures)
    (rise_room c.args.place c.args.rows.now (c.loop-at.at - 1) c.loop-at.at c.index-rows-at.result (omega arith) c.index-rows-at.is (omega arith) c.loop-at.rising.0 c.loop-at.invariant c.requires.room)

pub loop-at-preserved : goal.loop-at-preserved
loop-at-preserved c =
    rw (c.merge-rising.ensures, c.rising_of.ensures, c.cell_at-in-loop-at.ensures)
    (rise_more c.args.place c.args.rows.now (c.loop-at.at - 1) c.loop-at.at c.index-rows-at.result (omega arith) c.index-rows-at.is (omega arith) c.loop-at.rising.0 c.loop-at.invariant)
