use Rattle.std.proofs.Common.{◌-◌, arith}
use Rattle.downsample_fold.proofs.ColumnSteps.{gauge_room, gauge_more}
use Rattle.downsample_fold.proofs.columns.join_gauges.Goals as goal

pub merge-gauge-requires : goal.merge-gauge-requires
merge-gauge-requires c =
    rw (c.gauge_of.ensures, c.cell_at-in-loop-at.ensures)
    (gauge_room c.args.place c.args.rows.now (c.loop-at.at - 1) c.loop-at.at c.index-rows-at.result (omega arith) c.index-rows-at.is (omega arith) c.loop-at.gauge.0 c.loop-at.invariant c.requires.room)

pub loop-at-preserved : goal.loop-at-preserved
loop-at-preserved c =
    rw (c.merge-gauge.ensures, c.gauge_of.ensures, c.cell_at-in-loop-at.ensures)
    (gauge_more c.args.place c.args.rows.now (c.loop-at.at - 1) c.loop-at.at c.index-rows-at.result (omega arith) c.index-rows-at.is (omega arith) c.loop-at.gauge.0 c.loop-at.invariant)
