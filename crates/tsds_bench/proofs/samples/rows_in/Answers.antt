use Rattle.row_cells.specs.OrderLaws.{each_push}
use Rattle.row_cells.specs.KeyedRows.{IsRowOf}
use Rattle.tsds_bench.proofs.samples.rows_in.Goals as goal

pub loop-place-preserved : goal.loop-place-preserved
loop-place-preserved c = rw c.in_ok-push.ensures.items (each_push (IsRowOf c.args.schema.now) c.loop-place.rows.items c.in_ok-row.row c.loop-place.invariant c.in_ok-row.ensures)
