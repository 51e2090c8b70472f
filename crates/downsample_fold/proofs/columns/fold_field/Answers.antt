use Rattle.std.proofs.Common.{subst}
use Rattle.row_cells.specs.declared.schemas.Role.{Role}
use Rattle.downsample_fold.specs.Columns.{column_of}
use Rattle.downsample_fold.specs.Room.{ColumnHasRoom}
use Rattle.downsample_fold.proofs.ColumnSteps.{gauge_room_any}
use Rattle.downsample_fold.proofs.columns.fold_field.Goals as goal

pub join_gauges-requires-clause-room : goal.join_gauges-requires-clause-room
join_gauges-requires-clause-room c =
    gauge_room_any c.args.rises (column_of c.args.place c.args.rows.now) (subst (λ (role : Role). ColumnHasRoom c.args.rises role (column_of c.args.place c.args.rows.now)) c.in-Gauge.is c.requires.room)
