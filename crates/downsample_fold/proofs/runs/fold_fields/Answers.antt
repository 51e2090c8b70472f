use Rattle.downsample_fold.proofs.FieldSteps.{room_here, folded_here}
use Rattle.downsample_fold.proofs.runs.fold_fields.Goals as goal

pub fold_field-requires-clause-room : goal.fold_field-requires-clause-room
fold_field-requires-clause-room c =
    rw (← c.index-fields-place.is) (room_here c.args.rises c.args.fields.now c.args.rows.now c.loop-place.place c.index-fields-place.result c.loop-place-test.true c.index-fields-place.is c.loop-place.invariant.room).0

pub loop-place-preserved : goal.loop-place-preserved
loop-place-preserved c = record {
  so_far =
      rw (c.in_ok-push.ensures.items, c.in_ok-fold_field.ensures, ← c.index-fields-place.is)
      (folded_here c.args.rises c.args.fields.now c.args.rows.now c.loop-place.place c.index-fields-place.result c.loop-place-test.true c.index-fields-place.is c.loop-place.cells.items c.loop-place.invariant.so_far);
  room = (room_here c.args.rises c.args.fields.now c.args.rows.now c.loop-place.place c.index-fields-place.result c.loop-place-test.true c.index-fields-place.is c.loop-place.invariant.room).1;
}
