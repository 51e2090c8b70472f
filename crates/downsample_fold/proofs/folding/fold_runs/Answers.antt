use Rattle.std.proofs.Common.{◌<◌, arith, length, take}
use Rattle.std.proofs.lemmas.List.Sums.{prefix_len-le-length}
use Rattle.row_cells.specs.Fitting.{Fits}
use Rattle.row_cells.specs.RangeLaws.{each_drop, each_take, documents_parts}
use Rattle.time_text.specs.Interval.{ms_of}
use Rattle.downsample_fold.specs.JoinedFitLaws.{AllFit-cells}
use Rattle.downsample_fold.specs.Joined.{joined}
use Rattle.downsample_fold.proofs.RunSteps.{with_first, run_some, joined_first, first_has_room, one_run_more}
use Rattle.downsample_fold.proofs.folding.fold_runs.Goals as goal

pub split_at-requires : goal.split_at-requires
split_at-requires c =
    rw c.run_length.ensures (prefix_len-le-length (with_first (ms_of c.args.by) c.in-Some.first.now) c.loop-first.rest.now)

pub fold_run-requires-clause-some : goal.fold_run-requires-clause-some
fold_run-requires-clause-some c =
    rw (c.split_at.ensures.front_len, c.run_length.ensures)
    (run_some c.args.schema.now (ms_of c.args.by) c.in-Some.first.now c.loop-first.rest.now c.in-Some.ensures.value)

pub fold_run-requires-clause-few : goal.fold_run-requires-clause-few
fold_run-requires-clause-few c = rw c.split_at.ensures.front (omega (arith, c.loop-first.invariant.few, documents_parts c.run_length.result c.loop-first.rest.now))

pub fold_run-requires-clause-cells : goal.fold_run-requires-clause-cells
fold_run-requires-clause-cells c =
    rw c.split_at.ensures.front (AllFit-cells c.args.schema.now (take c.run_length.result c.loop-first.rest.now) (each_take (Fits c.args.schema.now) c.run_length.result c.loop-first.rest.now c.loop-first.invariant.fit))

pub fold_run-requires-clause-room : goal.fold_run-requires-clause-room
fold_run-requires-clause-room c =
    rw (c.split_at.ensures.front, c.run_length.ensures)
    (first_has_room c.args.schema.now (ms_of c.args.by) c.in-Some.first.now c.loop-first.rest.now (omega (arith, c.args.by.in_range)) c.loop-first.invariant.fit c.loop-first.invariant.few)

pub loop-first-smaller : goal.loop-first-smaller
loop-first-smaller c =
    let some = run_some c.args.schema.now (ms_of c.args.by) c.in-Some.first.now c.loop-first.rest.now c.in-Some.ensures.value in
    let shorter : length c.split_at.result.1.now < length c.loop-first.rest.now = omega (arith, c.split_at.ensures.back_len, c.run_length.ensures, some) in
    shorter

pub loop-first-preserved : goal.loop-first-preserved
loop-first-preserved c = record {
  so_far =
      rw (c.in_ok-push.ensures.items, c.in_ok-fold_run.ensures, c.split_at.ensures.front, c.split_at.ensures.back, c.run_length.ensures)
      (one_run_more c.loop-first.folded.items _ (joined c.args.schema.now (ms_of c.args.by) c.args.rows.now) (joined c.args.schema.now (ms_of c.args.by) c.loop-first.rest.now) _
      (joined_first c.args.schema.now (ms_of c.args.by) c.in-Some.first.now c.loop-first.rest.now c.in-Some.ensures.value (AllFit-cells c.args.schema.now c.loop-first.rest.now c.loop-first.invariant.fit))
      c.loop-first.invariant.so_far);
  fit = rw c.split_at.ensures.back (each_drop (Fits c.args.schema.now) c.run_length.result c.loop-first.rest.now c.loop-first.invariant.fit);
  few = rw c.split_at.ensures.back (omega (arith, c.loop-first.invariant.few, documents_parts c.run_length.result c.loop-first.rest.now));
}
