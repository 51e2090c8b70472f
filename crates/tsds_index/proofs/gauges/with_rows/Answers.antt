use Rattle.std.proofs.Common.{[], ◌∷◌, to_z, of_z, w64}
use Rattle.fold_law.specs.Gauges.{merge_gauges}
use Rattle.index_segment.specs.Looks.{gauge_of as gauge_over, rows_within}
use Rattle.tsds_index.proofs.Gauged.{front_joined}
use Rattle.tsds_index.proofs.gauges.with_rows.Goals as goal

pub loop-row-preserved : goal.loop-row-preserved
loop-row-preserved c =
    let f = to_z w64 (of_z w64 c.args.from) in
    let t = to_z w64 (of_z w64 c.args.to) in
    front_joined c.args.field c.args.key.now f t c.loop-row.joined c.loop-row.left.now (c.in-Some.row.now ∷ []) c.in-Some.rest.now (merge_gauges c.args.total (gauge_over c.args.field (rows_within c.args.key.now f t c.args.rows.now))) c.loop-row.invariant c.with_row-joined.result c.in-Some.ensures.cases.0 c.with_row-joined.ensures
