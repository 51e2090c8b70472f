use Rattle.std.proofs.Common.{List, ap, subst, ◌∙◌, to_z, of_z, w64}
use Rattle.fold_law.specs.Gauges.{merge_gauges}
use Rattle.row_cells.specs.Each.{Each}
use Rattle.index_segment.specs.Held.{Held}
use Rattle.index_segment.specs.Looks.{IsGaugeAt, gauge_of as gauge_over, rows_within}
use Rattle.tsds_index.specs.Segments.{lists_in}
use Rattle.tsds_index.specs.Spread.{newest_first}
use Rattle.tsds_index.proofs.Gauged.{back_joined, over_room}
use Rattle.tsds_index.proofs.gauges.with_sealed.Goals as goal

pub merge-joined-requires : goal.merge-joined-requires
merge-joined-requires c =
    let f = to_z w64 (of_z w64 c.args.from) in
    let t = to_z w64 (of_z w64 c.args.to) in
    over_room c.args.field c.args.key.now f t c.loop-segment.joined (newest_first (lists_in c.loop-segment.left.now)) c.in-Some.segment.now.rows (newest_first (lists_in c.in-Some.rest.now)) (merge_gauges c.args.total (gauge_over c.args.field (rows_within c.args.key.now f t (newest_first (lists_in c.args.segments.now))))) c.loop-segment.invariant.joining c.gauge.result
    (ap (λ (gs : List Held). newest_first (lists_in gs)) c.in-Some.ensures.cases.0) c.gauge.ensures

pub loop-segment-preserved : goal.loop-segment-preserved
loop-segment-preserved c =
    let f = to_z w64 (of_z w64 c.args.from) in
    let t = to_z w64 (of_z w64 c.args.to) in
    record {
      fields = (subst (λ (gs : List Held). Each (λ segment. IsGaugeAt segment.schema.fields c.args.field) gs) c.in-Some.ensures.cases.0 c.loop-segment.invariant.fields).1;
      joining = back_joined c.args.field c.args.key.now f t c.loop-segment.joined (newest_first (lists_in c.loop-segment.left.now)) c.in-Some.segment.now.rows (newest_first (lists_in c.in-Some.rest.now)) (merge_gauges c.args.total (gauge_over c.args.field (rows_within c.args.key.now f t (newest_first (lists_in c.args.segments.now))))) c.loop-segment.invariant.joining c.merge-joined.result
          (ap (λ (gs : List Held). newest_first (lists_in gs)) c.in-Some.ensures.cases.0) (c.merge-joined.ensures ∙ ap (merge_gauges c.loop-segment.joined) c.gauge.ensures);
    }
