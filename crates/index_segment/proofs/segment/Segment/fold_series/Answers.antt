use Rattle.std.specs.Prelude.{◌≤◌, List, [], slice_index_or, slice_range}
use Rattle.std.proofs.Common.{ap, subst, sym, w64, to_z, of_z, ◌∙◌}
use Rattle.std.proofs.Math.Facts.{to_z-of_z}
use Rattle.downsample_fold.specs.Direct.{down}
use Rattle.row_cells.specs.Limits.{most_documents}
use Rattle.row_cells.specs.EachLaws.{Each-weaker}
use Rattle.row_cells.specs.Fitting.{Fits}
use Rattle.row_cells.specs.KeyedRows.{IsRowOf}
use Rattle.row_cells.specs.RangeLaws.{range_is_rows}
use Rattle.row_cells.specs.RowLists.{AllFit, AreInRowOrder, documents}
use Rattle.row_cells.specs.declared.rows.Row.{Row}
use Rattle.time_text.specs.Interval.{ms_of}
use Rattle.index_segment.specs.Directory.{keys_of}
use Rattle.index_segment.specs.Looks.{rows_within}
use Rattle.index_segment.proofs.segment.Segment.fold_series.Goals as goal

pub fold_all-requires-clause-fit : goal.fold_all-requires-clause-fit
fold_all-requires-clause-fit c =
    let h = c.args.self.now in
    let i = c.range-range.result.first in
    let j = c.range-range.result.last in
    let is = sym (c.as_slice.ensures.value ∙ c.in_ok-rows.ensures) in
    let part = range_is_rows h.schema h.rows i j c.schema.ensures.rows in
    subst (λ s. AllFit s c.as_slice.result.now) (sym c.schema.ensures.is) (subst (AllFit h.schema) is (Each-weaker (IsRowOf h.schema) (Fits h.schema) (λ row one. one.fits) (slice_range h.rows i j) part.each))

pub fold_all-requires-clause-in_order : goal.fold_all-requires-clause-in_order
fold_all-requires-clause-in_order c =
    let h = c.args.self.now in
    subst AreInRowOrder (sym (c.as_slice.ensures.value ∙ c.in_ok-rows.ensures)) (range_is_rows h.schema h.rows c.range-range.result.first c.range-range.result.last c.schema.ensures.rows).in_order

pub fold_all-requires-clause-few : goal.fold_all-requires-clause-few
fold_all-requires-clause-few c =
    let h = c.args.self.now in
    subst (λ (rows : List Row). documents rows ≤ most_documents) (sym (c.as_slice.ensures.value ∙ c.in_ok-rows.ensures)) (range_is_rows h.schema h.rows c.range-range.result.first c.range-range.result.last c.schema.ensures.rows).few

pub returns : goal.returns
returns c =
    let h = c.args.self.now in
    let key = slice_index_or (keys_of h.rows) c.args.series [] in
    let same = c.as_slice.ensures.value ∙ (c.in_ok-rows.ensures
    ∙ (sym c.range-range.ensures.is.same
    ∙ (ap (λ f. rows_within key f (to_z w64 (of_z w64 c.args.to)) h.rows) (to_z-of_z {w = w64} c.ranges.from)
    ∙ ap (λ t. rows_within key c.args.from t h.rows) (to_z-of_z {w = w64} c.ranges.to)))) in
    c.in_ok-folded.ensures.folded
    ∙ (ap (λ s. down s c.as_slice.result.now (ms_of c.args.by)) c.schema.ensures.is
    ∙ ap (λ (rows : List Row). down h.schema rows (ms_of c.args.by)) same)
