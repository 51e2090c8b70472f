use Rattle.std.specs.Prelude.{[], slice_index_or}
use Rattle.std.proofs.Common.{w64, to_z, of_z, arith, subst, sym}
use Rattle.std.proofs.Math.Facts.{to_z-of_z}
use Rattle.index_segment.specs.Directory.{keys_of, row_keys}
use Rattle.index_segment.specs.Held.{Held, rows_held}
use Rattle.index_segment.specs.Looks.{IsRange}
use Rattle.index_segment.specs.Order.{Stands}
use Rattle.index_segment.proofs.Places.{last_within, range_is, times_fall}
use Rattle.index_segment.proofs.segment.Segment.range.Goals as goal

pub cut-first-requires-clause-within : goal.cut-first-requires-clause-within
cut-first-requires-clause-within c = rw c.cursor-times.ensures (last_within _ _ _ _ _ _ _ _ c.self.invariant _ _ _ (subst (λ (h : Held). Stands (row_keys h.rows) (slice_index_or (keys_of h.rows) c.args.series []) c.series_rows-rows.result.first c.series_rows-rows.result.last) (sym c.self.view_is) c.series_rows-rows.ensures.stands))

pub cut-first-requires-clause-falling : goal.cut-first-requires-clause-falling
cut-first-requires-clause-falling c = rw c.cursor-times.ensures (times_fall _ _ _ _ _ _ _ _ c.self.invariant _ _ _ (subst (λ (h : Held). Stands (row_keys h.rows) (slice_index_or (keys_of h.rows) c.args.series []) c.series_rows-rows.result.first c.series_rows-rows.result.last) (sym c.self.view_is) c.series_rows-rows.ensures.stands))

pub cut-last-requires-clause-within : goal.cut-last-requires-clause-within
cut-last-requires-clause-within c = rw (c.cut-first.ensures.same, c.cursor-times.ensures) (last_within _ _ _ _ _ _ _ _ c.self.invariant _ _ _ (subst (λ (h : Held). Stands (row_keys h.rows) (slice_index_or (keys_of h.rows) c.args.series []) c.series_rows-rows.result.first c.series_rows-rows.result.last) (sym c.self.view_is) c.series_rows-rows.ensures.stands))

pub cut-last-requires-clause-falling : goal.cut-last-requires-clause-falling
cut-last-requires-clause-falling c = rw (c.cut-first.ensures.same, c.cursor-times.ensures) (λ i j from less to.
    let fall = times_fall _ _ _ _ _ _ _ _ c.self.invariant _ _ _ (subst (λ (h : Held). Stands (row_keys h.rows) (slice_index_or (keys_of h.rows) c.args.series []) c.series_rows-rows.result.first c.series_rows-rows.result.last) (sym c.self.view_is) c.series_rows-rows.ensures.stands) in
    fall i j (omega (arith, from, c.cut-first.ensures.low)) less to)

pub returns-clause-is : goal.returns-clause-is
returns-clause-is c =
    let n = c.args.series in
    let stands = subst (λ (h : Held). Stands (row_keys h.rows) (slice_index_or (keys_of h.rows) n []) c.series_rows-rows.result.first c.series_rows-rows.result.last) (sym c.self.view_is) c.series_rows-rows.ensures.stands in
    let i = c.cut-first.result in
    let j = c.cut-last.result in
    let s = c.self.inside in
    let rows = rows_held s.schema s.keys s.sizes s.times s.counts s.columns in
    let key = slice_index_or (keys_of rows) n [] in
    subst (λ (h : Held). IsRange (slice_index_or (keys_of h.rows) n []) c.args.from c.args.to h.rows i j) c.self.view_is
    (subst (λ f. IsRange key f c.args.to rows i j) (to_z-of_z {w = w64} c.ranges.from)
    (subst (λ t. IsRange key (to_z w64 (of_z w64 c.args.from)) t rows i j) (to_z-of_z {w = w64} c.ranges.to)
    (range_is _ _ _ _ _ _ _ _ c.self.invariant key _ _ c.series_rows-rows.result.first c.series_rows-rows.result.last i j stands c.cut-first.ensures.low c.cut-last.ensures.low c.cut-last.ensures.high (rw c.cursor-times.ensures at c.cut-first.ensures.before) (rw c.cursor-times.ensures at c.cut-first.ensures.behind) (rw (c.cut-first.ensures.same, c.cursor-times.ensures) at c.cut-last.ensures.before) (rw (c.cut-first.ensures.same, c.cursor-times.ensures) at c.cut-last.ensures.behind))))
