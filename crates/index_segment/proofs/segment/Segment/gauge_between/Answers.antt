use Rattle.std.proofs.Common.{◌≤◌, ap, arith, length, slice_range, sym, subst, ◌∙◌}
use Rattle.std.specs.List.{slice_get}
use Rattle.index_segment.specs.Columns.{columns_of}
use Rattle.index_segment.specs.Held.{Held, rows_held}
use Rattle.index_segment.specs.Looks.{IsGaugeAt, gauge_of}
use Rattle.index_segment.proofs.Gauging.{gauge_field, gauge_is, no_column}
use Rattle.index_segment.proofs.Lent.{rows_few}
use Rattle.index_segment.proofs.segment.Segment.gauge_between.Goals as goal

pub columns_before-place-requires : goal.columns_before-place-requires
columns_before-place-requires c =
    let g = subst (λ (h : Held). IsGaugeAt h.schema.fields c.args.field) (sym c.self.view_is) c.requires.gauge in
    omega (arith, gauge_field c.self.inside.schema.fields c.args.field g)

pub overflow_cast-from : goal.overflow_cast-from
overflow_cast-from c =
    let within = subst (λ (h : Held). c.args.to ≤ length h.rows) (sym c.self.view_is) c.requires.within in
    omega (arith, within, c.requires.order, rows_few _ _ _ _ _ _ _ _ c.self.invariant)

pub overflow_cast-to : goal.overflow_cast-to
overflow_cast-to c =
    let within = subst (λ (h : Held). c.args.to ≤ length h.rows) (sym c.self.view_is) c.requires.within in
    omega (arith, within, rows_few _ _ _ _ _ _ _ _ c.self.invariant)

pub returns-in-Some : goal.returns-in-Some
returns-in-Some c =
    let s = c.self.inside in
    let rows = rows_held s.schema s.keys s.sizes s.times s.counts s.columns in
    let g = subst (λ (h : Held). IsGaugeAt h.schema.fields c.args.field) (sym c.self.view_is) c.requires.gauge in
    c.gauge.ensures.gauge
    ∙ (gauge_is s.schema rows c.args.field c.args.from c.args.to c.in-Some.column.now c.self.invariant.rows_are g (c.in-Some.ensures ∙ (ap (λ cs. slice_get cs c.columns_before-place.result) (c.as_slice.ensures ∙ c.self.invariant.columns_are) ∙ ap (slice_get (columns_of s.schema rows)) c.columns_before-place.ensures))
    ∙ ap (λ (h : Held). gauge_of c.args.field (slice_range h.rows c.args.from c.args.to)) c.self.view_is)

pub returns-in-None : goal.returns-in-None
returns-in-None c =
    let s = c.self.inside in
    let rows = rows_held s.schema s.keys s.sizes s.times s.counts s.columns in
    let g = subst (λ (h : Held). IsGaugeAt h.schema.fields c.args.field) (sym c.self.view_is) c.requires.gauge in
    absurd (no_column s.schema rows c.args.field c.self.invariant.rows_are g (c.in-None.ensures ∙ (ap (λ cs. slice_get cs c.columns_before-place.result) (c.as_slice.ensures ∙ c.self.invariant.columns_are) ∙ ap (slice_get (columns_of s.schema rows)) c.columns_before-place.ensures)))
