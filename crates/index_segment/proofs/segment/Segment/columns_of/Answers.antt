use Rattle.std.specs.Prelude.{◌+◌, ◌≤◌, length, take, slice_range}
use Rattle.std.proofs.Common.{arith, ap, subst, sym, ◌∙◌}
use Rattle.index_segment.specs.Columns.{columns_at, columns_of}
use Rattle.index_segment.specs.Forms.{forms_of, widths}
use Rattle.index_segment.specs.Held.{Held, rows_held}
use Rattle.index_segment.proofs.Lent.{columns_ordered, columns_reach, columns_there}
use Rattle.index_segment.proofs.segment.Segment.columns_of.Goals as goal

pub columns_between-requires-clause-order : goal.columns_between-requires-clause-order
columns_between-requires-clause-order c = omega (arith, c.columns_before-first.ensures, c.columns_before-last.ensures, columns_ordered (forms_of c.self.inside.schema) c.args.field)

pub columns_between-requires-clause-within : goal.columns_between-requires-clause-within
columns_between-requires-clause-within c =
    let s = c.self.inside in
    let rows = rows_held s.schema s.keys s.sizes s.times s.counts s.columns in
    omega (arith, c.columns_before-last.ensures, columns_reach s.schema rows (c.args.field + 1), ap length (c.as_slice.ensures ∙ c.self.invariant.columns_are))

pub returns : goal.returns
returns c =
    let s = c.self.inside in
    let n = c.args.field in
    let rows = rows_held s.schema s.keys s.sizes s.times s.counts s.columns in
    let less = subst (λ (h : Held). n + 1 ≤ length h.schema.fields) (sym c.self.view_is) (omega (arith, c.requires)) in
    let i = c.columns_before-first.result in
    let j = c.columns_before-last.result in
    c.columns_between.ensures
    ∙ (ap (λ xs. slice_range xs i j) (c.as_slice.ensures ∙ c.self.invariant.columns_are)
    ∙ (ap (λ k. slice_range (columns_of s.schema rows) k j) c.columns_before-first.ensures
    ∙ (ap (λ k. slice_range (columns_of s.schema rows) (widths (take n (forms_of s.schema))) k) c.columns_before-last.ensures
    ∙ (columns_there s.schema rows n (omega (arith, less)) ∙ ap (λ (h : Held). columns_at h.schema h.rows n) c.self.view_is))))
