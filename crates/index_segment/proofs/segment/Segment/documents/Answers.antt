use Rattle.std.specs.Prelude.{◌≡◌, pos, unsigned_abs}
use Rattle.std.proofs.Common.{ap, arith, to_z, of_z, ◌∙◌}
use Rattle.std.specs.Int.{w128}
use Rattle.std.proofs.Math.Facts.{to_z-of_z}
use Rattle.row_cells.specs.RowLists.{documents}
use Rattle.column_pack.specs.Summary.{total_of}
use Rattle.index_segment.specs.Held.{Held, rows_held}
use Rattle.index_segment.proofs.Lent.{documents_total}
use Rattle.index_segment.proofs.segment.Segment.documents.Goals as goal

pub overflow_cast-result : goal.overflow_cast-result
overflow_cast-result c =
    let p = c.self.invariant in
    let s = c.self.inside in
    let rows = rows_held s.schema s.keys s.sizes s.times s.counts s.columns in
    let is : c.sum.result ≡ pos (documents rows) = c.sum.ensures ∙ (ap total_of p.counts_are ∙ documents_total rows) in
    let same : to_z w128 (of_z w128 c.sum.result) ≡ c.sum.result = to_z-of_z {w = w128} (record { sfits = c.sum.type_inv }) in
    record { fits = omega (arith, c.unsigned_abs.ensures.value ∙ ap unsigned_abs (same ∙ is), p.rows_are.few) }

pub returns : goal.returns
returns c =
    let p = c.self.invariant in
    let s = c.self.inside in
    let rows = rows_held s.schema s.keys s.sizes s.times s.counts s.columns in
    let is : c.sum.result ≡ pos (documents rows) = c.sum.ensures ∙ (ap total_of p.counts_are ∙ documents_total rows) in
    let same : to_z w128 (of_z w128 c.sum.result) ≡ c.sum.result = to_z-of_z {w = w128} (record { sfits = c.sum.type_inv }) in
    c.unsigned_abs.ensures.value ∙ (ap unsigned_abs (same ∙ is) ∙ ap (λ (h : Held). documents h.rows) c.self.view_is)
