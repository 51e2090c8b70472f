use Rattle.std.proofs.Common.{◌≡◌, ◌+◌, ◌≤◌, ◌*◌, drop, map}
use Rattle.index_segment.specs.Forms.{form_of, widths}
use Rattle.index_segment.proofs.forms.columns_before.Given as goal

abbrev pub invariant-loop-field : goal.invariant-loop-field
invariant-loop-field l = record {
  few : l.columns ≤ 4 * l.field-index;
  rest : l.columns + widths (map (λ f. form_of l.schema.folded l.schema.rises f.kind f.role) (drop l.field-index l.field-items)) ≡ widths (map (λ f. form_of l.schema.folded l.schema.rises f.kind f.role) l.field-items);
}
