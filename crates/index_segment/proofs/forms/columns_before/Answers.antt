use Rattle.std.proofs.Common.{ap, take}
use Rattle.index_segment.specs.Forms.{form_of}
use Rattle.index_segment.proofs.Gauging.{widths_before}
use Rattle.index_segment.proofs.forms.columns_before.Goals as goal

pub returns : goal.returns
returns c =
    let s = c.args.schema.now in
    widths_before (λ f. form_of s.folded s.rises f.kind f.role) s.fields (take c.args.place c.as_slice-fields.result.now) c.args.place c.loop-field.field-index c.loop-field.columns (ap (take c.args.place) c.as_slice-fields.ensures) c.loop-field-test.false c.loop-field.invariant.rest
