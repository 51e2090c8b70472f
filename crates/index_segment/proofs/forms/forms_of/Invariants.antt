use Rattle.std.proofs.Common.{◌≡◌, map, take}
use Rattle.index_segment.specs.Forms.{form_of}
use Rattle.index_segment.proofs.forms.forms_of.Given as goal

abbrev pub invariant-loop-field : goal.invariant-loop-field
invariant-loop-field l = l.forms.items ≡ map (λ f. form_of l.schema.folded l.schema.rises f.kind f.role) (take l.field-index l.fields)
