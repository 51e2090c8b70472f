use Rattle.std.proofs.Common.{◌∙◌, [], map, ap, sym}
use Rattle.row_cells.specs.declared.scalars.Scalar.TheVariants.{Word}
use Rattle.synthetic_source.proofs.Sorting.{text_order}
use Rattle.synthetic_source.proofs.ordering.texts_in_order.Goals as goal

pub returns : goal.returns
returns c = c.in_ok-values.ensures ∙ (ap (map Word) c.in_ok-set.ensures ∙ sym (text_order [] c.args.texts.items))
