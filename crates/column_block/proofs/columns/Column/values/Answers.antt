use Rattle.std.proofs.Common.{◌∙◌}
use Rattle.column_block.specs.Columned.{values_in}
use Rattle.column_block.proofs.Clamped.{same-between}
use Rattle.column_block.proofs.columns.Column.values.Goals as goal

pub returns : goal.returns
returns c =
    c.in_ok-values.ensures ∙ same-between (values_in c.self.inside.packed) c.args.self.now c.args.from c.args.to c.clamp-range.result.from c.clamp-range.result.to c.len_of.result c.self.view_is c.len_of.ensures c.clamp-range.ensures.from c.clamp-range.ensures.to
