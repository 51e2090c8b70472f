use Rattle.std.proofs.Common.{◌∙◌, subst, sym}
use Rattle.column_block.specs.Rules.{KeepsRules}
use Rattle.probe_columns.proofs.WholeRange.{all-rows}
use Rattle.probe_columns.proofs.columns.is_spelled.Goals as goal

pub build-requires-clause-rules : goal.build-requires-clause-rules
build-requires-clause-rules c = subst KeepsRules (sym (c.in-Ok.ensures ∙ all-rows c.args.column.now c.args.rows c.requires.rows_are)) c.requires.rules
