use Rattle.std.proofs.Common.{ap, ◌∙◌}
use Rattle.search_filter.specs.Splitting.{timeless}
use Rattle.search_filter.specs.declared.query.Query.{Has}
use Rattle.search_filter.proofs.SplitSteps.{has_told}
use Rattle.search_filter.proofs.splits.split_has.Goals as goal

pub returns : goal.returns
returns c = has_told c.args.schema.now c.args.fields.now c.are_told.result c.timeless.result c.are_told.ensures c.if-not-are_told.false (c.timeless.ensures ∙ ap (λ places. timeless (Has places)) c.in_ok-from_slice.ensures)
