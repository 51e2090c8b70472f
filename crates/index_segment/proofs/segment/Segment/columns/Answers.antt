use Rattle.std.proofs.Common.{ap, ◌∙◌}
use Rattle.index_segment.specs.Columns.{columns_of}
use Rattle.index_segment.specs.Held.{Held}
use Rattle.index_segment.proofs.Lent.{columns_behind}
use Rattle.index_segment.proofs.segment.Segment.columns.Goals as goal

pub returns-clause-behind : goal.returns-clause-behind
returns-clause-behind c bytes front is front_is =
    let h = c.args.self.now in
    columns_behind h.schema h.rows c.as_slice.result.now bytes front (c.as_slice.ensures ∙ (c.self.invariant.columns_are ∙ ap (λ (held : Held). columns_of held.schema held.rows) c.self.view_is)) is front_is
