use Rattle.std.proofs.Common.{ap, length, ◌∙◌}
use Rattle.index_segment.specs.Held.{Held}
use Rattle.index_segment.proofs.Writing.{times_long}
use Rattle.index_segment.proofs.segment.Segment.len.Goals as goal

pub returns : goal.returns
returns c = c.len.ensures ∙ (times_long _ _ _ _ _ _ _ _ c.self.invariant ∙ ap (λ (h : Held). length h.rows) c.self.view_is)
