use Rattle.std.proofs.Common.{ap, ◌∙◌}
use Rattle.index_segment.specs.Turns.{count_later, count_since}
use Rattle.index_segment.proofs.Sides.{turn_pushed}
use Rattle.index_segment.proofs.turns.push_turns.Goals as goal

pub loop-left-preserved : goal.loop-left-preserved
loop-left-preserved c = turn_pushed _ _ _ _ _ _ _ _ _ _ c.in_ok-push.ensures.items c.split_at.ensures.front_len c.split_at-in-loop-left.ensures.front_len (c.later_than.ensures.count ∙ ap (λ o. count_later o c.loop-left.left.now) c.first.ensures.value) c.split_at.ensures.back (c.since.ensures.count ∙ ap (λ o. count_since o c.loop-left.right.now) c.first-in-loop-left.ensures.value) c.split_at-in-loop-left.ensures.back c.loop-left.invariant
