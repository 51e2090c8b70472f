use Rattle.std.proofs.Common.{◌≡◌, ◌+◌, ◌++◌, length}
use Rattle.index_segment.specs.Merging.{sides, sides_by_time}
use Rattle.index_segment.proofs.turns.push_turns.Given as goal

abbrev pub invariant-loop-left : goal.invariant-loop-left
invariant-loop-left l = sides l.into.items ++ sides_by_time l.left l.right ≡ sides l.initial.into.items ++ sides_by_time l.fn.first l.fn.second

abbrev pub decreases-loop-left : goal.decreases-loop-left
decreases-loop-left l = length l.left + length l.right
