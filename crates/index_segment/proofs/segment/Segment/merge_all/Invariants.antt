use Rattle.std.proofs.Common.{length}
use Rattle.index_segment.proofs.Many.{AreLeft}
use Rattle.index_segment.proofs.segment.Segment.merge_all.Given as goal

abbrev pub invariant-loop-part : goal.invariant-loop-part
invariant-loop-part l = AreLeft l.schema l.parts l.merged l.left

abbrev pub decreases-loop-part : goal.decreases-loop-part
decreases-loop-part l = length l.left
