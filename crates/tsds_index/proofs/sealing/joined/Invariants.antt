use Rattle.std.proofs.Common.{◌++◌, length}
use Rattle.tsds_index.specs.Segments.{lists_in}
use Rattle.tsds_index.specs.Spread.{newest_first}
use Rattle.tsds_index.proofs.Many.{AreJoined}
use Rattle.tsds_index.proofs.sealing.joined.Given as goal

abbrev pub invariant-loop-older : goal.invariant-loop-older
invariant-loop-older l = AreJoined l.schema (l.rows ++ newest_first (lists_in l.segments)) l.one l.left

abbrev pub decreases-loop-older : goal.decreases-loop-older
decreases-loop-older l = length l.left
