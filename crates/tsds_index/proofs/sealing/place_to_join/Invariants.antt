use Rattle.std.proofs.Common.{length}
use Rattle.tsds_index.proofs.Rules.{AreJoining}
use Rattle.tsds_index.proofs.sealing.place_to_join.Given as goal

abbrev pub invariant-loop-older : goal.invariant-loop-older
invariant-loop-older l = AreJoining l.segments l.left l.rows l.size

abbrev pub decreases-loop-older : goal.decreases-loop-older
decreases-loop-older l = length l.left
