use Rattle.std.proofs.Common.{length}
use Rattle.probe_index.proofs.reads.keys.Given as goal

abbrev pub decreases-loop-key : goal.decreases-loop-key
decreases-loop-key l = length l.walk.ahead
