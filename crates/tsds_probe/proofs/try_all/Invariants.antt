use Rattle.edge_face.specs.Waiting.{KnowsEnd}
use Rattle.std.proofs.Common.{None}
use Rattle.tsds_probe.proofs.try_all.Given as goal

abbrev pub invariant-lines : goal.invariant-lines
invariant-lines l = KnowsEnd l.reader.ended None
