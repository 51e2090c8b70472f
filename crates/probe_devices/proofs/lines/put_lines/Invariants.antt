use Rattle.edge_face.specs.Waiting.{KnowsEnd}
use Rattle.probe_devices.proofs.lines.put_lines.Given as goal

abbrev pub invariant-lines : goal.invariant-lines
invariant-lines g l = KnowsEnd l.reader.ended (g.S.Source.left l.source)
