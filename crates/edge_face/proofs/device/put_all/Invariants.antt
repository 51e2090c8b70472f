use Rattle.std.proofs.Common.{length, ◌-◌, ◌≡◌, ◌≤◌, take}
use Rattle.edge_face.specs.Contents.{appended}
use Rattle.edge_face.proofs.device.put_all.Given as goal

-- the first bytes were put, and the count did not fall
abbrev pub invariant-loop-gone : goal.invariant-loop-gone
invariant-loop-gone g l = record {
  within : l.gone ≤ length l.bytes;
  put : g.K.Sink.given l.sink ≡ appended (g.K.Sink.given l.fn.sink) (take l.gone l.bytes);
  counted : g.K.Sink.faults l.fn.sink ≤ g.K.Sink.faults l.sink;
  beside : g.K.Sink.beside l.sink ≡ g.K.Sink.beside l.fn.sink;
}

abbrev pub decreases-loop-gone : goal.decreases-loop-gone
decreases-loop-gone g l = length l.bytes - l.gone
