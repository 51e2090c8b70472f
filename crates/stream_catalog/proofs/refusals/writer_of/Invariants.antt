use Rattle.std.proofs.Common.{◌≡◌, drop}
use Rattle.std.specs.List.{find}
use Rattle.stream_catalog.specs.Streams.{is_write}
use Rattle.stream_catalog.proofs.refusals.writer_of.Given as goal

abbrev pub invariant-loop-stream : goal.invariant-loop-stream
invariant-loop-stream l = find (λ s. is_write s l.index) (drop l.stream-index l.streams) ≡ find (λ s. is_write s l.index) l.streams
