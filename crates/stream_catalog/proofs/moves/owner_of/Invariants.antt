use Rattle.std.proofs.Common.{◌≡◌, drop}
use Rattle.std.specs.List.{find}
use Rattle.stream_catalog.specs.Streams.{has_member}
use Rattle.stream_catalog.proofs.moves.owner_of.Given as goal

abbrev pub invariant-loop-stream : goal.invariant-loop-stream
invariant-loop-stream l = find (λ s. has_member s l.index) (drop l.stream-index l.streams) ≡ find (λ s. has_member s l.index) l.streams
