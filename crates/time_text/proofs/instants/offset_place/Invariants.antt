use Rattle.std.proofs.Common.{◌≡◌, ◌+◌, drop}
use Rattle.time_text.specs.Instant as Instant
use Rattle.time_text.proofs.instants.offset_place.Given as goal

abbrev pub invariant-loop-place : goal.invariant-loop-place
invariant-loop-place l = Instant.offset_place l.text ≡ l.place + Instant.offset_place (drop l.place l.text)
