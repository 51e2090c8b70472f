use Rattle.std.proofs.Common.{◌≡◌, ◌+◌, drop, Some}
use Rattle.index_segment.specs.Turns.{count_since}
use Rattle.index_segment.proofs.turns.since.Given as goal

abbrev pub invariant-loop-place : goal.invariant-loop-place
invariant-loop-place l = l.place + count_since (Some l.bound) (drop l.place l.times) ≡ count_since (Some l.bound) l.times
