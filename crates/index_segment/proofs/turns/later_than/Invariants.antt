use Rattle.std.proofs.Common.{◌≡◌, ◌+◌, drop, Some}
use Rattle.index_segment.specs.Turns.{count_later}
use Rattle.index_segment.proofs.turns.later_than.Given as goal

abbrev pub invariant-loop-place : goal.invariant-loop-place
invariant-loop-place l = l.place + count_later (Some l.bound) (drop l.place l.times) ≡ count_later (Some l.bound) l.times
