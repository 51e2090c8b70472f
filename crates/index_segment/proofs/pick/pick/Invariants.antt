use Rattle.std.proofs.Common.{◌≡◌, ◌++◌, drop, reverse}
use Rattle.index_segment.specs.Merging.{picked, sides}
use Rattle.index_segment.proofs.pick.pick.Given as goal

abbrev pub invariant-loop-turn : goal.invariant-loop-turn
invariant-loop-turn g l = l.all ++ picked (sides (drop l.turn-index l.turns)) (reverse l.first) (reverse l.second) ≡ picked (sides l.turns) l.fn.first l.fn.second
