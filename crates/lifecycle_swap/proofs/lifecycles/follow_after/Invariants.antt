use Rattle.std.proofs.Common.{◌≡◌, drop}
use Rattle.lifecycle_swap.specs.Lifecycles.{follow_after}
use Rattle.lifecycle_swap.proofs.lifecycles.follow_after.Given as goal

abbrev pub invariant-loop-round : goal.invariant-loop-round
invariant-loop-round l = follow_after l.before (drop l.round-index l.rounds) ≡ follow_after l.fn.first l.rounds
