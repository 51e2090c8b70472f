use Rattle.std.proofs.Common.{◌≡◌, drop}
use Rattle.std.specs.Prelude.{◌-ℤ◌}
use Rattle.std.specs.Option.{option_or}
use Rattle.lifecycle_swap.specs.Plan.{round_at}
use Rattle.lifecycle_swap.proofs.planning.round_at.Given as goal

-- the last of the rest, or else what was found, is the last of all
abbrev pub invariant-loop-round : goal.invariant-loop-round
invariant-loop-round l = option_or (round_at (drop l.round-index l.rounds) (l.now -ℤ l.end)) l.found ≡ round_at l.rounds (l.now -ℤ l.end)
