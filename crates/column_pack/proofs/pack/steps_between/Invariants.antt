use Rattle.std.proofs.Common.{◌≡◌, ℕ, ◌<◌, ◌+◌, ◌-◌, get_or}
use Rattle.column_pack.proofs.pack.steps_between.Given as goal

abbrev pub invariant-loop-i : goal.invariant-loop-i
invariant-loop-i l = (k : ℕ) → k < l.i → get_or l.steps k 0 ≡ get_or l.places (k + 1) 0 - get_or l.places k 0
