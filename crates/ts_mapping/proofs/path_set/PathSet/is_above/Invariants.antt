use Rattle.std.proofs.Common.{◌≡◌, ◌<◌, ℕ, false, take, get_or}
use Rattle.ts_mapping.specs.Paths.{is_among}
use Rattle.ts_mapping.proofs.path_set.PathSet.is_above.Given as goal

-- no front before a dot is in the set
abbrev pub invariant-loop-place : goal.invariant-loop-place
invariant-loop-place l = (k : ℕ) → k < l.place → get_or l.path k 0 ≡ 46 → is_among (take k l.path) l.self ≡ false
