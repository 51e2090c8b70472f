use Rattle.std.proofs.Common.{◌≡◌, ◌++◌, take, drop}
use Rattle.ts_mapping.specs.Paths.{first_part}
use Rattle.ts_mapping.proofs.paths.first_part.Given as goal

abbrev pub invariant-loop-place : goal.invariant-loop-place
invariant-loop-place l = first_part l.path ≡ take l.place l.path ++ first_part (drop l.place l.path)
