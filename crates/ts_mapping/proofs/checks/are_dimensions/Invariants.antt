use Rattle.std.proofs.Common.{◌≡◌, drop}
use Rattle.ts_mapping.specs.Checks.{are_dimensions_at}
use Rattle.ts_mapping.proofs.checks.are_dimensions.Given as goal

abbrev pub invariant-loop-place : goal.invariant-loop-place
invariant-loop-place l = are_dimensions_at l.fields l.places ≡ are_dimensions_at l.fields (drop l.place-index l.places)
