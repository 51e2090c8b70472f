use Rattle.std.proofs.Common.{◌≡◌, drop}
use Rattle.ts_mapping.specs.Checks.{places_ascend}
use Rattle.ts_mapping.proofs.checks.places_ascend.Given as goal

abbrev pub invariant-loop-place : goal.invariant-loop-place
invariant-loop-place l = places_ascend 0 l.count l.places ≡ places_ascend l.least l.count (drop l.place-index l.places)
