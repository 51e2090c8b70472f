use Rattle.std.proofs.Common.{◌≡◌, drop}
use Rattle.ts_mapping.specs.Checks.{are_below_any}
use Rattle.ts_mapping.proofs.checks.are_below.Given as goal

abbrev pub invariant-loop-field : goal.invariant-loop-field
invariant-loop-field l = are_below_any l.paths l.fields ≡ are_below_any l.paths (drop l.field-index l.fields)
