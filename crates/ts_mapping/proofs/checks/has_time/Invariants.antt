use Rattle.std.proofs.Common.{◌≡◌, drop}
use Rattle.ts_mapping.specs.Checks.{has_time_field}
use Rattle.ts_mapping.proofs.checks.has_time.Given as goal

abbrev pub invariant-loop-field : goal.invariant-loop-field
invariant-loop-field l = has_time_field l.fields ≡ has_time_field (drop l.field-index l.fields)
