use Rattle.std.proofs.Common.{◌≡◌, [], drop}
use Rattle.ts_mapping.specs.Checks.{ascend_after}
use Rattle.ts_mapping.proofs.checks.ascend.Given as goal

abbrev pub invariant-loop-field : goal.invariant-loop-field
invariant-loop-field l = ascend_after [] l.fields ≡ ascend_after l.before (drop l.field-index l.fields)
