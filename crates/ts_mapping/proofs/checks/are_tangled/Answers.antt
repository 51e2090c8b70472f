use Rattle.std.proofs.Common.{◌∙◌}
use Rattle.ts_mapping.specs.Checks.{field_paths}
use Rattle.ts_mapping.proofs.Tested.{below_alike}
use Rattle.ts_mapping.proofs.checks.are_tangled.Goals as goal

pub returns : goal.returns
returns c = c.are_below.ensures ∙ below_alike c.in_ok-paths.paths (field_paths c.args.fields.now) c.in_ok-paths.ensures c.args.fields.now
