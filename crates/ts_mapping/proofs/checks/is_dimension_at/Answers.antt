use Rattle.std.proofs.Common.{◌∙◌, ap, arith}
use Rattle.ts_mapping.specs.Fields.{is_dimension_role}
use Rattle.ts_mapping.specs.Schemas.{time_field}
use Rattle.ts_mapping.proofs.Tested.{none_at, role_there}
use Rattle.ts_mapping.proofs.checks.is_dimension_at.Goals as goal

pub returns : goal.returns
returns c = c.is_dimension.ensures ∙ (ap is_dimension_role (c.role_at.ensures time_field) ∙ role_there c.args.fields.now c.args.place (omega arith))

pub returns-then-fields-place : goal.returns-then-fields-place
returns-then-fields-place c = none_at c.args.fields.now c.args.place (omega (arith, c.if-fields-place.true))
