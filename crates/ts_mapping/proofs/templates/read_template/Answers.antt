use Rattle.std.proofs.Common.{subst}
use Rattle.serde_json.specs.View.{view}
use Rattle.ts_mapping.specs.Outcomes.{IsReadAs}
use Rattle.ts_mapping.proofs.Ranged.{in_range}
use Rattle.ts_mapping.proofs.templates.read_template.Goals as goal

pub returns-in-Ok-Made-clause-ranges : goal.returns-in-Ok-Made-clause-ranges
returns-in-Ok-Made-clause-ranges c =
    let read = subst (IsReadAs c.args.name.now (view c.args.body.now)) c.in-Ok-Made.field-0-is c.in-Ok-Made.ensures in
    in_range c.args.name.now (view c.args.body.now) c.in-Ok-Made.template read.0 read.1
