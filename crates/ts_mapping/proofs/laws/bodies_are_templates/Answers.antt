use Rattle.ts_mapping.proofs.Bodies.{bodies_are_templates}
use Rattle.ts_mapping.proofs.laws.bodies_are_templates.Goals as goal

pub returns : goal.returns
returns c = bodies_are_templates
