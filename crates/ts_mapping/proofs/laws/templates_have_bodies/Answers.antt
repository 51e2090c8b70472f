use Rattle.ts_mapping.proofs.ShownBody.{templates_have_bodies}
use Rattle.ts_mapping.proofs.laws.templates_have_bodies.Goals as goal

pub returns : goal.returns
returns c = templates_have_bodies
