use Rattle.lifecycle_swap.specs.BodyLaws.{bodies_are_lifecycles}
use Rattle.lifecycle_swap.proofs.laws.bodies_are_lifecycles.Goals as goal

pub returns : goal.returns
returns c = bodies_are_lifecycles
