use Rattle.stream_catalog.proofs.HeldChangeLemmas.{held_life}
use Rattle.stream_catalog.proofs.catalog.Catalog.set_lifecycle.Goals as goal

pub invariant_of-self-2 : goal.invariant_of-self-2
invariant_of-self-2 c = held_life c.self.inside.facts c.set_life.new.self c.self.inside.rows c.args.stream.now c.args.life c.requires c.self.invariant c.in_ok-set_life.ensures.ok
