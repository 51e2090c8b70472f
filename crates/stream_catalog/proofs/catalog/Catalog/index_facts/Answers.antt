use Rattle.std.specs.Option.{option_copied}
use Rattle.stream_catalog.proofs.HeldLemmas.{facts_told}
use Rattle.stream_catalog.proofs.catalog.Catalog.index_facts.Goals as goal

pub returns : goal.returns
returns c =
    facts_told c.self.inside.facts c.self.inside.rows c.args.self.now c.as_bytes.result.now c.args.name.now (option_copied c.index.result) c.self.invariant c.self.view_is c.as_bytes.ensures c.index.ensures
