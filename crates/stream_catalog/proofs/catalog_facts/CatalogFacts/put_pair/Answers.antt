use Rattle.std.proofs.Common.{◌∙◌, ap}
use Rattle.stream_catalog.specs.Plain.{PlainFacts}
use Rattle.stream_catalog.specs.Lists.{stream_named}
use Rattle.stream_catalog.proofs.CreationLemmas.{facts_undone, stream_undone}
use Rattle.stream_catalog.proofs.catalog_facts.CatalogFacts.put_pair.Goals as goal

pub returns-in-Err-clause-err : goal.returns-in-Err-clause-err
returns-in-Err-clause-err c =
    facts_undone c.args.self.now c.self.inside.templates c.self.inside.streams c.take_out.new.self c.self.inside.indices c.put-2.new.self c.self.inside.tasks.items
    (stream_undone c.args.name.now c.as_bytes.result.now c.args.pair.stream c.self.inside.streams c.put.new.self c.take_out.new.self c.requires.named c.as_bytes.ensures
    (ap (λ (f : PlainFacts). stream_named c.args.name.now f.streams) c.self.view_is ∙ c.requires.stream) c.in_ok-put.ensures.fresh c.take_out.ensures.left)
    c.in-Err.ensures.err c.self.view_is
