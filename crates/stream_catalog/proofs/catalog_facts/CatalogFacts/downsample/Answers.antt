use Rattle.stream_catalog.proofs.RolloverLemmas.{downsampled_in}
use Rattle.stream_catalog.proofs.catalog_facts.CatalogFacts.downsample.Goals as goal

pub returns-clause-ok : goal.returns-clause-ok
returns-clause-ok c =
    downsampled_in c.args.self.now c.self.inside.templates c.self.inside.streams c.self.inside.indices c.put.new.self c.self.inside.tasks.items c.self.view_is
    c.args.source.now c.args.target.now c.args.by c.in-Ok.index.now c.in_ok-fold.fold c.in-Ok.ensures.found c.in-Ok.ensures.accepted c.in_ok-fold.ensures c.in_ok-put.ensures.fresh
