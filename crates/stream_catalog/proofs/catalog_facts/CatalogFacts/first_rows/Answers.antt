use Rattle.ts_mapping.specs.Facts.{IsTemplate}
use Rattle.stream_catalog.proofs.NewLemmas.{taken_is}
use Rattle.stream_catalog.proofs.catalog_facts.CatalogFacts.first_rows.Goals as goal

pub no_rows-requires-clause-schema : goal.no_rows-requires-clause-schema
no_rows-requires-clause-schema c = (taken_is IsTemplate c.args.name.now c.args.self.now.templates c.in-Ok.creation.template.now c.in-Ok.ensures.template c.requires.templates).schema

pub no_rows-requires-clause-some : goal.no_rows-requires-clause-some
no_rows-requires-clause-some c = (taken_is IsTemplate c.args.name.now c.args.self.now.templates c.in-Ok.creation.template.now c.in-Ok.ensures.template c.requires.templates).ranges.shards.0

pub no_rows-requires-clause-few : goal.no_rows-requires-clause-few
no_rows-requires-clause-few c = (taken_is IsTemplate c.args.name.now c.args.self.now.templates c.in-Ok.creation.template.now c.in-Ok.ensures.template c.requires.templates).ranges.shards.1
