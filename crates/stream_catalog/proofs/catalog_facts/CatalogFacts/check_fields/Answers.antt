use Rattle.stream_catalog.specs.Mapped.{seen_other}
use Rattle.stream_catalog.proofs.MappedLemmas.{none_changed, one_changed}
use Rattle.stream_catalog.proofs.catalog_facts.CatalogFacts.check_fields.Goals as goal

pub returns-in-None-clause-accepted : goal.returns-in-None-clause-accepted
returns-in-None-clause-accepted c =
    none_changed c.args.self.now c.args.template.now.name c.args.template.now.schema.fields c.all_indices.result.now c.requires.template.schema.mapped.ascending c.all_indices.ensures c.in-None.ensures

pub returns-in-Some-clause-refused : goal.returns-in-Some-clause-refused
returns-in-Some-clause-refused c =
    one_changed c.args.self.now c.args.template.now.name c.args.template.now.schema.fields c.all_indices.result.now (seen_other c.in-Some.other) c.as_str.result.now c.as_str-in-Some.result.now c.field_changed.result
    c.requires.template.schema.mapped.ascending c.all_indices.ensures c.in-Some.ensures c.as_str.ensures c.as_str-in-Some.ensures c.field_changed.ensures
