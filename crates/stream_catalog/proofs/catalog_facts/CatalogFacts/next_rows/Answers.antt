use Rattle.std.proofs.Common.{◌∙◌, ap, subst, sym}
use Rattle.ts_mapping.specs.Facts.{IsTemplate}
use Rattle.stream_catalog.specs.Lists.{stream_name, template_name, template_named}
use Rattle.stream_catalog.specs.Plain.{PlainStream}
use Rattle.stream_catalog.specs.Sound.{IsStreamSound, IsThere}
use Rattle.stream_catalog.proofs.NamedLemmas.{each_found}
use Rattle.stream_catalog.proofs.catalog_facts.CatalogFacts.next_rows.Goals as goal

pub unreachable-requires : goal.unreachable-requires
unreachable-requires c =
    let named = ap (λ n. template_named n c.args.self.now.templates) (sym (c.as_bytes.ensures ∙ ap (λ (s : PlainStream). s.facts.template) c.stream.view_is)) ∙ sym c.in_default.ensures in
    subst IsThere named (each_found stream_name (IsStreamSound c.args.self.now) c.args.name.now c.args.self.now.streams c.in-Ok.rolling.stream.now c.in-Ok.ensures.stream c.requires.sound.streams).template

pub no_rows-requires-clause-schema : goal.no_rows-requires-clause-schema
no_rows-requires-clause-schema c =
    let named = ap (λ n. template_named n c.args.self.now.templates) (sym (c.as_bytes.ensures ∙ ap (λ (s : PlainStream). s.facts.template) c.stream.view_is)) ∙ sym c.in-Some.ensures in
    (each_found template_name IsTemplate c.in-Ok.rolling.stream.now.facts.template c.args.self.now.templates c.in-Some.template.now named c.requires.sound.templates).schema

pub no_rows-requires-clause-some : goal.no_rows-requires-clause-some
no_rows-requires-clause-some c =
    let named = ap (λ n. template_named n c.args.self.now.templates) (sym (c.as_bytes.ensures ∙ ap (λ (s : PlainStream). s.facts.template) c.stream.view_is)) ∙ sym c.in-Some.ensures in
    (each_found template_name IsTemplate c.in-Ok.rolling.stream.now.facts.template c.args.self.now.templates c.in-Some.template.now named c.requires.sound.templates).ranges.shards.0

pub no_rows-requires-clause-few : goal.no_rows-requires-clause-few
no_rows-requires-clause-few c =
    let named = ap (λ n. template_named n c.args.self.now.templates) (sym (c.as_bytes.ensures ∙ ap (λ (s : PlainStream). s.facts.template) c.stream.view_is)) ∙ sym c.in-Some.ensures in
    (each_found template_name IsTemplate c.in-Ok.rolling.stream.now.facts.template c.args.self.now.templates c.in-Some.template.now named c.requires.sound.templates).ranges.shards.1
