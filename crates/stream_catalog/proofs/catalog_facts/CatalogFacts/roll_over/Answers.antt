use Rattle.std.proofs.Common.{◌∙◌, ap, sym, to_z, of_z, w64}
use Rattle.std.proofs.lemmas.Int.{to_z-of_z}
use Rattle.stream_catalog.specs.FactChanges.{facts_rolled_over}
use Rattle.stream_catalog.specs.Lists.{facts_name, template_named}
use Rattle.stream_catalog.specs.Plain.{PlainStream}
use Rattle.stream_catalog.specs.Sound.{IsHeld}
use Rattle.stream_catalog.specs.Streams.{write_name}
use Rattle.stream_catalog.proofs.NamedLemmas.{each_found}
use Rattle.stream_catalog.proofs.RolloverLemmas.{next_free, rolled_by}
use Rattle.stream_catalog.proofs.catalog_facts.CatalogFacts.roll_over.Goals as goal

pub make_next-requires-clause-end : goal.make_next-requires-clause-end
make_next-requires-clause-end c =
    (each_found facts_name (IsHeld c.args.self.now) (write_name c.in-Ok.rolling.stream.now) c.args.self.now.indices c.in-Ok.rolling.write.now c.in-Ok.ensures.write c.requires.sound.indices).ends

pub put_next-requires : goal.put_next-requires
put_next-requires c =
    next_free c.args.self.now c.args.name.now (to_z w64 (of_z w64 c.args.now)) c.in-Ok.rolling.stream.now c.in-Some.template.now c.in-Ok.rolling.write.now c.in_ok-next.next.index c.in-Ok.ensures.stream c.in-Ok.ensures.write
    c.in-Ok.ensures.accepted c.in_ok-next.ensures.index

pub returns-clause-ok : goal.returns-clause-ok
returns-clause-ok c =
    let named = ap (λ n. template_named n c.args.self.now.templates) (sym (c.as_bytes.ensures ∙ ap (λ (s : PlainStream). s.facts.template) c.stream.view_is)) ∙ sym c.in-Some.ensures in
    rolled_by c.args.self.now c.put_next.new.self c.args.name.now (to_z w64 (of_z w64 c.args.now)) c.in-Ok.rolling.stream.now c.in-Some.template.now c.in-Ok.rolling.write.now c.in_ok-next.next.index c.in_ok-next.next.roll.generation
    c.in_ok-next.next.roll.members c.in-Ok.ensures.stream named c.in-Ok.ensures.write c.in_ok-next.ensures.index c.in_ok-next.ensures.generation c.in_ok-next.ensures.members c.in_ok-put_next.ensures.ok
    ∙ ap (facts_rolled_over c.args.self.now c.args.name.now) (to_z-of_z w64 c.args.now c.ranges.now)
