use Rattle.std.proofs.Common.{◌∙◌, ap, to_z, of_z, w64}
use Rattle.ts_mapping.specs.Facts.{IsTemplate}
use Rattle.stream_catalog.specs.declared.facts.HeldIndex.{HeldIndex}
use Rattle.stream_catalog.specs.Lists.{facts_named}
use Rattle.stream_catalog.specs.Streams.{first_name}
use Rattle.stream_catalog.proofs.NewLemmas.{may_create, taken_is}
use Rattle.stream_catalog.proofs.TakenLemmas.{free_index, free_stream}
use Rattle.stream_catalog.proofs.catalog_facts.CatalogFacts.create.Goals as goal

pub make_pair-requires-clause-back : goal.make_pair-requires-clause-back
make_pair-requires-clause-back c =
    (taken_is IsTemplate c.args.name.now c.args.self.now.templates c.in-Ok.creation.template.now c.in-Ok.ensures.template c.requires.templates).ranges.look_back

pub put_pair-requires-clause-stream : goal.put_pair-requires-clause-stream
put_pair-requires-clause-stream c =
    free_stream c.args.name.now c.args.self.now (may_create c.args.self.now c.args.name.now (to_z w64 (of_z w64 c.args.now)) c.in-Ok.ensures.accepted).free

pub put_pair-requires-clause-index : goal.put_pair-requires-clause-index
put_pair-requires-clause-index c =
    let at = to_z w64 (of_z w64 c.args.now) in
    ap (λ (i : HeldIndex). facts_named i.name c.args.self.now.indices) c.in_ok-pair.ensures.index
    ∙ free_index (first_name c.args.name.now at) c.args.self.now (may_create c.args.self.now c.args.name.now at c.in-Ok.ensures.accepted).index_free
