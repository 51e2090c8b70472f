use Rattle.std.proofs.Common.{◌∙◌, ap}
use Rattle.stream_catalog.specs.Moves.{insert_member}
use Rattle.stream_catalog.specs.Plain.{PlainStream}
use Rattle.stream_catalog.proofs.RolloverLemmas.{added_in}
use Rattle.stream_catalog.proofs.catalog_facts.CatalogFacts.add.Goals as goal

pub returns-clause-ok : goal.returns-clause-ok
returns-clause-ok c =
    added_in c.args.self.now c.self.inside.templates c.self.inside.streams c.change.new.self c.self.inside.indices c.self.inside.tasks.items c.self.view_is
    c.args.stream.now c.args.index.now c.as_bytes.result.now c.in-Ok.joining.stream.now c.in-Ok.joining.index.now c.in_ok-members.members c.as_bytes.ensures c.in-Ok.ensures.stream c.in-Ok.ensures.index
    (c.in_ok-members.ensures ∙ ap (insert_member c.args.self.now.indices c.in-Ok.joining.index.now) (c.as_slice.ensures ∙ ap (λ (s : PlainStream). s.facts.members) c.held.view_is)) c.change.ensures.changed
