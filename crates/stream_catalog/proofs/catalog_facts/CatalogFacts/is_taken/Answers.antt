use Rattle.std.proofs.Common.{◌∙◌, ap, sym}
use Rattle.stream_catalog.proofs.TakenLemmas.{is_target_of, taken_index, taken_stream, taken_target}
use Rattle.stream_catalog.proofs.catalog_facts.CatalogFacts.is_taken.Goals as goal

pub returns-then-has_stream : goal.returns-then-has_stream
returns-then-has_stream c = sym (taken_stream c.args.name.now c.args.self.now (sym c.if-has_stream.ensures))

pub returns-then-has_index : goal.returns-then-has_index
returns-then-has_index c = sym (taken_index c.args.name.now c.args.self.now (sym c.if-has_index.ensures))

pub returns : goal.returns
returns c =
    (c.is_target.ensures ∙ ap (is_target_of c.args.name.now) c.all_tasks.ensures) ∙ sym (taken_target c.args.name.now c.args.self.now (sym c.if-has_stream.ensures) (sym c.if-has_index.ensures))
