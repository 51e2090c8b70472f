use Rattle.std.proofs.Common.{◌≡◌, ◌++◌, ◌||◌, length, map, drop, take}
use Rattle.std.specs.List.{list_any}
use Rattle.tsds_cli.specs.Documents.{outcomes_of, documents_after, item_of, is_refused}
use Rattle.tsds_cli.proofs.SourcesLemmas.{texts}
use Rattle.tsds_cli.proofs.machine.take_sources.Given as goal

-- what was made so far and what the rest gives are all
abbrev pub invariant-loop-source : goal.invariant-loop-source
invariant-loop-source l = record {
  items : l.items.items ++ map item_of (outcomes_of l.documents (texts (drop l.source-index l.sources))) ≡ map item_of (outcomes_of l.fn.documents (texts l.sources));
  errors : (l.errors || list_any is_refused (outcomes_of l.documents (texts (drop l.source-index l.sources)))) ≡ list_any is_refused (outcomes_of l.fn.documents (texts l.sources));
  after : documents_after l.documents (texts (drop l.source-index l.sources)) ≡ documents_after l.fn.documents (texts l.sources);
  front : take (length l.fn.documents) l.documents ≡ l.fn.documents;
}
