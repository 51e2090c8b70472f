use Rattle.std.proofs.Common.{◌≡◌, drop}
use Rattle.stream_catalog.specs.Moves.{moved_by, moves_refusal}
use Rattle.stream_catalog.proofs.catalog_facts.CatalogFacts.make_moves.Given as goal

abbrev pub invariant-loop-step : goal.invariant-loop-step
invariant-loop-step l = record {
  refusal : moves_refusal l.self (drop l.step-index l.steps) ≡ moves_refusal l.initial.self l.steps;
  facts : moved_by l.self (drop l.step-index l.steps) ≡ moved_by l.initial.self l.steps;
  templates : l.self.templates ≡ l.initial.self.templates;
  indices : l.self.indices ≡ l.initial.self.indices;
}
