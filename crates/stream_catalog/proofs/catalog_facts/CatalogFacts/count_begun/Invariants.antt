use Rattle.std.proofs.Common.{◌≤◌, ◌-◌, length}
use Rattle.stream_catalog.specs.Picks.{begun_of}
use Rattle.stream_catalog.proofs.catalog_facts.CatalogFacts.count_begun.Given as goal

abbrev pub invariant-loop-low : goal.invariant-loop-low
invariant-loop-low l = record {
  behind : l.low ≤ begun_of l.self.indices l.time l.members;
  before : begun_of l.self.indices l.time l.members ≤ l.high;
  within : l.high ≤ length l.members;
}

abbrev pub decreases-loop-low : goal.decreases-loop-low
decreases-loop-low l = l.high - l.low
