use Rattle.std.proofs.Common.{◌≤◌, ◌-◌, length}
use Rattle.stream_catalog.specs.Places.{place_of}
use Rattle.stream_catalog.proofs.by_name.find_place.Given as goal

abbrev pub invariant-loop-low : goal.invariant-loop-low
invariant-loop-low g l = record {
  behind : l.low ≤ place_of g.T.Named.name_of l.name l.items;
  before : place_of g.T.Named.name_of l.name l.items ≤ l.high;
  within : l.high ≤ length l.items;
}

abbrev pub decreases-loop-low : goal.decreases-loop-low
decreases-loop-low g l = l.high - l.low
