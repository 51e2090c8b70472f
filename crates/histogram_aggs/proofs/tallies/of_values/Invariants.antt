use Rattle.std.proofs.Common.{◌≡◌, map, take}
use Rattle.search_filter.specs.Values.{number_of}
use Rattle.histogram_aggs.specs.Tallies.{of_numbers}
use Rattle.histogram_aggs.proofs.tallies.of_values.Given as goal

abbrev pub invariant-loop-value : goal.invariant-loop-value
invariant-loop-value l = l.tally ≡ of_numbers l.kind (map number_of (take l.value-index l.values))
