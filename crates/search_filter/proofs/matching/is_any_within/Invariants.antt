use Rattle.std.proofs.Common.{◌≡◌, drop}
use Rattle.std.specs.List.{list_any}
use Rattle.search_filter.specs.Matching.{is_within}
use Rattle.search_filter.proofs.matching.is_any_within.Given as goal

abbrev pub invariant-loop-value : goal.invariant-loop-value
invariant-loop-value l = list_any (is_within l.low l.high) (drop l.value-index l.several) ≡ list_any (is_within l.low l.high) l.several
