use Rattle.std.proofs.Common.{◌≡◌, drop}
use Rattle.std.specs.List.{list_any}
use Rattle.search_filter.specs.Matching.{is_one_of}
use Rattle.search_filter.proofs.matching.is_any_one_of.Given as goal

abbrev pub invariant-loop-value : goal.invariant-loop-value
invariant-loop-value l = list_any (is_one_of l.values) (drop l.value-index l.several) ≡ list_any (is_one_of l.values) l.several
