use Rattle.std.proofs.Common.{◌≡◌, drop, map}
use Rattle.search_filter.specs.Splitting.{join_all, joined_both, split_of}
use Rattle.search_filter.proofs.SplitSteps.{IsWithin}
use Rattle.search_filter.proofs.splits.+splitting.Given as goal

-- what was joined, and what the rest gives, is what all give
abbrev pub invariant-join_all-loop-query : goal.invariant-join_all-loop-query
invariant-join_all-loop-query l = record {
  all : joined_both l.joined (join_all (map (split_of l.schema) (drop l.query-index l.queries))) ≡ join_all (map (split_of l.schema) l.queries);
  within : IsWithin l.joined;
}
