use Rattle.std.proofs.Common.{◌≡◌, drop, map, nat_le}
use Rattle.std.specs.List.{list_all, list_any}
use Rattle.search_filter.specs.Matching.{count_true, is_true, matches_row}
use Rattle.search_filter.proofs.matching.+matching.Given as goal

-- what is left has as many as are still wanted where all have as many as were
abbrev pub invariant-do_enough_match-loop-query : goal.invariant-do_enough_match-loop-query
invariant-do_enough_match-loop-query l =
    nat_le l.wanted (count_true (map (λ q. matches_row q l.schema l.row) (drop l.query-index l.queries))) ≡ nat_le l.least (count_true (map (λ q. matches_row q l.schema l.row) l.queries))

abbrev pub invariant-do_all_match-loop-query : goal.invariant-do_all_match-loop-query
invariant-do_all_match-loop-query l =
    list_all is_true (map (λ q. matches_row q l.schema l.row) (drop l.query-index l.queries)) ≡ list_all is_true (map (λ q. matches_row q l.schema l.row) l.queries)

abbrev pub invariant-does_any_match-loop-query : goal.invariant-does_any_match-loop-query
invariant-does_any_match-loop-query l =
    list_any is_true (map (λ q. matches_row q l.schema l.row) (drop l.query-index l.queries)) ≡ list_any is_true (map (λ q. matches_row q l.schema l.row) l.queries)
