use Rattle.std.proofs.Common.{rules, is_lt}
use Rattle.std.proofs.lemmas.Result.{on_ok_weaker}
use Rattle.std.proofs.lemmas.List.Sorted.{ranks_by}
use Rattle.std.proofs.lemmas.Fn.{always_returns_same}
use Rattle.search_filter.specs.ValueLaws.{value_cmp_total}
use Rattle.search_filter.specs.Values.{value_cmp}
use Rattle.search_filter.proofs.value_set.sort.Goals as goal

pub returns-clause-sorted : goal.returns-clause-sorted
returns-clause-sorted c =
    on_ok_weaker c.sort_by.result
    (λ sorted. sorted (λ a b. is_lt (value_cmp a b)) (ranks_by value_cmp_total (λ x. x)) (always_returns_same _ _ _ (λ a r f k. search rules)))
    c.sort_by.ensures.sorted

pub returns-clause-stable : goal.returns-clause-stable
returns-clause-stable c =
    c.sort_by.ensures.stable (λ a b. is_lt (value_cmp a b)) (ranks_by value_cmp_total (λ x. x)) (always_returns_same _ _ _ (λ a r f k. search rules))
