use Rattle.std.proofs.Common.{rules, is_lt}
use Rattle.std.proofs.lemmas.Result.{on_ok_weaker}
use Rattle.std.proofs.lemmas.List.Sorted.{ranks_by}
use Rattle.std.proofs.lemmas.Fn.{always_returns_same}
use Rattle.hits_page.specs.Hits.{hit_cmp}
use Rattle.hits_page.specs.PageLaws.{hit_total}
use Rattle.hits_page.proofs.pager.sort_hits.Goals as goal

pub returns-clause-sorted : goal.returns-clause-sorted
returns-clause-sorted c =
    let keys = c.args.keys.now in
    on_ok_weaker c.sort_by.result
    (λ sorted. sorted (λ a b. is_lt (hit_cmp keys a b)) (ranks_by (hit_total keys) (λ x. x)) (always_returns_same _ _ _ (λ a r f k. search rules)))
    c.sort_by.ensures.sorted

pub returns-clause-stable : goal.returns-clause-stable
returns-clause-stable c =
    let keys = c.args.keys.now in
    c.sort_by.ensures.stable (λ a b. is_lt (hit_cmp keys a b)) (ranks_by (hit_total keys) (λ x. x)) (always_returns_same _ _ _ (λ a r f k. search rules))
