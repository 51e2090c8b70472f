use Rattle.std.proofs.Common.{ap, take, ◌∙◌}
use Rattle.hits_page.specs.Hits.{hit_cmp}
use Rattle.hits_page.specs.PageLaws.{hit_total}
use Rattle.search_filter.specs.StableLaws.{stable_sorted}
use Rattle.hits_page.proofs.pager.settle.Goals as goal

pub returns-clause-cut : goal.returns-clause-cut
returns-clause-cut c =
    let keys = c.args.keys.now in
    c.truncate.ensures.items
    ∙ ap (take c.args.limit) (stable_sorted (hit_cmp keys) (hit_total keys) c.args.hits.now.items c.sort_hits.new.hits.items c.in_ok-sort_hits.ensures.sorted c.in_ok-sort_hits.ensures.stable)
