use Rattle.std.proofs.Common.{◌≡◌, subst, take}
use Rattle.row_cells.specs.Sorted.{sorted}
use Rattle.hits_page.specs.Hits.{hit_cmp}
use Rattle.hits_page.proofs.Cutting.{finished}
use Rattle.hits_page.proofs.pager.Pager.finish.Goals as goal

pub returns : goal.returns
returns c =
    let p = c.args.self in
    let settled = subst (λ keys. c.settle.new.hits.items ≡ take p.limit (sorted (hit_cmp keys) p.held.items)) c.as_slice.ensures c.in_ok-settle.ensures.cut in
    λ offered stands. finished p c.settle.new.hits.items c.in_ok-rows.rows offered settled c.in_ok-rows.ensures stands
