use Rattle.std.proofs.Common.{◌≡◌, ◌≤◌, length, subst, take, arith}
use Rattle.row_cells.specs.Sorted.{sorted}
use Rattle.hits_page.specs.Hits.{hit_cmp}
use Rattle.hits_page.proofs.Keeping.{settled, within_limit}
use Rattle.hits_page.proofs.pager.Pager.make_room.Goals as goal

pub returns-clause-stands : goal.returns-clause-stands
returns-clause-stands c =
    let p = c.args.self.now in
    let new = c.settle.new.hits.items in
    let cut = subst (λ keys. new ≡ take p.limit (sorted (hit_cmp keys) p.held.items)) c.as_slice.ensures c.in_ok-settle.ensures.cut in
    let enough : p.limit ≤ length p.held.items = omega (arith, c.if-len-self.false, c.len.ensures) in
    λ offered stands. record { total = stands.total; limit = stands.limit; few = omega (arith, within_limit p.keys p.limit p.held.items new cut); holds = settled p.keys p.limit p.has_mark p.held.items new offered cut enough stands.holds }

pub returns-clause-room : goal.returns-clause-room
returns-clause-room c =
    let p = c.args.self.now in
    let new = c.settle.new.hits.items in
    let cut = subst (λ keys. new ≡ take p.limit (sorted (hit_cmp keys) p.held.items)) c.as_slice.ensures c.in_ok-settle.ensures.cut in
    λ some. omega (arith, some, within_limit p.keys p.limit p.held.items new cut)
