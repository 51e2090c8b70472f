use Rattle.std.proofs.Common.{◌≡◌, ◌++◌, ◌∷◌, [], true, subst, sym, ◌∙◌}
use Rattle.hits_page.specs.Hits.{is_past, offered_place}
use Rattle.hits_page.specs.Pages.{hit_offered}
use Rattle.hits_page.proofs.Keeping.{passed, pushed}
use Rattle.hits_page.proofs.pager.Pager.keep.Goals as goal

pub returns-then-is_past-clause-taken : goal.returns-then-is_past-clause-taken
returns-then-is_past-clause-taken c =
    let p = c.args.self.now in
    let offer = c.args.offer in
    let told = subst (λ keys. is_past keys (offered_place keys offer) p.limit p.has_mark c.as_slice-2.result.now ≡ true) c.as_slice.ensures (sym c.is_past.ensures ∙ c.if-is_past.true) in
    let past = subst (λ hits. is_past p.keys (offered_place p.keys offer) p.limit p.has_mark hits ≡ true) c.as_slice-2.ensures.value told in
    λ offered stands. passed p.keys p.limit p.has_mark (hit_offered p.keys offer) p.held.items offered past stands.holds

pub returns-clause-taken : goal.returns-clause-taken
returns-clause-taken c =
    let offer = c.args.offer in
    let q = c.make_room.new.self in
    let new = c.put_row.new.hits.items in
    let keys_are = c.as_slice-3.ensures ∙ c.in_ok-make_room.ensures.asked.0 in
    let put = subst (λ keys. new ≡ q.held.items ++ hit_offered keys offer ∷ []) keys_are c.in_ok-put_row.ensures.ok in
    λ offered stands. pushed q.keys q.limit q.has_mark (hit_offered c.args.self.now.keys offer) q.held.items new offered put (c.in_ok-make_room.ensures.stands offered stands).holds
